-- Whether the room is as filled from i on is whether it is from the start on.
use Rattle.replay_script.specs.TheScript.{as_filled}
use mathlib.Core.Path.{◌≡◌}
use Prim.Native.Nat.{◌≤◌}
use lib.ListN.{length, drop}
use Rattle.replay_script.proofs.is_filled.Given as goal

abbrev pub invariant-loop-i : goal.invariant-loop-i
invariant-loop-i l = (l.i ≤ length l.room) × (as_filled l.seed l.i (drop l.i l.room) ≡ as_filled l.seed l.from (drop l.from l.room))
