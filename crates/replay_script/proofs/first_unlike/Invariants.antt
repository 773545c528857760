-- The invariant: i and the index of the first difference in the rests from i on make the index of the first difference.
use Rattle.replay_script.specs.TheScript.{unlike}
use mathlib.Core.Path.{◌≡◌}
use Prim.Native.Nat.{◌+◌, ◌≤◌}
use lib.ListN.{length, drop}
use Rattle.replay_script.proofs.first_unlike.Given as goal

abbrev pub invariant-loop-i : goal.invariant-loop-i
invariant-loop-i l = (l.i ≤ length l.a) × (l.i + unlike (drop l.i l.a) (drop l.i l.b) ≡ unlike l.a l.b)
