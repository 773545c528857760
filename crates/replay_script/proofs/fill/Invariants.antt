-- Every byte below i is that of a filled room.
use Rattle.replay_script.specs.TheScript.{room_byte}
use mathlib.Core.Path.{◌≡◌}
use Prim.Native.Nat.{ℕ, ◌<◌, ◌≤◌}
use lib.ListN.{length, get_or}
use Rattle.replay_script.proofs.fill.Given as goal

abbrev pub invariant-loop-i : goal.invariant-loop-i
invariant-loop-i l = (l.i ≤ length l.initial.room) × (length l.room ≡ length l.initial.room) × ((k : ℕ) → k < l.i → get_or l.room k 0 ≡ room_byte l.seed k)
