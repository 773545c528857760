-- The invariant: the test of what is left has the answer of the whole test: `places-turn` of Line.
use mathlib.Core.Path.{◌≡◌}
use Prim.Native.Nat.{◌-◌}
use Rattle.octets.specs.Lists.{counted, every}
use Rattle.soundness.specs.Blocks.{other_sound}
use Rattle.table.specs.TheTable.{places}
use Rattle.soundness.proofs.seconds_sound.Given as goal

abbrev pub invariant-loop-k : goal.invariant-loop-k
invariant-loop-k l = (every (other_sound l.r) (counted l.k (9 - l.k)) ≡ every (other_sound l.r) places)
