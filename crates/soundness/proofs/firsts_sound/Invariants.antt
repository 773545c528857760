-- The invariant: the test of what is left has the answer of the whole test: `places-turn` of Line.
use mathlib.Core.Path.{◌≡◌}
use Prim.Native.Nat.{◌-◌}
use Rattle.octets.specs.Lists.{counted, every}
use Rattle.soundness.specs.Blocks.{first_sound}
use Rattle.table.specs.TheTable.{places}
use Rattle.soundness.proofs.firsts_sound.Given as goal

abbrev pub invariant-loop-k : goal.invariant-loop-k
invariant-loop-k l = (every (first_sound l.n l.r) (counted l.k (9 - l.k)) ≡ every (first_sound l.n l.r) places)
