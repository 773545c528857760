-- The invariant: the test of what is left has the answer of the whole test: `places-turn` of soundness.
use mathlib.Core.Path.{◌≡◌}
use Prim.Native.Nat.{◌-◌, ◌≤◌}
use Rattle.octets.specs.Lists.{counted, every}
use Rattle.table.specs.Soundness.{place_form}
use Rattle.table.specs.TheTable.{places}
use Rattle.clauses.proofs.places_form.Given as goal

abbrev pub invariant-loop-k : goal.invariant-loop-k
invariant-loop-k l = (1 ≤ l.k) × (l.k ≤ 9) × (every (place_form l.r) (counted l.k (9 - l.k)) ≡ every (place_form l.r) places)
