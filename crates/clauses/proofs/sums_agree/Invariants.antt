-- Block 0, and then the places; the invariant: the test of what is left has the answer of the whole test.
use mathlib.Core.Path.{◌≡◌}
use mathlib.Core.Bool.{true}
use Prim.Native.Nat.{◌-◌, ◌≤◌}
use Rattle.octets.specs.Lists.{counted, every}
use Rattle.table.specs.Soundness.{place_sums, sums_agree}
use Rattle.table.specs.TheTable.{head, places}
use Rattle.clauses.proofs.sums_agree.Given as goal

abbrev pub invariant-loop-place : goal.invariant-loop-place
invariant-loop-place l = (1 ≤ l.place) × (l.place ≤ 9) × (sums_agree (head l.r) ≡ true) × (every (place_sums l.r) (counted l.place (9 - l.place)) ≡ every (place_sums l.r) places)
