-- A row whose last eight bytes of a name are others, or whose operator is another, is not the account's: `other-end` and `other-operator` of Rows.
use mathlib.Core.Bool.{false}
use mathlib.Core.Path.{◌≡◌}
use Prim.Native.Nat.{ℕ, ◌-◌, ◌/◌, ◌%◌, ◌<◌, ◌≤◌}
use lib.ListN.{length}
use Rattle.table.specs.Answers.{lent}
use Rattle.table.specs.TheTable.{is_row_of, row_at, row_length}
use Rattle.table.proofs.rows_passed.Given as goal

abbrev pub invariant-loop-at : goal.invariant-loop-at
invariant-loop-at l =
    (l.at % row_length l.form ≡ length l.name - 6) × (l.i ≤ l.at / row_length l.form) × (l.at / row_length l.form ≤ length l.t / row_length l.form)
    × ((j : ℕ) → l.i ≤ j → j < l.at / row_length l.form → is_row_of (record { operator = l.op; name = l.name }) (row_at (lent l.form l.t) j) ≡ false)

abbrev pub decreases-loop-at : goal.decreases-loop-at
decreases-loop-at l = length l.t - l.at
