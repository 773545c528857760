-- The search from row n on finds what the lookup finds: `search-here`, `search-skip` and `search-end` of Rows.
use mathlib.Core.Path.{◌≡◌}
use Prim.Native.Nat.{◌*◌, ◌-◌, ◌/◌, ◌≤◌}
use lib.ListN.{length}
use Rattle.table.specs.Answers.{lent}
use Rattle.table.specs.TheTable.{is_row_of, lookup, row_length}
use Rattle.table.proofs.Rows.{searched}
use Rattle.table.proofs.lookup.Given as goal

abbrev pub invariant-loop-at : goal.invariant-loop-at
invariant-loop-at l =
    (l.at ≡ row_length l.form * l.n) × (l.n ≤ length l.t / row_length l.form)
    × (searched (is_row_of (record { operator = l.op; name = l.name })) (row_length l.form) (length l.t / row_length l.form) l.t l.n ≡ lookup (lent l.form l.t) (record { operator = l.op; name = l.name }))

abbrev pub decreases-loop-at : goal.decreases-loop-at
decreases-loop-at l = length l.t - l.at
