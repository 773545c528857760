-- Row by row: the place before this one has other bytes.
use mathlib.Core.Path.{◌≡◌}
use Prim.Native.Nat.{ℕ, ◌+◌, ◌-◌, ◌*◌, ◌/◌, ◌%◌, ◌<◌, ◌≤◌}
use lib.ListN.{length}
use Rattle.octets.specs.Numbers.{low64}
use Rattle.table.specs.TheTable.{row_length}
use Rattle.table.proofs.next_like.Given as goal

abbrev pub invariant-loop-at : goal.invariant-loop-at
invariant-loop-at l =
    (l.at % row_length l.form ≡ l.from % row_length l.form) × (l.from / row_length l.form ≤ l.at / row_length l.form) × (l.at / row_length l.form ≤ length l.t / row_length l.form)
    × ((j : ℕ) → l.from / row_length l.form ≤ j → j < l.at / row_length l.form → low64 l.t (row_length l.form * j + l.from % row_length l.form) ≡ l.end → ⊥)

abbrev pub decreases-loop-at : goal.decreases-loop-at
decreases-loop-at l = length l.t - l.at
