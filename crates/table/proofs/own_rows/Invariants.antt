-- Those counted and those that are left make the number of the operator's rows: `left-here` and `left-on` of Chunks.
use mathlib.Core.Path.{◌≡◌}
use Prim.Native.Nat.{◌+◌, ◌/◌, ◌≤◌}
use lib.ListN.{length}
use Rattle.std.specs.Slice.Iter.{chunks_exact_rest, chunks_exact_size}
use Rattle.table.specs.Answers.{lent}
use Rattle.table.specs.TheTable.{is_own, own_rows, row_length}
use Rattle.table.proofs.Rows.{width-some}
use Rattle.table.proofs.Chunks.{left}
use Rattle.table.proofs.own_rows.Given as goal

abbrev pub invariant-loop-r : goal.invariant-loop-r
invariant-loop-r l = record {
  wide : chunks_exact_size l.r-iterator ≡ row_length l.form;
  few : l.count + length (chunks_exact_rest l.r-iterator) / row_length l.form ≤ length l.t / row_length l.form;
  counted : l.count + left (row_length l.form) (width-some l.form) (is_own l.op) (chunks_exact_rest l.r-iterator) ≡ length (own_rows l.op (lent l.form l.t));
}
