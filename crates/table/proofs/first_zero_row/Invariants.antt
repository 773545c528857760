-- The first wholly zero row is among those that are left: `next-here` and `next-on` of Chunks.
use mathlib.Core.Path.{◌≡◌}
use Prim.Native.Nat.{◌+◌, ◌*◌}
use lib.ListN.{length}
use Rattle.std.specs.Slice.Iter.{chunks_exact_rest, chunks_exact_size}
use Rattle.std.specs.Iterator.Adapters.{enumerate_count, enumerate_source}
use Rattle.octets.specs.Texts.{all_zero}
use Rattle.table.specs.Answers.{lent}
use Rattle.table.specs.TheTable.{first_row, row_length, rows}
use Rattle.table.proofs.Rows.{width-some}
use Rattle.table.proofs.Chunks.{next_from}
use Rattle.table.proofs.first_zero_row.Given as goal

abbrev pub invariant-loop-i : goal.invariant-loop-i
invariant-loop-i l = record {
  wide : chunks_exact_size (enumerate_source l.i-iterator) ≡ row_length l.form;
  whole : row_length l.form * enumerate_count l.i-iterator + length (chunks_exact_rest (enumerate_source l.i-iterator)) ≡ length l.t;
  next : next_from (row_length l.form) (width-some l.form) all_zero (enumerate_count l.i-iterator) (chunks_exact_rest (enumerate_source l.i-iterator)) ≡ first_row all_zero (rows (lent l.form l.t));
}
