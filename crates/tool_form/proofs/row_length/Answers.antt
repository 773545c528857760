-- A row has 4,608 or 8,704 bytes.
use native.Mathlib.Omega.{arith}
use Rattle.table.specs.TheTable.{row_length}
use borrow.Author.Rules.{rules}
use Rattle.tool_form.proofs.row_length.Goals as goal

pub returns-then-form-eq2 : goal.returns-then-form-eq2
unfolding row_length
returns-then-form-eq2 c =
    let row-length-was = c.row_length in
    (omega (arith, row-length-was.ensures), omega (arith, row-length-was.ensures))

pub returns : goal.returns
unfolding row_length
returns c =
    let row-length2-was = c.row_length-2 in
    (omega (arith, row-length2-was.ensures), omega (arith, row-length2-was.ensures))
