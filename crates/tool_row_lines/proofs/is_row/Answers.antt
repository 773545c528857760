-- The two lengths that a row may have.
use mathlib.Core.Path.{sym, ◌∙◌}
use Rattle.tool_row_lines.proofs.Lengths.{no-row, row-of-1, row-of-2}
use borrow.Author.Rules.{rules}
use Rattle.tool_row_lines.proofs.is_row.Goals as goal

pub returns-then-row-row_length : goal.returns-then-row-row_length
returns-then-row-row_length c =
    let given = c.args in
    let test1 = c.if-row-row_length in
    let row-length-was = c.row_length in
    row-of-1 given.row.now (test1.true ∙ row-length-was.ensures)

pub returns-then-row-row_length-2 : goal.returns-then-row-row_length-2
returns-then-row-row_length-2 c =
    let given = c.args in
    let test2 = c.if-row-row_length-2 in
    let row-length2-was = c.row_length-2 in
    row-of-2 given.row.now (test2.true ∙ row-length2-was.ensures)

pub returns : goal.returns
returns c =
    let given = c.args in
    let test1 = c.if-row-row_length in
    let row-length-was = c.row_length in
    let test2 = c.if-row-row_length-2 in
    let row-length2-was = c.row_length-2 in
    no-row given.row.now (λ e. test1.false (e ∙ sym row-length-was.ensures)) (λ e. test2.false (e ∙ sym row-length2-was.ensures))
