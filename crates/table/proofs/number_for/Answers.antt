-- The table's number first, then that of the operator.
use mathlib.Core.Path.{sym, ◌∙◌}
use borrow.Author.Tests.{eq-eqb, le-leb, lt-leb, ne_eqb}
use Rattle.octets.specs.Choice.{first_of, pick, require}
use Rattle.table.specs.Answers.{lent}
use Rattle.table.specs.TheTable.{first_number, table_number}
use Rattle.table.proofs.number_for.Goals as goal

pub returns-then-n-ne0 : goal.returns-then-n-ne0
unfolding first_number first_of pick
returns-then-n-ne0 c =
    let table-number-was = c.table_number-n in
    let given = c.args in
    let test1 = c.if-n-ne0 in
    table-number-was.ensures ∙ sym (rw (ne_eqb (table_number (lent given.form given.t.now)) 0 (λ z. test1.true (table-number-was.ensures ∙ z))))

pub returns-then-op-gt15 : goal.returns-then-op-gt15
unfolding first_number first_of pick require
returns-then-op-gt15 c =
    let given = c.args in
    let table-number-was = c.table_number-n in
    let test1 = c.if-n-ne0 in
    let test2 = c.if-op-gt15 in
    sym (rw (eq-eqb (table_number (lent given.form given.t.now)) 0 (sym table-number-was.ensures ∙ test1.false), lt-leb given.op 15 test2.true))

pub returns : goal.returns
unfolding first_number first_of pick require
returns c =
    let given = c.args in
    let table-number-was = c.table_number-n in
    let test1 = c.if-n-ne0 in
    let test2 = c.if-op-gt15 in
    sym (rw (eq-eqb (table_number (lent given.form given.t.now)) 0 (sym table-number-was.ensures ∙ test1.false), le-leb given.op 15 test2.false))
