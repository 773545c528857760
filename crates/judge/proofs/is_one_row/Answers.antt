-- The two forms by their lengths; no other number is a form.
use mathlib.Core.Path.{sym}
use Rattle.table.specs.TheTable.{row_length}
use Rattle.judge.proofs.Cases.{row-1, row-2, row-none}
use Rattle.judge.proofs.is_one_row.Goals as goal

pub returns-then-form-eq1 : goal.returns-then-form-eq1
unfolding row_length
returns-then-form-eq1 c =
    let given = c.args in
    let test1 = c.if-form-eq1 in
    sym (row-1 given.form given.s.now test1.true)

pub returns-then-form-eq2 : goal.returns-then-form-eq2
unfolding row_length
returns-then-form-eq2 c =
    let given = c.args in
    let test2 = c.if-form-eq2 in
    sym (row-2 given.form given.s.now test2.true)

pub returns : goal.returns
returns c =
    let given = c.args in
    let test1 = c.if-form-eq1 in
    let test2 = c.if-form-eq2 in
    sym (row-none given.form given.s.now test1.false test2.false)
