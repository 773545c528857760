-- The numbers before 11, then 11, and the row: `enter-early`, `enter-11`, `enter-done` of SetUps.
use mathlib.Core.Path.{sym, ap, ◌∙◌}
use native.Mathlib.Omega.{arith}
use borrow.Author.Tests.{leb-true}
use Rattle.table.specs.Answers.{found, lent, row_end}
use Rattle.table.proofs.Bytes.{name-length}
use Rattle.table.proofs.Rows.{first-operator, first-table, form-top}
use Rattle.setup.proofs.SetUps.{enter-11, enter-done, enter-early, share-passed}
use Rattle.setup.proofs.enter.Goals as goal

pub returns-then-n-ne0 : goal.returns-then-n-ne0
returns-then-n-ne0 c =
    let given = c.args in
    let enter-number-was = c.enter_number-n in
    let test1 = c.if-n-ne0 in
    enter-early (lent given.form given.table.now) given.shares.now (record { operator = given.op; name = given.name.now }) enter-number-was.result enter-number-was.ensures test1.true

pub first_zero_row-requires : goal.first_zero_row-requires
first_zero_row-requires c =
    let given = c.args in
    let enter-number-was = c.enter_number-n in
    let test1 = c.if-n-ne0 in
    first-table (lent given.form given.table.now) given.op (share-passed (lent given.form given.table.now) given.shares.now (record { operator = given.op; name = given.name.now }) (sym enter-number-was.ensures ∙ test1.false)).first

pub returns-in_default : goal.returns-in_default
returns-in_default c =
    let given = c.args in
    let enter-number-was = c.enter_number-n in
    let test1 = c.if-n-ne0 in
    let first-zero-row-was = c.first_zero_row in
    enter-11 (lent given.form given.table.now) given.shares.now (record { operator = given.op; name = given.name.now }) (sym enter-number-was.ensures ∙ test1.false) (sym first-zero-row-was.ensures.0 ∙ ap found c.in_default.is)

pub overflow_cast-op : goal.overflow_cast-op
overflow_cast-op c =
    let given = c.args in
    let enter-number-was = c.enter_number-n in
    let test1 = c.if-n-ne0 in
    omega (arith, leb-true given.op 15 (first-operator (lent given.form given.table.now) given.op (share-passed (lent given.form given.table.now) given.shares.now (record { operator = given.op; name = given.name.now }) (sym enter-number-was.ensures ∙ test1.false)).first))

pub enter_row-requires : goal.enter_row-requires
enter_row-requires c =
    let first-zero-row-was = c.first_zero_row in
    let given = c.args in
    let enter-number-was = c.enter_number-n in
    let test1 = c.if-n-ne0 in
    let passed = share-passed (lent given.form given.table.now) given.shares.now (record { operator = given.op; name = given.name.now }) (sym enter-number-was.ensures ∙ test1.false) in
    (form-top (lent given.form given.table.now) (first-table (lent given.form given.table.now) given.op passed.first), omega (arith, first-zero-row-was.ensures.1, ap (row_end given.form) c.in-Some.is), name-length given.name.now passed.name-fits)

pub returns : goal.returns
returns c =
    let given = c.args in
    let enter-row-was = c.enter_row in
    let enter-number-was = c.enter_number-n in
    let test1 = c.if-n-ne0 in
    let first-zero-row-was = c.first_zero_row in
    enter-done (lent given.form given.table.now) given.shares.now (record { operator = given.op; name = given.name.now }) c.in-Some.i (lent given.form enter-row-was.new.table) (sym enter-number-was.ensures ∙ test1.false) (sym first-zero-row-was.ensures.0 ∙ ap found c.in-Some.is) enter-row-was.ensures
