-- Each way out is the first test that fails: `by-table`, `by-room`, `by_rows` and `by-more` of Steps; where none does, `to_one` and `to-two`.
use mathlib.Core.Path.{◌≡◌, refl, sym, ◌∙◌}
use Prim.Native.Nat.{◌-◌, ◌*◌, ◌/◌}
use native.Mathlib.Omega.{arith}
use lib.ListN.{length}
use Rattle.table.proofs.Rows.{width-least}
use Rattle.moving.proofs.Loops.{no_other}
use Rattle.moving.proofs.Steps.{both_small, by-more, by-room, by_rows, by-table, product-fits, to_one, to-two}
use Rattle.moving.proofs.move_number.Goals as goal

pub returns-then-form-gt3 : goal.returns-then-form-gt3
returns-then-form-gt3 c =
    let given = c.args in
    let test1 = c.if-form-gt3 in
    no_other given.form given.table.now given.target.now test1.true

pub returns-then-n-ne0 : goal.returns-then-n-ne0
returns-then-n-ne0 c =
    let given = c.args in
    let table-number-was = c.table_number-n in
    let test2 = c.if-n-ne0 in
    by-table given.form (3 - given.form) given.table.now given.target.now refl table-number-was.result table-number-was.ensures test2.true

pub row_length-requires : goal.row_length-requires
row_length-requires c =
    let given = c.args in
    let table-number-was = c.table_number-n in
    let test2 = c.if-n-ne0 in
    (both_small given.form (3 - given.form) given.table.now given.target.now refl (sym table-number-was.ensures ∙ test2.false)).0

pub nonzero_div-count : goal.nonzero_div-count
nonzero_div-count c =
    let row-length-was = c.row_length in
    let given = c.args in
    omega (arith, row-length-was.ensures, width-least (3 - given.form))

pub row_length-requires-2 : goal.row_length-requires-2
row_length-requires-2 c =
    let given = c.args in
    let table-number-was = c.table_number-n in
    let test2 = c.if-n-ne0 in
    (both_small given.form (3 - given.form) given.table.now given.target.now refl (sym table-number-was.ensures ∙ test2.false)).2

pub overflow_mul-row_length : goal.overflow_mul-row_length
overflow_mul-row_length c =
    let given = c.args in
    let table-number-was = c.table_number-n in
    let test2 = c.if-n-ne0 in
    let row-length-was = c.row_length in
    let row-length2-was = c.row_length-2 in
    omega (arith, product-fits given.form (3 - given.form) given.table.now given.target.now refl (sym table-number-was.ensures ∙ test2.false) row-length-was.result row-length2-was.result (length given.table.now / row-length-was.result) row-length-was.ensures row-length2-was.ensures refl)

pub returns-then-target-row_length : goal.returns-then-target-row_length
returns-then-target-row_length c =
    let given = c.args in
    let table-number-was = c.table_number-n in
    let test2 = c.if-n-ne0 in
    let row-length-was = c.row_length in
    let row-length2-was = c.row_length-2 in
    let test3 = c.if-target-row_length in
    by-room given.form (3 - given.form) given.table.now given.target.now refl (sym table-number-was.ensures ∙ test2.false) row-length-was.result row-length2-was.result (length given.table.now / row-length-was.result) row-length-was.ensures row-length2-was.ensures refl (λ e. omega (arith, test3.true, e))

pub rows_movable-requires : goal.rows_movable-requires
rows_movable-requires c =
    let table-number-was = c.table_number-n in
    let test2 = c.if-n-ne0 in
    (sym table-number-was.ensures ∙ test2.false)

pub returns-then-not-rows_movable : goal.returns-then-not-rows_movable
returns-then-not-rows_movable c =
    let given = c.args in
    let table-number-was = c.table_number-n in
    let test2 = c.if-n-ne0 in
    let row-length-was = c.row_length in
    let row-length2-was = c.row_length-2 in
    let test3 = c.if-target-row_length in
    let rows-movable-was = c.rows_movable in
    let test4 = c.if-not-rows_movable in
    let size : length given.target.now ≡ row-length2-was.result * (length given.table.now / row-length-was.result) = omega (arith, test3.false) in
    by_rows given.form (3 - given.form) given.table.now given.target.now refl (sym table-number-was.ensures ∙ test2.false) row-length-was.result row-length2-was.result (length given.table.now / row-length-was.result) row-length-was.ensures row-length2-was.ensures refl size (sym rows-movable-was.ensures ∙ test4.true)

pub returns-then-form-eq2 : goal.returns-then-form-eq2
returns-then-form-eq2 c =
    let given = c.args in
    let table-number-was = c.table_number-n in
    let test2 = c.if-n-ne0 in
    let row-length-was = c.row_length in
    let row-length2-was = c.row_length-2 in
    let test3 = c.if-target-row_length in
    let rows-movable-was = c.rows_movable in
    let test4 = c.if-not-rows_movable in
    let test5 = c.if-form-eq2 in
    let size : length given.target.now ≡ row-length2-was.result * (length given.table.now / row-length-was.result) = omega (arith, test3.false) in
    to-two given.form (3 - given.form) given.table.now given.target.now refl (sym table-number-was.ensures ∙ test2.false) row-length-was.result row-length2-was.result (length given.table.now / row-length-was.result) row-length-was.ensures row-length2-was.ensures refl size (sym rows-movable-was.ensures ∙ test4.false) test5.true

pub rows_plain-requires : goal.rows_plain-requires
rows_plain-requires c =
    let table-number-was = c.table_number-n in
    let test2 = c.if-n-ne0 in
    let rows-movable-was = c.rows_movable in
    let test4 = c.if-not-rows_movable in
    ((sym table-number-was.ensures ∙ test2.false), (sym rows-movable-was.ensures ∙ test4.false))

pub returns-then-not-rows_plain : goal.returns-then-not-rows_plain
returns-then-not-rows_plain c =
    let given = c.args in
    let table-number-was = c.table_number-n in
    let test2 = c.if-n-ne0 in
    let row-length-was = c.row_length in
    let row-length2-was = c.row_length-2 in
    let test3 = c.if-target-row_length in
    let rows-movable-was = c.rows_movable in
    let test4 = c.if-not-rows_movable in
    let test5 = c.if-form-eq2 in
    let rows-plain-was = c.rows_plain in
    let test6 = c.if-not-rows_plain in
    let size : length given.target.now ≡ row-length2-was.result * (length given.table.now / row-length-was.result) = omega (arith, test3.false) in
    by-more given.form (3 - given.form) given.table.now given.target.now refl (sym table-number-was.ensures ∙ test2.false) row-length-was.result row-length2-was.result (length given.table.now / row-length-was.result) row-length-was.ensures row-length2-was.ensures refl size (sym rows-movable-was.ensures ∙ test4.false) test5.false (sym rows-plain-was.ensures ∙ test6.true)

pub returns : goal.returns
returns c =
    let given = c.args in
    let table-number-was = c.table_number-n in
    let test2 = c.if-n-ne0 in
    let row-length-was = c.row_length in
    let row-length2-was = c.row_length-2 in
    let test3 = c.if-target-row_length in
    let rows-movable-was = c.rows_movable in
    let test4 = c.if-not-rows_movable in
    let test5 = c.if-form-eq2 in
    let rows-plain-was = c.rows_plain in
    let test6 = c.if-not-rows_plain in
    let size : length given.target.now ≡ row-length2-was.result * (length given.table.now / row-length-was.result) = omega (arith, test3.false) in
    to_one given.form (3 - given.form) given.table.now given.target.now refl (sym table-number-was.ensures ∙ test2.false) row-length-was.result row-length2-was.result (length given.table.now / row-length-was.result) row-length-was.ensures row-length2-was.ensures refl size (sym rows-movable-was.ensures ∙ test4.false) test5.false (sym rows-plain-was.ensures ∙ test6.false)
