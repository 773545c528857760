-- The form first; then the number by the length: no rest, and 1 to 1,024 rows.
use mathlib.Core.Path.{◌∙◌, ◌≡◌, ap, sym}
use Prim.Native.Nat.{ℕ, ◌%◌}
use native.Mathlib.Omega.{arith}
use lib.ListN.{length}
use Rattle.table.specs.Answers.{lent}
use Rattle.table.specs.TheTable.{row_length}
use Rattle.table.proofs.Rows.{a-form, no-form, number-form, number-long, number-rest, number-right, number_short, width-least, width-most}
use Rattle.table.proofs.table_number.Goals as goal

pub returns-then-form-lt1 : goal.returns-then-form-lt1
returns-then-form-lt1 c =
    let given = c.args in
    sym (number-form (lent given.form given.t.now) (no-form given.form (λ lo hi. omega arith)))

pub returns-then-form-gt2 : goal.returns-then-form-gt2
returns-then-form-gt2 c =
    let given = c.args in
    sym (number-form (lent given.form given.t.now) (no-form given.form (λ lo hi. omega arith)))

pub returns-then-n-eq0 : goal.returns-then-n-eq0
returns-then-n-eq0 c =
    let given = c.args in
    sym (number_short (lent given.form given.t.now) (omega (arith, width-least given.form)))

pub returns-then-width-n : goal.returns-then-width-n
returns-then-width-n c =
    let given = c.args in
    let row-length-was = c.row_length-width in
    sym (number-long (lent given.form given.t.now) (omega (arith, row-length-was.ensures)))

pub returns-then-n-width-ne0 : goal.returns-then-n-width-ne0
returns-then-n-width-ne0 c =
    let given = c.args in
    let test5 = c.if-n-width-ne0 in
    let row-length-was = c.row_length-width in
    sym (number-rest (lent given.form given.t.now) (λ e. test5.true (ap (λ (w : ℕ). length given.t.now % w) row-length-was.ensures ∙ e)))

pub returns : goal.returns
returns c =
    let given = c.args in
    let row-length-was = c.row_length-width in
    let test5 = c.if-n-width-ne0 in
    let whole : length given.t.now % row_length given.form ≡ 0 = ap (λ (w : ℕ). length given.t.now % w) (sym row-length-was.ensures) ∙ test5.false in
    sym (number-right (lent given.form given.t.now) (a-form given.form (omega arith) (omega arith)) whole (omega (arith, row-length-was.ensures)) (omega (arith, row-length-was.ensures)))

pub overflow_mul-width : goal.overflow_mul-width
overflow_mul-width c =
    let row-length-was = c.row_length-width in
    let given = c.args in
    omega (arith, row-length-was.ensures, width-most given.form (omega arith))

pub nonzero_rem-n : goal.nonzero_rem-n
nonzero_rem-n c =
    let row-length-was = c.row_length-width in
    let given = c.args in
    omega (arith, row-length-was.ensures, width-least given.form)
