use mathlib.Core.Path.{◌≡◌, refl, sym, ap, ◌∙◌}
use mathlib.Core.Bool.{true, false}
use Prim.Native.Nat.{ℕ, ◌/◌}
use native.Mathlib.Omega.{arith}
use lib.ListN.{length}
use Rattle.table.specs.Answers.{lent}
use Rattle.table.specs.Soundness.{is_row}
use Rattle.table.proofs.Rows.{form-top, width-least}
use Rattle.moving.specs.Moving.{fits_form1}
use Rattle.moving.proofs.Loops.{every-all, every-on, every-over, every-stop, is-row-at, row_ends, row-there, said_at}
use Rattle.moving.proofs.Steps.{exact-at}
use Rattle.moving.proofs.rows_plain.Goals as goal

pub loop-i-preserved : goal.loop-i-preserved
loop-i-preserved c =
    let given = c.args in
    let pre-was = c.requires in
    let loop-was = c.loop-i in
    let row-length-was = c.row_length in
    let loop-test-was = c.loop-i-test in
    let at-was = c.at in
    let row-plain-was = c.row_plain in
    let test1 = c.if-not-row_plain in
    let t = lent given.form given.t.now in
    let there = row-there t pre-was.0 loop-was.i _ row-length-was.result row-length-was.ensures refl loop-test-was.true in
    (omega (arith, there), every-on fits_form1 t loop-was.i there (said_at fits_form1 t loop-was.i at-was.result.now row-plain-was.result true at-was.ensures row-plain-was.ensures (test1.false)) ∙ loop-was.invariant.1)

pub row_length-requires : goal.row_length-requires
row_length-requires c =
    let given = c.args in
    let pre-was = c.requires in
    let t = lent given.form given.t.now in
    form-top t pre-was.0

pub nonzero_div-n : goal.nonzero_div-n
nonzero_div-n c =
    let row-length-was = c.row_length in
    let given = c.args in
    omega (arith, row-length-was.ensures, width-least given.form)

pub loop-i-init : goal.loop-i-init
loop-i-init c =
    let given = c.args in
    let t = lent given.form given.t.now in
    (omega arith, every-all fits_form1 t)

pub at-requires : goal.at-requires
at-requires c =
    let given = c.args in
    let pre-was = c.requires in
    let loop-was = c.loop-i in
    let row-length-was = c.row_length in
    let loop-test-was = c.loop-i-test in
    let t = lent given.form given.t.now in
    (form-top t pre-was.0, row_ends t pre-was.0 loop-was.i _ row-length-was.result row-length-was.ensures refl loop-test-was.true)

pub row_plain-requires : goal.row_plain-requires
row_plain-requires c =
    let at-was = c.at in
    let given = c.args in
    let pre-was = c.requires in
    let loop-was = c.loop-i in
    let row-length-was = c.row_length in
    let loop-test-was = c.loop-i-test in
    let t = lent given.form given.t.now in
    let there = row-there t pre-was.0 loop-was.i _ row-length-was.result row-length-was.ensures refl loop-test-was.true in
    let row : is_row at-was.result.now ≡ true = is-row-at t pre-was.0 loop-was.i _ row-length-was.result row-length-was.ensures refl loop-test-was.true at-was.result.now at-was.ensures in (row, exact-at t pre-was.0 loop-was.i at-was.result.now there pre-was.1 row at-was.ensures)

pub returns-then-not-row_plain : goal.returns-then-not-row_plain
returns-then-not-row_plain c =
    let given = c.args in
    let loop-was = c.loop-i in
    let pre-was = c.requires in
    let row-length-was = c.row_length in
    let loop-test-was = c.loop-i-test in
    let at-was = c.at in
    let row-plain-was = c.row_plain in
    let test1 = c.if-not-row_plain in
    let t = lent given.form given.t.now in
    let there = row-there t pre-was.0 loop-was.i _ row-length-was.result row-length-was.ensures refl loop-test-was.true in
    sym (every-stop fits_form1 t loop-was.i there (said_at fits_form1 t loop-was.i at-was.result.now row-plain-was.result false at-was.ensures row-plain-was.ensures (test1.true))) ∙ loop-was.invariant.1

pub returns : goal.returns
returns c =
    let given = c.args in
    let loop-was = c.loop-i in
    let row-length-was = c.row_length in
    let t = lent given.form given.t.now in
    sym (every-over fits_form1 t loop-was.i (omega (arith, ap (λ (w : ℕ). length given.t.now / w) row-length-was.ensures))) ∙ loop-was.invariant.1
