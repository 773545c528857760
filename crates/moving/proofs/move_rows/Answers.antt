use mathlib.Core.Path.{◌≡◌, refl, ◌∙◌}
use Prim.Native.Nat.{◌+◌, ◌-◌, ◌*◌}
use native.Mathlib.Omega.{arith}
use lib.ListN.{length}
use Rattle.table.specs.Answers.{lent}
use Rattle.table.proofs.Rows.{lent_length, width-least}
use Rattle.moving.proofs.Built.{back-built, back-length, built-start}
use Rattle.moving.proofs.Loops.{is-row-at, row_ends}
use Rattle.moving.proofs.Steps.{part-row, piece_inside, room_most, row_by, row_inside, row_from, rows-moved, source-right, to-small}
use Rattle.moving.proofs.move_rows.Goals as goal

pub row_length-width-requires : goal.row_length-width-requires
row_length-width-requires c =
    let given = c.args in
    let pre-was = c.requires in
    (to-small given.form given.table.now given.target.now pre-was).1

pub overflow_sub-other : goal.overflow_sub-other
overflow_sub-other c =
    let given = c.args in
    let pre-was = c.requires in
    omega (arith, (to-small given.form given.table.now given.target.now pre-was).1)

pub nonzero_div-n : goal.nonzero_div-n
nonzero_div-n c =
    let row-length-was = c.row_length-width in
    let given = c.args in
    omega (arith, row-length-was.ensures, width-least given.form)

pub loop-i-init : goal.loop-i-init
loop-i-init c =
    let given = c.args in
    let row-length-was = c.row_length-width in
    (omega arith, refl, built-start (row_from given.form given.table.now) row-length-was.result given.target.now)

pub overflow_mul-a : goal.overflow_mul-a
overflow_mul-a c =
    let given = c.args in
    let pre-was = c.requires in
    let row-length-was = c.row_length-width in
    let loop-was = c.loop-i in
    let loop-test-was = c.loop-i-test in
    omega (arith, (piece_inside given.form given.table.now given.target.now pre-was row-length-was.result row-length-was.ensures loop-was.i loop-test-was.true), room_most given.form given.table.now given.target.now pre-was row-length-was.result row-length-was.ensures)

pub overflow_add-e : goal.overflow_add-e
overflow_add-e c =
    let given = c.args in
    let pre-was = c.requires in
    let row-length-was = c.row_length-width in
    let loop-was = c.loop-i in
    let loop-test-was = c.loop-i-test in
    omega (arith, (piece_inside given.form given.table.now given.target.now pre-was row-length-was.result row-length-was.ensures loop-was.i loop-test-was.true), room_most given.form given.table.now given.target.now pre-was row-length-was.result row-length-was.ensures)

pub at-requires : goal.at-requires
at-requires c =
    let given = c.args in
    let pre-was = c.requires in
    let loop-was = c.loop-i in
    let row-length-was = c.row_length-width in
    let loop-test-was = c.loop-i-test in
    (omega (arith, (to-small given.form given.table.now given.target.now pre-was).0), row_ends (lent (3 - given.form) given.table.now) (source-right given.form given.table.now given.target.now pre-was) loop-was.i _ _ refl refl (row_inside given.form given.table.now given.target.now pre-was row-length-was.result row-length-was.ensures loop-was.i loop-test-was.true))

pub slice_bounds-move_row-start : goal.slice_bounds-move_row-start
slice_bounds-move_row-start c = omega arith

pub slice_bounds-move_row-end : goal.slice_bounds-move_row-end
slice_bounds-move_row-end c =
    let given = c.args in
    let pre-was = c.requires in
    let row-length-was = c.row_length-width in
    let loop-was = c.loop-i in
    let loop-test-was = c.loop-i-test in
    omega (arith, (piece_inside given.form given.table.now given.target.now pre-was row-length-was.result row-length-was.ensures loop-was.i loop-test-was.true), loop-was.invariant.1)

pub move_row-requires : goal.move_row-requires
move_row-requires c =
    let given = c.args in
    let pre-was = c.requires in
    let loop-was = c.loop-i in
    let row-length-was = c.row_length-width in
    let loop-test-was = c.loop-i-test in
    let at-was = c.at in
    (is-row-at (lent (3 - given.form) given.table.now) (source-right given.form given.table.now given.target.now pre-was) loop-was.i _ _ refl refl (row_inside given.form given.table.now given.target.now pre-was row-length-was.result row-length-was.ensures loop-was.i loop-test-was.true) at-was.result.now at-was.ensures, part-row given.form given.table.now given.target.now pre-was row-length-was.result row-length-was.ensures _ (lent_length loop-was.target (row-length-was.result * loop-was.i) row-length-was.result (omega (arith, (piece_inside given.form given.table.now given.target.now pre-was row-length-was.result row-length-was.ensures loop-was.i loop-test-was.true), loop-was.invariant.1))))

pub loop-i-preserved : goal.loop-i-preserved
loop-i-preserved c =
    let move-row-was = c.move_row in
    let row-length-was = c.row_length-width in
    let loop-was = c.loop-i in
    let given = c.args in
    let pre-was = c.requires in
    let loop-test-was = c.loop-i-test in
    let at-was = c.at in
    let s : length move-row-was.new.room ≡ row-length-was.result = move-row-was.auto.room ∙ (lent_length loop-was.target (row-length-was.result * loop-was.i) row-length-was.result (omega (arith, (piece_inside given.form given.table.now given.target.now pre-was row-length-was.result row-length-was.ensures loop-was.i loop-test-was.true), loop-was.invariant.1))) in (omega arith, back-length loop-was.target (row-length-was.result * loop-was.i) (row-length-was.result * loop-was.i + row-length-was.result) move-row-was.new.room (omega arith) (omega (arith, (piece_inside given.form given.table.now given.target.now pre-was row-length-was.result row-length-was.ensures loop-was.i loop-test-was.true), loop-was.invariant.1)) (omega (arith, s)) ∙ loop-was.invariant.1, back-built (row_from given.form given.table.now) row-length-was.result loop-was.i (row-length-was.result * loop-was.i + row-length-was.result) loop-was.target move-row-was.new.room refl loop-was.invariant.2 (row_by given.form given.table.now given.target.now pre-was row-length-was.result row-length-was.ensures loop-was.i _ at-was.result.now move-row-was.new.room (lent_length loop-was.target (row-length-was.result * loop-was.i) row-length-was.result (omega (arith, (piece_inside given.form given.table.now given.target.now pre-was row-length-was.result row-length-was.ensures loop-was.i loop-test-was.true), loop-was.invariant.1))) at-was.ensures move-row-was.ensures) s (omega (arith, (piece_inside given.form given.table.now given.target.now pre-was row-length-was.result row-length-was.ensures loop-was.i loop-test-was.true), loop-was.invariant.1)))

pub returns : goal.returns
returns c =
    let given = c.args in
    let pre-was = c.requires in
    let row-length-was = c.row_length-width in
    let loop-was = c.loop-i in
    rows-moved given.form given.table.now given.target.now pre-was row-length-was.result row-length-was.ensures loop-was.i loop-was.target loop-was.invariant.1 (omega arith) loop-was.invariant.2
