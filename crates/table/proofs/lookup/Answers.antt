use mathlib.Core.Path.{◌∙◌, ◌≡◌, ap, sym}
use mathlib.Core.Bool.{false, true}
use Prim.Native.Nat.{ℕ, ◌+◌, ◌*◌, ◌/◌}
use native.Mathlib.Omega.{arith}
use lib.ListN.{length}
use Rattle.table.specs.Answers.{lent}
use Rattle.table.specs.TheTable.{Account, is_row_of, lookup, row_at, row_length, rows}
use Rattle.table.proofs.Rows.{bytes_most, form-top, lent_length, lent-test, piece-row, row_inside, rows_fit, rows-most, rows-over, search-all, search-end, search-here, search-on, search-skip, width-least}
use Rattle.table.proofs.Widths.{rows-order}
use Rattle.table.proofs.lookup.Goals as goal

pub row_length-width-requires : goal.row_length-width-requires
row_length-width-requires c =
    let given = c.args in
    let pre-was = c.requires in
    form-top (lent given.form given.t.now) pre-was

pub rows_passed-n-requires : goal.rows_passed-n-requires
rows_passed-n-requires c =
    let pre-was = c.requires in
    (pre-was, omega arith)

pub overflow_mul-at : goal.overflow_mul-at
overflow_mul-at c =
    let rows-passed-was = c.rows_passed-n in
    let row-length-was = c.row_length-width in
    let given = c.args in
    let pre-was = c.requires in
    omega (arith, ap (λ (x : ℕ). x * rows-passed-was.result) row-length-was.ensures, rows_fit (lent given.form given.t.now) pre-was rows-passed-was.result rows-passed-was.ensures.1)

pub loop-at-init : goal.loop-at-init
unfolding lookup rows
loop-at-init c =
    let given = c.args in
    let rows-passed-was = c.rows_passed-n in
    let row-length-was = c.row_length-width in
    let t = c.args.t.now in
    let a : Account = record { operator = given.op; name = given.name.now } in
    let w : ℕ = row_length given.form in (
      ap (λ (x : ℕ). x * rows-passed-was.result) row-length-was.ensures,
      rows-passed-was.ensures.1,
      search-skip (is_row_of a) w (length t / w) t 0 rows-passed-was.result rows-passed-was.ensures.0 rows-passed-was.ensures.1 (λ j b l. ap (is_row_of a) (piece-row (lent given.form t) j) ∙ rows-passed-was.ensures.2 j b l)
          ∙ search-all (is_row_of a) w (length t / w) t,
    )

pub overflow_add-end : goal.overflow_add-end
overflow_add-end c =
    let given = c.args in
    let pre-was = c.requires in
    let row-length-was = c.row_length-width in
    let most = bytes_most (lent given.form given.t.now) pre-was in
    omega (arith, row-length-was.ensures, most.0, most.1)

pub slice_bounds-is_row_of-start : goal.slice_bounds-is_row_of-start
slice_bounds-is_row_of-start c = omega arith

pub slice_bounds-is_row_of-end : goal.slice_bounds-is_row_of-end
slice_bounds-is_row_of-end c =
    let given = c.args in
    let pre-was = c.requires in
    let loop-was = c.loop-at in
    let row-length-was = c.row_length-width in
    let inside = row_inside (lent given.form given.t.now) pre-was loop-was.n 0 (omega (arith, loop-was.invariant.0)) in
    omega (arith, row-length-was.ensures, loop-was.invariant.0, inside.1)

pub is_row_of-requires : goal.is_row_of-requires
is_row_of-requires c =
    let given = c.args in
    let pre-was = c.requires in
    let loop-was = c.loop-at in
    let row-length-was = c.row_length-width in
    let inside = row_inside (lent given.form given.t.now) pre-was loop-was.n 0 (omega (arith, loop-was.invariant.0)) in
    omega (arith, lent_length given.t.now loop-was.at row-length-was.result (omega (arith, row-length-was.ensures, loop-was.invariant.0, inside.1)), row-length-was.ensures, width-least given.form)

pub returns-then-is_row_of : goal.returns-then-is_row_of
returns-then-is_row_of c =
    let given = c.args in
    let loop-was = c.loop-at in
    let row-length-was = c.row_length-width in
    let is-row-of-was = c.is_row_of in
    let test1 = c.if-is_row_of in
    let pre-was = c.requires in
    let t = c.args.t.now in
    let a : Account = record { operator = given.op; name = given.name.now } in
    let w : ℕ = row_length given.form in
    let here : is_row_of a (row_at (lent given.form t) loop-was.n) ≡ true = lent-test (is_row_of a) (lent given.form t) _ loop-was.at loop-was.n _ true row-length-was.ensures loop-was.invariant.0 is-row-of-was.ensures test1.true in
    let inside = row_inside (lent given.form t) pre-was loop-was.n 0 (omega (arith, loop-was.invariant.0)) in
    (sym (search-here (is_row_of a) w (length t / w) t loop-was.n inside.0 (ap (is_row_of a) (piece-row (lent given.form t) loop-was.n) ∙ here)) ∙ loop-was.invariant.2, inside.1)

pub overflow_add-n : goal.overflow_add-n
overflow_add-n c =
    let given = c.args in
    let pre-was = c.requires in
    omega (arith, rows-most (lent given.form given.t.now) pre-was)

pub rows_passed-n-requires-in-loop-at : goal.rows_passed-n-requires-in-loop-at
rows_passed-n-requires-in-loop-at c =
    let given = c.args in
    let pre-was = c.requires in
    let loop-was = c.loop-at in
    let inside = row_inside (lent given.form given.t.now) pre-was loop-was.n 0 (omega (arith, loop-was.invariant.0)) in
    (pre-was, omega (arith, inside.0))

pub overflow_mul-at-in-loop-at : goal.overflow_mul-at-in-loop-at
overflow_mul-at-in-loop-at c =
    let rows-passed2-was = c.rows_passed-n-in-loop-at in
    let row-length-was = c.row_length-width in
    let given = c.args in
    let pre-was = c.requires in
    omega (arith, ap (λ (x : ℕ). x * rows-passed2-was.result) row-length-was.ensures, rows_fit (lent given.form given.t.now) pre-was rows-passed2-was.result rows-passed2-was.ensures.1)

pub loop-at-smaller : goal.loop-at-smaller
loop-at-smaller c =
    let given = c.args in
    let loop-was = c.loop-at in
    let rows-passed2-was = c.rows_passed-n-in-loop-at in
    let row-length-was = c.row_length-width in
    let more = rows-order (row_length given.form) (loop-was.n + 1) rows-passed2-was.result rows-passed2-was.ensures.0 in
    omega (arith, ap (λ (x : ℕ). x * rows-passed2-was.result) row-length-was.ensures, more, loop-was.invariant.0, width-least given.form)

pub loop-at-preserved : goal.loop-at-preserved
loop-at-preserved c =
    let given = c.args in
    let loop-was = c.loop-at in
    let row-length-was = c.row_length-width in
    let is-row-of-was = c.is_row_of in
    let test1 = c.if-is_row_of in
    let pre-was = c.requires in
    let rows-passed2-was = c.rows_passed-n-in-loop-at in
    let t = c.args.t.now in
    let a : Account = record { operator = given.op; name = given.name.now } in
    let w : ℕ = row_length given.form in
    let other : is_row_of a (row_at (lent given.form t) loop-was.n) ≡ false = lent-test (is_row_of a) (lent given.form t) _ loop-was.at loop-was.n _ false row-length-was.ensures loop-was.invariant.0 is-row-of-was.ensures test1.false in
    let inside = row_inside (lent given.form t) pre-was loop-was.n 0 (omega (arith, loop-was.invariant.0)) in (
      ap (λ (x : ℕ). x * rows-passed2-was.result) row-length-was.ensures,
      rows-passed2-was.ensures.1,
      search-skip (is_row_of a) w (length t / w) t (loop-was.n + 1) rows-passed2-was.result rows-passed2-was.ensures.0 rows-passed2-was.ensures.1 (λ j b l. ap (is_row_of a) (piece-row (lent given.form t) j) ∙ rows-passed2-was.ensures.2 j b l)
          ∙ search-on (is_row_of a) w (length t / w) t loop-was.n inside.0 (ap (is_row_of a) (piece-row (lent given.form t) loop-was.n) ∙ other) ∙ loop-was.invariant.2,
    )

pub returns : goal.returns
returns c =
    let given = c.args in
    let pre-was = c.requires in
    let loop-was = c.loop-at in
    let t = c.args.t.now in
    let a : Account = record { operator = given.op; name = given.name.now } in
    let w : ℕ = row_length given.form in
    let over = rows-over (lent given.form t) pre-was loop-was.n (omega (arith, loop-was.invariant.0)) in
    (sym (search-end (is_row_of a) w (length t / w) t loop-was.n over) ∙ loop-was.invariant.2, omega arith)
