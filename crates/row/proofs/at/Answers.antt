-- The part lent is row i.
use mathlib.Core.Path.{ap}
use Prim.Native.Nat.{ℕ, ◌*◌}
use native.Mathlib.Omega.{arith}
use Rattle.table.proofs.Rows.{lent_row}
use Rattle.table.specs.Answers.{lent}
use Rattle.row.proofs.at.Goals as goal

pub overflow_mul-from : goal.overflow_mul-from
overflow_mul-from c =
    let given = c.args in
    let row-length-was = c.row_length-width in
    let pre-was = c.requires in
    omega (arith, ap (λ (x : ℕ). x * given.i) row-length-was.ensures, row-length-was.ensures, pre-was.1)

pub overflow_add-end : goal.overflow_add-end
overflow_add-end c =
    let given = c.args in
    let row-length-was = c.row_length-width in
    let pre-was = c.requires in
    omega (arith, ap (λ (x : ℕ). x * given.i) row-length-was.ensures, row-length-was.ensures, pre-was.1)

pub slice_bounds-result-end : goal.slice_bounds-result-end
slice_bounds-result-end c =
    let given = c.args in
    let row-length-was = c.row_length-width in
    let pre-was = c.requires in
    omega (arith, ap (λ (x : ℕ). x * given.i) row-length-was.ensures, row-length-was.ensures, pre-was.1)

pub returns : goal.returns
returns c =
    let given = c.args in
    let row-length-was = c.row_length-width in
    lent_row (lent given.form given.table.now) row-length-was.result _ given.i row-length-was.ensures (ap (λ (x : ℕ). x * given.i) row-length-was.ensures)
