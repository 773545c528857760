-- Row i of the table is lent and changed; when it has come back, the table is as it was but for that row: `back-row` of Rows.
use mathlib.Core.Path.{◌≡◌, ap, ◌∙◌}
use mathlib.Core.List.{List}
use Prim.Native.Nat.{ℕ, ◌+◌, ◌-◌, ◌*◌}
use native.Mathlib.Omega.{arith}
use lib.ListN.{take, drop}
use Rattle.table.specs.TheTable.{form_of, row_bytes}
use Rattle.changes.specs.Changes.{named}
use Rattle.changes.proofs.Rows.{back-row, lent-form}
use Rattle.setup.proofs.SetUps.{lent-full}
use Rattle.setup.proofs.enter_row.Goals as goal

pub overflow_mul-a : goal.overflow_mul-a
overflow_mul-a c =
    let w = c.row_length-width in
    omega (arith, ap (λ (x : ℕ). x * c.args.i) w.ensures, w.ensures, c.requires.1)

pub overflow_add-e : goal.overflow_add-e
overflow_add-e c =
    let w = c.row_length-width in
    omega (arith, ap (λ (x : ℕ). x * c.args.i) w.ensures, w.ensures, c.requires.1)

pub slice_bounds-new_row-end : goal.slice_bounds-new_row-end
slice_bounds-new_row-end c =
    let w = c.row_length-width in
    omega (arith, ap (λ (x : ℕ). x * c.args.i) w.ensures, w.ensures, c.requires.1)

pub new_row-requires : goal.new_row-requires
new_row-requires c =
    let w = c.row_length-width in
    (lent-full c.args.form w.result c.args.table.now c.args.i w.ensures c.requires.1, c.requires.2)

pub returns : goal.returns
returns c =
    let done = c.new_row in
    let w = c.row_length-width in
    let t = c.args.table.now in
    let i = c.args.i in
    let fm = c.args.form in
    let r : List ℕ = take (w.result * i + w.result - w.result * i) (drop (w.result * i) t) in
    let form : form_of r ≡ fm = lent-form fm w.result t i w.ensures c.requires.1 in
    let s = named (record { operator = c.args.op; name = c.args.name.now }) in
    back-row fm w.result t i done.new.row (λ r. s) w.ensures (done.ensures ∙ ap (λ (f : ℕ). row_bytes f s) form)
