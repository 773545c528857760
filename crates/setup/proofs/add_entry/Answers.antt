-- Row i of the table is lent and changed; when it has come back, the table is as it was but for that row: `back-row` of Rows.
use mathlib.Core.Path.{◌≡◌, ap, ◌∙◌}
use mathlib.Core.List.{List}
use Prim.Native.Nat.{ℕ, ◌+◌, ◌-◌, ◌*◌}
use native.Mathlib.Omega.{arith}
use lib.ListN.{length, take, drop}
use Rattle.table.specs.Answers.{lent}
use Rattle.table.specs.Soundness.{sound}
use Rattle.table.specs.TheTable.{Entry, form_of, read_row, row_at, row_bytes}
use Rattle.table.proofs.Rows.{lent_row}
use Rattle.changes.specs.Changes.{with_entry}
use Rattle.changes.proofs.Rows.{back-row, lent-form}
use Rattle.setup.proofs.add_entry.Goals as goal

pub overflow_mul-a : goal.overflow_mul-a
overflow_mul-a c =
    let w = c.row_length-width in
    omega (arith, ap (λ (x : ℕ). x * c.args.i) w.ensures, w.ensures, c.requires.1)

pub overflow_add-e : goal.overflow_add-e
overflow_add-e c =
    let w = c.row_length-width in
    omega (arith, ap (λ (x : ℕ). x * c.args.i) w.ensures, w.ensures, c.requires.1)

pub slice_bounds-append_entry-end : goal.slice_bounds-append_entry-end
slice_bounds-append_entry-end c =
    let w = c.row_length-width in
    omega (arith, ap (λ (x : ℕ). x * c.args.i) w.ensures, w.ensures, c.requires.1)

pub append_entry-requires : goal.append_entry-requires
append_entry-requires c =
    let t = c.args.table.now in
    let i = c.args.i in
    let w = c.row_length-width in
    let row : take (w.result * i + w.result - w.result * i) (drop (w.result * i) t) ≡ row_at (lent c.args.form t) i =
    lent_row (lent c.args.form t) w.result (w.result * i) i w.ensures (ap (λ (x : ℕ). x * i) w.ensures) in
    (ap sound row ∙ c.requires.2, omega (arith, ap (λ (r : List ℕ). length (read_row r).entries) row, c.requires.3), c.requires.4)

pub returns : goal.returns
returns c =
    let done = c.append_entry in
    let w = c.row_length-width in
    let t = c.args.table.now in
    let i = c.args.i in
    let fm = c.args.form in
    let r : List ℕ = take (w.result * i + w.result - w.result * i) (drop (w.result * i) t) in
    let form : form_of r ≡ fm = lent-form fm w.result t i w.ensures c.requires.1 in
    let e : Entry = record { label = c.args.label.now; flags = c.args.flags; limit = c.args.limit } in
    back-row fm w.result t i done.new.row (λ r. with_entry e (read_row r)) w.ensures (done.ensures ∙ ap (λ (f : ℕ). row_bytes f (with_entry e (read_row r))) form)
