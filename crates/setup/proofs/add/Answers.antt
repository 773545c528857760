-- One law of SetUps for each way out: `add-first`, `add-12`, `add-refused`, `add_done`.
use mathlib.Core.Path.{◌≡◌, sym, ap, ◌∙◌}
use mathlib.Core.List.{List}
use Prim.Native.Nat.{ℕ, ◌+◌, ◌*◌, ◌≤◌}
use native.Mathlib.Omega.{arith}
use lib.ListN.{length}
use Rattle.table.specs.Answers.{found, lent, row_end}
use Rattle.table.specs.TheTable.{Account, Entry, Table, row_at, row_length}
use Rattle.table.proofs.Rows.{first-table, form_in, form-top, lent_row}
use Rattle.setup.specs.SetUp.{entry_number}
use Rattle.setup.proofs.SetUps.{Passed, add-12, add_done, add-first, add-refused, entry-passed, label-fits, lent-is-row}
use Rattle.setup.proofs.add.Goals as goal

pub returns-then-n-ne0 : goal.returns-then-n-ne0
returns-then-n-ne0 c =
    let given = c.args in
    let t : Table = lent given.form given.table.now in
    let a : Account = record { operator = given.op; name = given.name.now } in
    let e : Entry = record { label = given.label.now; flags = given.flags; limit = given.limit } in
    add-first t a e c.number_for-n.result c.number_for-n.ensures c.if-n-ne0.true

pub lookup-requires : goal.lookup-requires
lookup-requires c =
    let given = c.args in
    let first = sym c.number_for-n.ensures ∙ c.if-n-ne0.false in
    first-table (lent given.form given.table.now) given.op first

pub returns-in_default : goal.returns-in_default
returns-in_default c =
    let given = c.args in
    let first = sym c.number_for-n.ensures ∙ c.if-n-ne0.false in
    let t : Table = lent given.form given.table.now in
    let a : Account = record { operator = given.op; name = given.name.now } in
    let e : Entry = record { label = given.label.now; flags = given.flags; limit = given.limit } in
    add-12 t a e first (sym c.lookup.ensures.0 ∙ ap found c.in_default.is)

pub row_length-width-requires : goal.row_length-width-requires
row_length-width-requires c =
    let given = c.args in
    let first = sym c.number_for-n.ensures ∙ c.if-n-ne0.false in
    let t : Table = lent given.form given.table.now in
    form-top t (first-table t given.op first)

pub overflow_mul-a : goal.overflow_mul-a
overflow_mul-a c =
    let given = c.args in
    let w = c.row_length-width in
    let i = c.in-Some.i in
    let here = c.lookup in
    let at = c.in-Some.is in
    let ends : row_length given.form * i + row_length given.form ≤ length given.table.now = omega (arith, here.ensures.1, ap (row_end given.form) at) in
    omega (arith, ap (λ (x : ℕ). x * i) w.ensures, w.ensures)

pub overflow_add-e : goal.overflow_add-e
overflow_add-e c =
    let given = c.args in
    let w = c.row_length-width in
    let i = c.in-Some.i in
    let here = c.lookup in
    let at = c.in-Some.is in
    let ends : row_length given.form * i + row_length given.form ≤ length given.table.now = omega (arith, here.ensures.1, ap (row_end given.form) at) in
    omega (arith, ap (λ (x : ℕ). x * i) w.ensures, w.ensures)

pub slice_bounds-entry_number-end : goal.slice_bounds-entry_number-end
slice_bounds-entry_number-end c =
    let given = c.args in
    let w = c.row_length-width in
    let i = c.in-Some.i in
    let here = c.lookup in
    let at = c.in-Some.is in
    let ends : row_length given.form * i + row_length given.form ≤ length given.table.now = omega (arith, here.ensures.1, ap (row_end given.form) at) in
    omega (arith, ap (λ (x : ℕ). x * i) w.ensures, w.ensures)

pub entry_number-m-requires : goal.entry_number-m-requires
entry_number-m-requires c =
    let given = c.args in
    let first = sym c.number_for-n.ensures ∙ c.if-n-ne0.false in
    let w = c.row_length-width in
    let i = c.in-Some.i in
    let here = c.lookup in
    let at = c.in-Some.is in
    let ends : row_length given.form * i + row_length given.form ≤ length given.table.now = omega (arith, here.ensures.1, ap (row_end given.form) at) in
    let t : Table = lent given.form given.table.now in
    lent-is-row given.form w.result given.table.now i w.ensures ends (form_in t (first-table t given.op first))

pub returns-then-m-ne0 : goal.returns-then-m-ne0
returns-then-m-ne0 c =
    let given = c.args in
    let first = sym c.number_for-n.ensures ∙ c.if-n-ne0.false in
    let t : Table = lent given.form given.table.now in
    let a : Account = record { operator = given.op; name = given.name.now } in
    let e : Entry = record { label = given.label.now; flags = given.flags; limit = given.limit } in
    let w = c.row_length-width in
    let i = c.in-Some.i in
    let here = c.lookup in
    let at = c.in-Some.is in
    let ends : row_length given.form * i + row_length given.form ≤ length given.table.now = omega (arith, here.ensures.1, ap (row_end given.form) at) in
    let said : c.entry_number-m.result ≡ entry_number (row_at t i) e =
    c.entry_number-m.ensures ∙ ap (λ (r : List ℕ). entry_number r e) (lent_row t w.result (w.result * i) i w.ensures (ap (λ (x : ℕ). x * i) w.ensures)) in
    add-refused t a e i c.entry_number-m.result first (sym here.ensures.0 ∙ ap found at) said c.if-m-ne0.true

pub add_entry-requires : goal.add_entry-requires
add_entry-requires c =
    let given = c.args in
    let first = sym c.number_for-n.ensures ∙ c.if-n-ne0.false in
    let t : Table = lent given.form given.table.now in
    let a : Account = record { operator = given.op; name = given.name.now } in
    let e : Entry = record { label = given.label.now; flags = given.flags; limit = given.limit } in
    let w = c.row_length-width in
    let i = c.in-Some.i in
    let here = c.lookup in
    let at = c.in-Some.is in
    let ends : row_length given.form * i + row_length given.form ≤ length given.table.now = omega (arith, here.ensures.1, ap (row_end given.form) at) in
    let said : c.entry_number-m.result ≡ entry_number (row_at t i) e =
    c.entry_number-m.ensures ∙ ap (λ (r : List ℕ). entry_number r e) (lent_row t w.result (w.result * i) i w.ensures (ap (λ (x : ℕ). x * i) w.ensures)) in
    let p : Passed (row_at t i) e = entry-passed (row_at t i) e (sym said ∙ c.if-m-ne0.false) in
    (form-top t (first-table t given.op first), ends, p.is-sound, p.room, label-fits e p.fine)

pub returns : goal.returns
returns c =
    let given = c.args in
    let first = sym c.number_for-n.ensures ∙ c.if-n-ne0.false in
    let t : Table = lent given.form given.table.now in
    let a : Account = record { operator = given.op; name = given.name.now } in
    let e : Entry = record { label = given.label.now; flags = given.flags; limit = given.limit } in
    let w = c.row_length-width in
    let i = c.in-Some.i in
    let here = c.lookup in
    let at = c.in-Some.is in
    let ends : row_length given.form * i + row_length given.form ≤ length given.table.now = omega (arith, here.ensures.1, ap (row_end given.form) at) in
    let said : c.entry_number-m.result ≡ entry_number (row_at t i) e =
    c.entry_number-m.ensures ∙ ap (λ (r : List ℕ). entry_number r e) (lent_row t w.result (w.result * i) i w.ensures (ap (λ (x : ℕ). x * i) w.ensures)) in
    add_done t a e i c.entry_number-m.result (lent given.form c.add_entry.new.table) first (sym here.ensures.0 ∙ ap found at) said c.if-m-ne0.false c.add_entry.ensures
