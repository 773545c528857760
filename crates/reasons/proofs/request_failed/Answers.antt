-- No row, an unsound row, or deciding on the row.
use mathlib.Core.List.{List}
use mathlib.Core.Path.{◌≡◌, sym, ap, ◌∙◌}
use mathlib.Core.Bool.{true, false}
use Prim.Native.Nat.{ℕ, ◌+◌, ◌*◌, ◌≤◌}
use native.Mathlib.Omega.{arith}
use lib.ListN.{length}
use Rattle.message.specs.Spans.{asks, bytes_of}
use Rattle.table.specs.TheTable.{Found, lookup, nothing, read_row, row, row_at, row_length}
use Rattle.table.specs.Soundness.{is_row, sound}
use Rattle.table.specs.Answers.{found, lent}
use Rattle.table.proofs.Rows.{form-top, lent_row, lent-test}
use Rattle.decision.proofs.Answered.{row-there}
use Rattle.order.specs.ChecksInOrder.{first_failed, deciding_checks}
use Rattle.reasons.specs.Reasons.{check_named}
use Rattle.reasons.proofs.OnRow.{no-row, unsound-row, sound-row}
use Rattle.reasons.proofs.request_failed.Goals as goal

pub returns-in_default : goal.returns-in_default
unfolding check_named
returns-in_default c =
    let given = c.args in
    let text-was = c.text in
    let lookup-was = c.lookup in
    let t = lent given.form given.table.now in
    let m = c.args.m.now in
    let at : Found = lookup t (record { operator = given.op; name = bytes_of m given.user }) in
    let is : at ≡ nothing = ap (λ (n : List ℕ). lookup t (record { operator = given.op; name = n })) (sym text-was.ensures) ∙ sym lookup-was.ensures.0 ∙ ap found c.in_default.is in
    no-row t (asks m given.asked) given.wag at is

pub row_length-width-requires : goal.row_length-width-requires
row_length-width-requires c =
    let given = c.args in
    let pre-was = c.requires in
    form-top (lent given.form given.table.now) pre-was.0

pub overflow_mul-a : goal.overflow_mul-a
overflow_mul-a c =
    let given = c.args in
    let lookup-was = c.lookup in
    let row-length-was = c.row_length-width in
    let end : row_length given.form * c.in-Some.i + row_length given.form ≤ length given.table.now = rw c.in-Some.is at lookup-was.ensures.1 in
    rw row-length-was.ensures (omega (arith, end))

pub overflow_add-e : goal.overflow_add-e
overflow_add-e c =
    let given = c.args in
    let lookup-was = c.lookup in
    let row-length-was = c.row_length-width in
    let end : row_length given.form * c.in-Some.i + row_length given.form ≤ length given.table.now = rw c.in-Some.is at lookup-was.ensures.1 in
    rw row-length-was.ensures (omega (arith, end))

pub slice_bounds-row_sound-end : goal.slice_bounds-row_sound-end
slice_bounds-row_sound-end c =
    let given = c.args in
    let lookup-was = c.lookup in
    let row-length-was = c.row_length-width in
    let end : row_length given.form * c.in-Some.i + row_length given.form ≤ length given.table.now = rw c.in-Some.is at lookup-was.ensures.1 in
    rw row-length-was.ensures (omega (arith, end))

pub row_sound-requires : goal.row_sound-requires
row_sound-requires c =
    let given = c.args in
    let row-length-was = c.row_length-width in
    let lookup-was = c.lookup in
    let pre-was = c.requires in
    let t = lent given.form given.table.now in
    let i = c.in-Some.i in
    let w = c.row_length-width.result in
    let end : row_length given.form * i + row_length given.form ≤ length given.table.now = rw c.in-Some.is at lookup-was.ensures.1 in
    ap is_row (lent_row t w (w * i) i row-length-was.ensures (ap (λ (x : ℕ). x * i) row-length-was.ensures)) ∙ row-there t i pre-was.0 end

pub returns-then-not-row_sound : goal.returns-then-not-row_sound
unfolding check_named
returns-then-not-row_sound c =
    let given = c.args in
    let row-length-was = c.row_length-width in
    let text-was = c.text in
    let lookup-was = c.lookup in
    let row-sound-was = c.row_sound in
    let test1 = c.if-not-row_sound in
    let t = lent given.form given.table.now in
    let m = c.args.m.now in
    let i = c.in-Some.i in
    let w = c.row_length-width.result in
    let at : Found = lookup t (record { operator = given.op; name = bytes_of m given.user }) in
    let is : at ≡ row i = ap (λ (n : List ℕ). lookup t (record { operator = given.op; name = n })) (sym text-was.ensures) ∙ sym lookup-was.ensures.0 ∙ ap found c.in-Some.is in
    let unsound : sound (row_at t i) ≡ false =
    lent-test sound t w (w * i) i row-sound-was.result false row-length-was.ensures (ap (λ (x : ℕ). x * i) row-length-was.ensures) row-sound-was.ensures (test1.true) in
    unsound-row t (asks m given.asked) given.wag at i is unsound

pub slice_bounds-deciding_failed-end : goal.slice_bounds-deciding_failed-end
slice_bounds-deciding_failed-end c =
    let given = c.args in
    let lookup-was = c.lookup in
    let row-length-was = c.row_length-width in
    let end : row_length given.form * c.in-Some.i + row_length given.form ≤ length given.table.now = rw c.in-Some.is at lookup-was.ensures.1 in
    rw row-length-was.ensures (omega (arith, end))

pub deciding_failed-requires : goal.deciding_failed-requires
deciding_failed-requires c =
    let row-sound-was = c.row_sound in
    let test1 = c.if-not-row_sound in
    let pre-was = c.requires in
    (sym row-sound-was.ensures ∙ test1.false, pre-was.1)

pub returns : goal.returns
returns c =
    let given = c.args in
    let row-length-was = c.row_length-width in
    let text-was = c.text in
    let lookup-was = c.lookup in
    let row-sound-was = c.row_sound in
    let test1 = c.if-not-row_sound in
    let deciding-failed-was = c.deciding_failed in
    let t = lent given.form given.table.now in
    let m = c.args.m.now in
    let i = c.in-Some.i in
    let w = c.row_length-width.result in
    let at : Found = lookup t (record { operator = given.op; name = bytes_of m given.user }) in
    let is : at ≡ row i = ap (λ (n : List ℕ). lookup t (record { operator = given.op; name = n })) (sym text-was.ensures) ∙ sym lookup-was.ensures.0 ∙ ap found c.in-Some.is in
    let from : w * i ≡ row_length given.form * i = ap (λ (x : ℕ). x * i) row-length-was.ensures in
    let sounds : sound (row_at t i) ≡ true = lent-test sound t w (w * i) i row-sound-was.result true row-length-was.ensures from row-sound-was.ensures (test1.false) in
    deciding-failed-was.ensures
    ∙ ap (λ r. first_failed (deciding_checks (asks m given.asked) given.wag (read_row r))) (lent_row t w (w * i) i row-length-was.ensures from)
    ∙ sound-row t (asks m given.asked) given.wag at i is sounds
