-- No row, an unsound one, or what is settled on it.
use mathlib.Core.Bool.{true, false}
use mathlib.Core.Path.{◌≡◌, sym, ap, ◌∙◌}
use mathlib.Core.List.{List}
use Prim.Native.Nat.{ℕ, ◌+◌, ◌*◌, ◌≤◌}
use native.Mathlib.Omega.{arith}
use lib.ListN.{length}
use Rattle.octets.specs.Choice.{pick}
use Rattle.message.specs.Kinds.{code_from}
use Rattle.message.specs.Spans.{bytes_of}
use Rattle.table.specs.Answers.{found, lent}
use Rattle.table.specs.Soundness.{is_row, sound}
use Rattle.table.specs.TheTable.{lookup, nothing, row, row_at, row_length}
use Rattle.table.proofs.Rows.{form_in, form-top}
use Rattle.rules.specs.Calls.{on_row}
use Rattle.decision.specs.Outcomes.{call_of}
use Rattle.decision.proofs.Answered.{nobody-named, row-there}
use Rattle.decision.proofs.handling.on_request.Goals as goal

pub returns-in_default : goal.returns-in_default
unfolding on_row code_from call_of
returns-in_default c =
    let given = c.args in
    let text-was = c.text in
    let lookup-was = c.lookup in
    let refused-was = c.refused in
    let t = lent given.form given.table.now in
    let m = c.args.m.now in
    let is : lookup t (record { operator = given.op; name = bytes_of m given.user }) ≡ nothing =
    ap (λ (n : List ℕ). lookup t (record { operator = given.op; name = n })) (sym text-was.ensures) ∙ sym lookup-was.ensures.0 ∙ ap found c.in_default.is in (
      nobody-named m _ (λ e. omega (arith, refused-was.ensures.0, e)) (omega (arith, refused-was.ensures.0)),
      λ host realm room. rw is (refused-was.ensures.1 given.op m host realm room t given.notice.now given.wag),
    )

pub at-requires : goal.at-requires
at-requires c =
    let given = c.args in
    let lookup-was = c.lookup in
    let pre-was = c.requires in
    let t = lent given.form given.table.now in
    let i = c.in-Some.i in
    let end : row_length given.form * i + row_length given.form ≤ length given.table.now = rw c.in-Some.is at lookup-was.ensures.1 in
    (form-top t pre-was.1, end)

pub row_sound-requires : goal.row_sound-requires
row_sound-requires c =
    let given = c.args in
    let lookup-was = c.lookup in
    let at-was = c.at in
    let pre-was = c.requires in
    let t = lent given.form given.table.now in
    let i = c.in-Some.i in
    let end : row_length given.form * i + row_length given.form ≤ length given.table.now = rw c.in-Some.is at lookup-was.ensures.1 in
    ap is_row at-was.ensures ∙ row-there t i pre-was.1 end

pub returns-then-not-row_sound : goal.returns-then-not-row_sound
unfolding on_row code_from call_of pick
returns-then-not-row_sound c =
    let given = c.args in
    let text-was = c.text in
    let lookup-was = c.lookup in
    let at-was = c.at in
    let row-sound-was = c.row_sound in
    let test1 = c.if-not-row_sound in
    let refused2-was = c.refused-then-not-row_sound in
    let t = lent given.form given.table.now in
    let m = c.args.m.now in
    let i = c.in-Some.i in
    let is : lookup t (record { operator = given.op; name = bytes_of m given.user }) ≡ row i =
    ap (λ (n : List ℕ). lookup t (record { operator = given.op; name = n })) (sym text-was.ensures) ∙ sym lookup-was.ensures.0 ∙ ap found c.in-Some.is in
    let unsound : sound (row_at t i) ≡ false = ap sound (sym at-was.ensures) ∙ sym row-sound-was.ensures ∙ test1.true in (
      nobody-named m _ (λ e. omega (arith, refused2-was.ensures.0, e)) (omega (arith, refused2-was.ensures.0)),
      λ host realm room. rw (is, unsound) (refused2-was.ensures.1 given.op m host realm room t given.notice.now given.wag),
    )

pub settle-requires : goal.settle-requires
settle-requires c =
    let given = c.args in
    let lookup-was = c.lookup in
    let at-was = c.at in
    let row-sound-was = c.row_sound in
    let test1 = c.if-not-row_sound in
    let pre-was = c.requires in
    let t = lent given.form given.table.now in
    let i = c.in-Some.i in
    let end : row_length given.form * i + row_length given.form ≤ length given.table.now = rw c.in-Some.is at lookup-was.ensures.1 in
    let sounds : sound (row_at t i) ≡ true = ap sound (sym at-was.ensures) ∙ sym row-sound-was.ensures ∙ test1.false in
    (pre-was.0, form_in t pre-was.1, form-top t pre-was.1, end, sounds, pre-was.2, pre-was.3, pre-was.4)

pub returns : goal.returns
unfolding on_row call_of pick
returns c =
    let given = c.args in
    let text-was = c.text in
    let lookup-was = c.lookup in
    let at-was = c.at in
    let row-sound-was = c.row_sound in
    let test1 = c.if-not-row_sound in
    let settle-was = c.settle in
    let t = lent given.form given.table.now in
    let m = c.args.m.now in
    let i = c.in-Some.i in
    let is : lookup t (record { operator = given.op; name = bytes_of m given.user }) ≡ row i =
    ap (λ (n : List ℕ). lookup t (record { operator = given.op; name = n })) (sym text-was.ensures) ∙ sym lookup-was.ensures.0 ∙ ap found c.in-Some.is in
    let sounds : sound (row_at t i) ≡ true = ap sound (sym at-was.ensures) ∙ sym row-sound-was.ensures ∙ test1.false in
    (settle-was.ensures.0, λ host realm room. rw (is, sounds) (settle-was.ensures.1 given.op host realm room))
