-- Refused as it was read, or a request.
use mathlib.Core.Bool.{true, ◌&&◌}
use mathlib.Core.Path.{◌≡◌, sym, ◌∙◌}
use native.Mathlib.Omega.{arith}
use Rattle.octets.specs.Lists.{every}
use Rattle.octets.proofs.Lists.{and_left, and_right}
use Rattle.message.specs.Kinds.{code_from}
use Rattle.message.specs.ReadingAMessage.{read, refused, request}
use Rattle.message.specs.Spans.{asks, bytes_of, is_inside, says, spans, spans_in}
use Rattle.message.proofs.Callers.{never-2001, refused-small}
use Rattle.table.specs.Answers.{lent}
use Rattle.rules.specs.Calls.{account, most_policies, on_reading}
use Rattle.decision.specs.Outcomes.{call_of}
use Rattle.decision.proofs.Answered.{nobody-named}
use Rattle.decision.proofs.handling.on_reading.Goals as goal

pub returns-in-Err : goal.returns-in-Err
unfolding says on_reading code_from call_of
returns-in-Err c =
    let given = c.args in
    let pre-was = c.requires in
    let refused-was = c.refused in
    let t = lent given.form given.table.now in
    let m = c.args.m.now in
    let most = most_policies given.form in
    let code = c.code.result in
    let is : read most m ≡ refused code = sym pre-was.2 ∙ rw (c.in-Err.is, c.code.ensures.0) in (
      nobody-named m _ (λ e. never-2001 most m code is (sym refused-was.ensures.0 ∙ e)) (omega (arith, refused-was.ensures.0, refused-small most m code is)),
      λ host realm room. rw is (refused-was.ensures.1 given.op m host realm room t given.notice.now given.wag),
    )

pub on_request-requires : goal.on_request-requires
unfolding says spans every
on_request-requires c =
    let given = c.args in
    let pre-was = c.requires in
    let m = c.args.m.now in
    let told = c.in-Ok.is in
    let user = c.in-Ok.q.user in
    let asked = c.in-Ok.q.asked in
    let is : read (most_policies given.form) m ≡ request (record { user = bytes_of m user; ask = asks m asked }) = sym pre-was.2 ∙ rw told in
    let all : is_inside m user && every (is_inside m) (spans_in asked) ≡ true = rw told at pre-was.3 in
    (pre-was.0, pre-was.1, and_right (is_inside m user) _ all, and_left (is_inside m user) _ all, is)

pub returns-in-Ok : goal.returns-in-Ok
unfolding says on_reading call_of account
returns-in-Ok c =
    let given = c.args in
    let pre-was = c.requires in
    let on-request-was = c.on_request in
    let m = c.args.m.now in
    let user = c.in-Ok.q.user in
    let asked = c.in-Ok.q.asked in
    let is : read (most_policies given.form) m ≡ request (record { user = bytes_of m user; ask = asks m asked }) = sym pre-was.2 ∙ rw c.in-Ok.is in
    (on-request-was.ensures.0, λ host realm room. rw is (on-request-was.ensures.1 host realm room))
