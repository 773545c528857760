-- Refused in reading, or a request: `not-read` and `was_read` of OnRow.
use mathlib.Core.Path.{◌≡◌, sym, ap, ◌∙◌}
use mathlib.Core.Bool.{true, ◌&&◌}
use Prim.Native.Nat.{ℕ}
use Rattle.octets.specs.Lists.{every}
use Rattle.octets.proofs.Lists.{and_left, and_right}
use Rattle.message.specs.ReadingAMessage.{read, refused, request}
use Rattle.message.specs.Spans.{asks, bytes_of, is_inside, says, spans, spans_in}
use Rattle.table.specs.Answers.{lent}
use Rattle.decision.specs.Outcomes.{call_of}
use Rattle.order.specs.ChecksInOrder.{first_failed, reading_checks}
use Rattle.rules.specs.Calls.{account, most_policies}
use Rattle.reasons.proofs.OnRow.{not-read, was_read}
use Rattle.reasons.proofs.answered_for.Goals as goal

pub read-heard-requires : goal.read-heard-requires
read-heard-requires c =
    let pre-was = c.requires in
    let most-policies-was = c.most_policies-most in
    (pre-was.1, most-policies-was.ensures.1, most-policies-was.ensures.2)

pub reading_failed-requires : goal.reading_failed-requires
reading_failed-requires c =
    let pre-was = c.requires in
    let most-policies-was = c.most_policies-most in
    (pre-was.1, most-policies-was.ensures.1, most-policies-was.ensures.2)

pub returns-in-Err : goal.returns-in-Err
unfolding says call_of
returns-in-Err c =
    let given = c.args in
    let most-policies-was = c.most_policies-most in
    let read-was = c.read-heard in
    let reading-failed-was = c.reading_failed in
    let m = c.args.m.now in
    let most : most-policies-was.result ≡ most_policies given.form = most-policies-was.ensures.0 in
    let is : read (most_policies given.form) m ≡ refused _ = ap (λ (n : ℕ). read n m) (sym most) ∙ sym read-was.ensures.reading ∙ ap (says m) c.in-Err.is in
    λ host realm answer notice.
    reading-failed-was.ensures
    ∙ ap (λ (n : ℕ). first_failed (reading_checks n m)) most
    ∙ not-read (lent given.form given.table.now) (call_of given.op m host realm answer notice given.wag) _ is

pub request_failed-requires : goal.request_failed-requires
unfolding spans every
request_failed-requires c =
    let read-was = c.read-heard in
    let pre-was = c.requires in
    let m = c.args.m.now in
    let user = c.in-Ok.q.user in
    let asked = c.in-Ok.q.asked in
    let all : is_inside m user && every (is_inside m) (spans_in asked) ≡ true = rw c.in-Ok.is at read-was.ensures.inside in
    (pre-was.0, and_right (is_inside m user) _ all, and_left (is_inside m user) _ all)

pub returns-in-Ok : goal.returns-in-Ok
unfolding says call_of account
returns-in-Ok c =
    let given = c.args in
    let most-policies-was = c.most_policies-most in
    let read-was = c.read-heard in
    let request-failed-was = c.request_failed in
    let m = c.args.m.now in
    let user = c.in-Ok.q.user in
    let asked = c.in-Ok.q.asked in
    let is : read (most_policies given.form) m ≡ request (record { user = bytes_of m user; ask = asks m asked }) =
    ap (λ (n : ℕ). read n m) (sym most-policies-was.ensures.0) ∙ sym read-was.ensures.reading ∙ ap (says m) c.in-Ok.is in
    λ host realm answer notice.
    request-failed-was.ensures ∙ was_read (lent given.form given.table.now) (call_of given.op m host realm answer notice given.wag) _ is
