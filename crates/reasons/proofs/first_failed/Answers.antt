-- A number, or the reason of the answer.
use mathlib.Core.Path.{◌≡◌, sym, ◌∙◌}
use Rattle.table.specs.Answers.{lent}
use Rattle.rules.specs.Calls.{call_number}
use Rattle.decision.specs.Outcomes.{call_of}
use Rattle.decision.proofs.Numbers.{is-ready, table-right}
use Rattle.reasons.specs.Reasons.{check_named, ground_named}
use Rattle.reasons.proofs.OnRow.{unanswered-ground, answered-ground}
use Rattle.reasons.proofs.first_failed.Goals as goal

pub returns-then-n-ne0 : goal.returns-then-n-ne0
unfolding ground_named
returns-then-n-ne0 c =
    let a = c.args in
    let t = lent a.form a.table.now in
    let call = call_of a.op a.message.now a.host.now a.realm.now a.answer.now a.notice.now a.wag in
    unanswered-ground t call c.call_number-n.result (c.call_number-n.ensures a.wag) c.if-n-ne0.true

pub answered_for-requires : goal.answered_for-requires
answered_for-requires c =
    let a = c.args in
    let t = lent a.form a.table.now in
    let call = call_of a.op a.message.now a.host.now a.realm.now a.answer.now a.notice.now a.wag in
    let z : call_number t call ≡ 0 = sym (c.call_number-n.ensures a.wag) ∙ c.if-n-ne0.false in (
      table-right t a.op a.message.now a.host.now a.realm.now a.answer.now a.notice.now a.wag z,
      (is-ready t a.op a.message.now a.host.now a.realm.now a.answer.now a.notice.now a.wag z).least,
    )

pub returns : goal.returns
unfolding ground_named
returns c =
    let a = c.args in
    let t = lent a.form a.table.now in
    let call = call_of a.op a.message.now a.host.now a.realm.now a.answer.now a.notice.now a.wag in
    let z : call_number t call ≡ 0 = sym (c.call_number-n.ensures a.wag) ∙ c.if-n-ne0.false in
    answered-ground t call (check_named c.answered_for.result) z (c.answered_for.ensures a.host.now a.realm.now a.answer.now a.notice.now)
