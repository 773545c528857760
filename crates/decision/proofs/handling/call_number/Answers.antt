-- Each way out is the law of the first test that fails.
use Rattle.table.specs.Answers.{lent}
use mathlib.Core.Path.{◌≡◌, sym, ◌∙◌}
use mathlib.Core.Bool.{true}
use native.Mathlib.Omega.{arith}
use lib.ListN.{length}
use Rattle.octets.specs.Choice.{within}
use Rattle.table.specs.TheTable.{first_number}
use Rattle.decision.specs.Outcomes.{call_of}
use Rattle.decision.proofs.Numbers.{number-first, number-host, number-realm, number-answer, number-notice, number-message}
use Rattle.decision.proofs.handling.call_number.Goals as goal

pub returns-then-n-ne0 : goal.returns-then-n-ne0
unfolding call_of
returns-then-n-ne0 c =
    let a = c.args in
    λ wag.
    let t = lent a.form a.table.now in
    let call = call_of a.op a.message.now a.host.now a.realm.now a.answer.now a.notice.now wag in
    c.number_for-n.ensures ∙ sym (number-first t call (λ e. c.if-n-ne0.true (c.number_for-n.ensures ∙ e)))

pub returns-then-not-name_fits : goal.returns-then-not-name_fits
unfolding call_of
returns-then-not-name_fits c =
    let a = c.args in
    λ wag.
    let t = lent a.form a.table.now in
    let call = call_of a.op a.message.now a.host.now a.realm.now a.answer.now a.notice.now wag in
    let z : first_number t a.op ≡ 0 = sym c.number_for-n.ensures ∙ c.if-n-ne0.false in
    sym (number-host t call z (sym c.name_fits.ensures ∙ c.if-not-name_fits.true))

pub returns-then-not-name_fits-2 : goal.returns-then-not-name_fits-2
unfolding call_of
returns-then-not-name_fits-2 c =
    let a = c.args in
    λ wag.
    let t = lent a.form a.table.now in
    let call = call_of a.op a.message.now a.host.now a.realm.now a.answer.now a.notice.now wag in
    let z : first_number t a.op ≡ 0 = sym c.number_for-n.ensures ∙ c.if-n-ne0.false in
    let host-fits : within 1 128 (length a.host.now) ≡ true = sym c.name_fits.ensures ∙ c.if-not-name_fits.false in
    sym (number-realm t call z host-fits (sym c.name_fits-2.ensures ∙ c.if-not-name_fits-2.true))

pub returns-then-answer-lt-ANSWER_LEAST : goal.returns-then-answer-lt-ANSWER_LEAST
unfolding call_of
returns-then-answer-lt-ANSWER_LEAST c =
    let a = c.args in
    λ wag.
    let t = lent a.form a.table.now in
    let call = call_of a.op a.message.now a.host.now a.realm.now a.answer.now a.notice.now wag in
    let z : first_number t a.op ≡ 0 = sym c.number_for-n.ensures ∙ c.if-n-ne0.false in
    let host-fits : within 1 128 (length a.host.now) ≡ true = sym c.name_fits.ensures ∙ c.if-not-name_fits.false in
    let realm-fits : within 1 128 (length a.realm.now) ≡ true = sym c.name_fits-2.ensures ∙ c.if-not-name_fits-2.false in
    sym (number-answer t call z host-fits realm-fits c.if-answer-lt-ANSWER_LEAST.true)

pub returns-then-notice-notice_length : goal.returns-then-notice-notice_length
unfolding call_of
returns-then-notice-notice_length c =
    let a = c.args in
    λ wag.
    let t = lent a.form a.table.now in
    let call = call_of a.op a.message.now a.host.now a.realm.now a.answer.now a.notice.now wag in
    let z : first_number t a.op ≡ 0 = sym c.number_for-n.ensures ∙ c.if-n-ne0.false in
    let host-fits : within 1 128 (length a.host.now) ≡ true = sym c.name_fits.ensures ∙ c.if-not-name_fits.false in
    let realm-fits : within 1 128 (length a.realm.now) ≡ true = sym c.name_fits-2.ensures ∙ c.if-not-name_fits-2.false in
    sym (number-notice t call z host-fits realm-fits c.if-answer-lt-ANSWER_LEAST.false (omega (arith, c.if-notice-notice_length.true, c.notice_length.ensures)))

pub returns : goal.returns
unfolding call_of
returns c =
    let a = c.args in
    λ wag.
    let t = lent a.form a.table.now in
    let call = call_of a.op a.message.now a.host.now a.realm.now a.answer.now a.notice.now wag in
    let z : first_number t a.op ≡ 0 = sym c.number_for-n.ensures ∙ c.if-n-ne0.false in
    let host-fits : within 1 128 (length a.host.now) ≡ true = sym c.name_fits.ensures ∙ c.if-not-name_fits.false in
    let realm-fits : within 1 128 (length a.realm.now) ≡ true = sym c.name_fits-2.ensures ∙ c.if-not-name_fits-2.false in
    c.number.ensures ∙ sym (number-message t call z host-fits realm-fits c.if-answer-lt-ANSWER_LEAST.false (omega (arith, c.if-notice-notice_length.false, c.notice_length.ensures)))
