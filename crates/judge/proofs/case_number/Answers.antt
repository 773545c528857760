-- Each way out is the law of the first test that fails.
use mathlib.Core.Path.{sym, ◌∙◌}
use native.Mathlib.Omega.{arith}
use Rattle.judge.specs.Code.{case_of}
use Rattle.decision.specs.Outcomes.{call_of}
use Rattle.judge.proofs.Cases.{case-before, case-after, case-operator, case-host, case-realm, case-answer, case-notice, case-none}
use Rattle.judge.proofs.case_number.Goals as goal

pub returns-then-not-is_one_row : goal.returns-then-not-is_one_row
unfolding case_of call_of
returns-then-not-is_one_row c =
    let given = c.args in
    let is-one-row-was = c.is_one_row in
    let test1 = c.if-not-is_one_row in
    λ message theirs their_notice wag. sym (case-before (case_of given.form given.before.now given.after.now (call_of given.op message given.host.now given.realm.now given.answer.now given.notice.now wag) theirs their_notice) (sym is-one-row-was.ensures ∙ test1.true))

pub returns-then-not-is_one_row-2 : goal.returns-then-not-is_one_row-2
unfolding case_of call_of
returns-then-not-is_one_row-2 c =
    let given = c.args in
    let is-one-row-was = c.is_one_row in
    let test1 = c.if-not-is_one_row in
    let is-one-row2-was = c.is_one_row-2 in
    let test2 = c.if-not-is_one_row-2 in
    λ message theirs their_notice wag. sym (case-after (case_of given.form given.before.now given.after.now (call_of given.op message given.host.now given.realm.now given.answer.now given.notice.now wag) theirs their_notice) (sym is-one-row-was.ensures ∙ test1.false) (sym is-one-row2-was.ensures ∙ test2.true))

pub returns-then-op-gt15 : goal.returns-then-op-gt15
unfolding case_of call_of
returns-then-op-gt15 c =
    let given = c.args in
    let is-one-row-was = c.is_one_row in
    let test1 = c.if-not-is_one_row in
    let is-one-row2-was = c.is_one_row-2 in
    let test2 = c.if-not-is_one_row-2 in
    let test3 = c.if-op-gt15 in
    λ message theirs their_notice wag. sym (case-operator (case_of given.form given.before.now given.after.now (call_of given.op message given.host.now given.realm.now given.answer.now given.notice.now wag) theirs their_notice) (sym is-one-row-was.ensures ∙ test1.false) (sym is-one-row2-was.ensures ∙ test2.false) test3.true)

pub returns-then-not-name_fits : goal.returns-then-not-name_fits
unfolding case_of call_of
returns-then-not-name_fits c =
    let given = c.args in
    let is-one-row-was = c.is_one_row in
    let test1 = c.if-not-is_one_row in
    let is-one-row2-was = c.is_one_row-2 in
    let test2 = c.if-not-is_one_row-2 in
    let test3 = c.if-op-gt15 in
    let name-fits-was = c.name_fits in
    let test4 = c.if-not-name_fits in
    λ message theirs their_notice wag. sym (case-host (case_of given.form given.before.now given.after.now (call_of given.op message given.host.now given.realm.now given.answer.now given.notice.now wag) theirs their_notice) (sym is-one-row-was.ensures ∙ test1.false) (sym is-one-row2-was.ensures ∙ test2.false) (omega (arith, test3.false)) (sym name-fits-was.ensures ∙ test4.true))

pub returns-then-not-name_fits-2 : goal.returns-then-not-name_fits-2
unfolding case_of call_of
returns-then-not-name_fits-2 c =
    let given = c.args in
    let is-one-row-was = c.is_one_row in
    let test1 = c.if-not-is_one_row in
    let is-one-row2-was = c.is_one_row-2 in
    let test2 = c.if-not-is_one_row-2 in
    let test3 = c.if-op-gt15 in
    let name-fits-was = c.name_fits in
    let test4 = c.if-not-name_fits in
    let name-fits2-was = c.name_fits-2 in
    let test5 = c.if-not-name_fits-2 in
    λ message theirs their_notice wag. sym (case-realm (case_of given.form given.before.now given.after.now (call_of given.op message given.host.now given.realm.now given.answer.now given.notice.now wag) theirs their_notice) (sym is-one-row-was.ensures ∙ test1.false) (sym is-one-row2-was.ensures ∙ test2.false) (omega (arith, test3.false)) (sym name-fits-was.ensures ∙ test4.false) (sym name-fits2-was.ensures ∙ test5.true))

pub returns-then-answer-lt-ANSWER_LEAST : goal.returns-then-answer-lt-ANSWER_LEAST
unfolding case_of call_of
returns-then-answer-lt-ANSWER_LEAST c =
    let given = c.args in
    let is-one-row-was = c.is_one_row in
    let test1 = c.if-not-is_one_row in
    let is-one-row2-was = c.is_one_row-2 in
    let test2 = c.if-not-is_one_row-2 in
    let test3 = c.if-op-gt15 in
    let name-fits-was = c.name_fits in
    let test4 = c.if-not-name_fits in
    let name-fits2-was = c.name_fits-2 in
    let test5 = c.if-not-name_fits-2 in
    let test6 = c.if-answer-lt-ANSWER_LEAST in
    λ message theirs their_notice wag. sym (case-answer (case_of given.form given.before.now given.after.now (call_of given.op message given.host.now given.realm.now given.answer.now given.notice.now wag) theirs their_notice) (sym is-one-row-was.ensures ∙ test1.false) (sym is-one-row2-was.ensures ∙ test2.false) (omega (arith, test3.false)) (sym name-fits-was.ensures ∙ test4.false) (sym name-fits2-was.ensures ∙ test5.false) test6.true)

pub returns-then-notice-notice_length : goal.returns-then-notice-notice_length
unfolding case_of call_of
returns-then-notice-notice_length c =
    let given = c.args in
    let is-one-row-was = c.is_one_row in
    let test1 = c.if-not-is_one_row in
    let is-one-row2-was = c.is_one_row-2 in
    let test2 = c.if-not-is_one_row-2 in
    let test3 = c.if-op-gt15 in
    let name-fits-was = c.name_fits in
    let test4 = c.if-not-name_fits in
    let name-fits2-was = c.name_fits-2 in
    let test5 = c.if-not-name_fits-2 in
    let test6 = c.if-answer-lt-ANSWER_LEAST in
    let notice-length-was = c.notice_length in
    let test7 = c.if-notice-notice_length in
    λ message theirs their_notice wag. sym (case-notice (case_of given.form given.before.now given.after.now (call_of given.op message given.host.now given.realm.now given.answer.now given.notice.now wag) theirs their_notice) (sym is-one-row-was.ensures ∙ test1.false) (sym is-one-row2-was.ensures ∙ test2.false) (omega (arith, test3.false)) (sym name-fits-was.ensures ∙ test4.false) (sym name-fits2-was.ensures ∙ test5.false) (omega (arith, test6.false)) (omega (arith, notice-length-was.ensures, test7.true)))

pub returns : goal.returns
unfolding case_of call_of
returns c =
    let given = c.args in
    let is-one-row-was = c.is_one_row in
    let test1 = c.if-not-is_one_row in
    let is-one-row2-was = c.is_one_row-2 in
    let test2 = c.if-not-is_one_row-2 in
    let test3 = c.if-op-gt15 in
    let name-fits-was = c.name_fits in
    let test4 = c.if-not-name_fits in
    let name-fits2-was = c.name_fits-2 in
    let test5 = c.if-not-name_fits-2 in
    let test6 = c.if-answer-lt-ANSWER_LEAST in
    let notice-length-was = c.notice_length in
    let test7 = c.if-notice-notice_length in
    λ message theirs their_notice wag. sym (case-none (case_of given.form given.before.now given.after.now (call_of given.op message given.host.now given.realm.now given.answer.now given.notice.now wag) theirs their_notice) (sym is-one-row-was.ensures ∙ test1.false) (sym is-one-row2-was.ensures ∙ test2.false) (omega (arith, test3.false)) (sym name-fits-was.ensures ∙ test4.false) (sym name-fits2-was.ensures ∙ test5.false) (omega (arith, test6.false)) (omega (arith, notice-length-was.ensures, test7.false)))
