-- A number of the case's own leaves everything as it was; else the case is held.
use mathlib.Core.Path.{sym, ◌∙◌}
use Rattle.judge.specs.Code.{case_of}
use Rattle.decision.specs.Outcomes.{call_of}
use Rattle.judge.proofs.Cases.{notice-fits}
use Rattle.judge.proofs.Holding.{judge-refused, judge-held}
use Rattle.judge.proofs.judge.Goals as goal

pub returns-then-n-ne0 : goal.returns-then-n-ne0
unfolding case_of call_of
returns-then-n-ne0 c =
    let given = c.args in
    let case-number-was = c.case_number-n in
    let test1 = c.if-n-ne0 in
    judge-refused (case_of given.form given.row.now given.after.now (call_of given.op given.message.now given.host.now given.realm.now given.answer.now given.notice.now given.wag) given.theirs.now given.their_notice.now) case-number-was.result (case-number-was.ensures given.message.now given.theirs.now given.their_notice.now given.wag) test1.true

pub hold-requires : goal.hold-requires
unfolding case_of call_of
hold-requires c =
    let given = c.args in
    let case-number-was = c.case_number-n in
    let test1 = c.if-n-ne0 in
    notice-fits (case_of given.form given.row.now given.after.now (call_of given.op given.message.now given.host.now given.realm.now given.answer.now given.notice.now given.wag) given.theirs.now given.their_notice.now) (sym (case-number-was.ensures given.message.now given.theirs.now given.their_notice.now given.wag) ∙ test1.false)

pub returns : goal.returns
returns c =
    let hold-was = c.hold in
    let given = c.args in
    let case-number-was = c.case_number-n in
    let test1 = c.if-n-ne0 in
    hold-was.ensures ∙ sym (judge-held (case_of given.form given.row.now given.after.now (call_of given.op given.message.now given.host.now given.realm.now given.answer.now given.notice.now given.wag) given.theirs.now given.their_notice.now) (sym (case-number-was.ensures given.message.now given.theirs.now given.their_notice.now given.wag) ∙ test1.false))
