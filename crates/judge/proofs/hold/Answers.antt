-- What the call leaves is what is due (Holding): the parts compared lie inside the rooms, and they are what the call tells.
use mathlib.Core.Path.{◌∙◌}
use Rattle.judge.specs.Code.{case_of}
use Rattle.decision.specs.Outcomes.{call_of}
use Rattle.judge.specs.TheJudge.{expected}
use Rattle.judge.proofs.Holding.{answer-inside, notice-inside, held-is, mismatch-is}
use Rattle.judge.proofs.hold.Goals as goal

pub slice_bounds-first_mismatch-end : goal.slice_bounds-first_mismatch-end
unfolding expected case_of call_of
slice_bounds-first_mismatch-end c =
    let given = c.args in
    let handle-was = c.handle-o in
    answer-inside (case_of given.form given.row.now given.after.now (call_of given.op given.message.now given.host.now given.realm.now given.answer.now given.notice.now given.wag) given.theirs.now given.their_notice.now) handle-was.result handle-was.new.table handle-was.new.answer handle-was.new.notice handle-was.ensures

pub slice_bounds-first_mismatch-end-2 : goal.slice_bounds-first_mismatch-end-2
unfolding expected case_of call_of
slice_bounds-first_mismatch-end-2 c =
    let given = c.args in
    let handle-was = c.handle-o in
    let pre-was = c.requires in
    let notice-told-was = c.notice_told-told in
    notice-inside (case_of given.form given.row.now given.after.now (call_of given.op given.message.now given.host.now given.realm.now given.answer.now given.notice.now given.wag) given.theirs.now given.their_notice.now) handle-was.result handle-was.new.table handle-was.new.answer handle-was.new.notice handle-was.ensures pre-was notice-told-was.result notice-told-was.ensures

pub returns : goal.returns
unfolding expected case_of call_of
returns c =
    let given = c.args in
    let handle-was = c.handle-o in
    let first-mismatch-was = c.first_mismatch in
    let notice-told-was = c.notice_told-told in
    held-is (case_of given.form given.row.now given.after.now (call_of given.op given.message.now given.host.now given.realm.now given.answer.now given.notice.now given.wag) given.theirs.now given.their_notice.now) handle-was.result handle-was.new.table handle-was.new.answer handle-was.new.notice handle-was.ensures c.found_by.result (c.found_by.ensures ∙ first-mismatch-was.ensures ∙ mismatch-is (case_of given.form given.row.now given.after.now (call_of given.op given.message.now given.host.now given.realm.now given.answer.now given.notice.now given.wag) given.theirs.now given.their_notice.now) handle-was.result handle-was.new.table handle-was.new.answer handle-was.new.notice handle-was.ensures notice-told-was.result notice-told-was.ensures)
