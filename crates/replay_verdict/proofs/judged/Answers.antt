-- The record has no room for what is always there, or each part is judged in its order.
use mathlib.Core.Path.{sym, ap, ◌∙◌}
use Prim.Native.Nat.{ℕ, ◌+◌}
use native.Mathlib.Omega.{arith}
use Rattle.replay_verdict.specs.Verdicts.{agreed, answer_end, notice_end, room_as, table_as, text_at}
use Rattle.replay_verdict.proofs.Laws.{two, text-lent, rest-lent, notice-ends, behind, no-form, in-form}
use Rattle.replay_verdict.proofs.judged.Goals as goal

pub returns-then-n-a : goal.returns-then-n-a
unfolding agreed
returns-then-n-a c =
    let a = c.args in
    let w = behind a.r.now a.at in
    sym (no-form a.r.now a.at a.g a.table.now a.answer.now a.answer_seed a.notice.now a.notice_seed (omega (arith, w.0, w.1)))

pub returns-then-n-e : goal.returns-then-n-e
unfolding agreed answer_end
returns-then-n-e c =
    let a = c.args in
    let w = behind a.r.now a.at in
    let e = c.text_end-e in
    sym (no-form a.r.now a.at a.g a.table.now a.answer.now a.answer_seed a.notice.now a.notice_seed (omega (arith, w.1, e.ensures.0)))

pub returns-then-n-f : goal.returns-then-n-f
unfolding agreed
returns-then-n-f c =
    let a = c.args in
    let e = c.text_end-e in
    let f = c.text_end-f in
    let ends = notice-ends a.r.now a.at e.result f.result e.ensures.0 f.ensures.0 in
    sym (no-form a.r.now a.at a.g a.table.now a.answer.now a.answer_seed a.notice.now a.notice_seed (omega (arith, ends)))

pub returns : goal.returns
unfolding answer_end
returns c =
    let a = c.args in
    let r = c.args.r.now in
    let e = c.text_end-e in
    let f = c.text_end-f in
    let ends = notice-ends r a.at e.result f.result e.ensures.0 f.ensures.0 in
    let in-answer = c.room-in_answer.ensures ∙ ap (room_as a.answer_seed a.answer.now) (text-lent r (a.at + 32) (a.at + 32 + 4) e.result (omega arith) e.ensures.0) in
    let in-notice = c.room-in_notice.ensures
    ∙ ap (room_as a.notice_seed a.notice.now) (text-lent r e.result (e.result + 4) f.result (omega arith) f.ensures.0)
    ∙ ap (λ (k : ℕ). room_as a.notice_seed a.notice.now (text_at r k)) e.ensures.0 in
    let on-table = c.on_table.ensures ∙ ap (table_as a.table.now) (rest-lent r (notice_end r a.at) f.result ends) in
    two c.both-2.ensures (two c.both-numbers.ensures c.answered.ensures c.cut.ensures)
    (two c.both.ensures (two c.both-rooms.ensures in-answer in-notice) on-table)
    ∙ sym (in-form a.r.now a.at a.g a.table.now a.answer.now a.answer_seed a.notice.now a.notice_seed (omega (arith, ends)))
