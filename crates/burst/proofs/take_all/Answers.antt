use mathlib.Core.Path.{refl, sym, ◌∙◌}
use mathlib.Core.Bool.{not}
use mathlib.Core.List.{map}
use native.Mathlib.Omega.{arith}
use lib.Dec.{eqb}
use lib.ListN.{get_or}
use Rattle.table.specs.Answers.{lent}
use Rattle.burst.specs.Code.{burst_of, result_in}
use Rattle.burst.proofs.Loop.{burst-goes, from-fits, going-again, going-first, going-last, one-cut, place-left, used-fits, word-left}
use Rattle.burst.proofs.take_all.Goals as goal

pub loop-next-preserved : goal.loop-next-preserved
loop-next-preserved c =
    let a = c.args in
    let l = c.loop-next in
    let some = c.loop-next-test.true in
    let one = c.take_one-o in
    let room = c.notice_length-room in
    going-again a.form a.op a.host.now a.realm.now a.messages.now a.wags.now a.table.now a.answers.now a.notices.now a.results.now l.table l.answers l.notices l.results l.taken l.at l.used l.cuts l.from l.next l.invariant some (not (eqb (get_or a.wags.now l.taken 0) 0)) refl one.result one.new.table one.new.answer one.new.notice one.new.results one.ensures.0 one.auto.answer one.auto.notice _ _ refl refl one.auto.table one.ensures.1 c.cut_number.result c.cut_number.ensures room.result c.next_taken-next-in-loop-next.result room.ensures c.next_taken-next-in-loop-next.ensures

pub loop-next-init : goal.loop-next-init
loop-next-init c =
    let a = c.args in
    going-first a.form a.op a.host.now a.realm.now a.messages.now a.wags.now a.table.now a.answers.now a.notices.now a.results.now c.requires c.notice_length-room.result c.next_taken-next.result c.notice_length-room.ensures c.next_taken-next.ensures

pub overflow_add-end : goal.overflow_add-end
overflow_add-end c =
    let l = c.loop-next in
    omega (arith, l.invariant.at-within)

pub bounds-wags-taken : goal.bounds-wags-taken
bounds-wags-taken c =
    let a = c.args in
    let l = c.loop-next in
    let some = c.loop-next-test.true in
    word-left a.form a.op a.host.now a.realm.now a.messages.now a.wags.now a.table.now a.answers.now a.notices.now a.results.now l.table l.answers l.notices l.results l.taken l.at l.used l.cuts l.from l.next l.invariant some

pub slice_bounds-take_one-count : goal.slice_bounds-take_one-count
slice_bounds-take_one-count c = omega arith

pub slice_bounds-take_one-end : goal.slice_bounds-take_one-end
slice_bounds-take_one-end c =
    let l = c.loop-next in
    omega (arith, l.invariant.at-within)

pub slice_bounds-take_one-count-in-loop-next : goal.slice_bounds-take_one-count-in-loop-next
slice_bounds-take_one-count-in-loop-next c =
    let l = c.loop-next in
    omega (arith, l.invariant.used-within)

pub slice_bounds-take_one-start-in-loop-next : goal.slice_bounds-take_one-start-in-loop-next
slice_bounds-take_one-start-in-loop-next c =
    let l = c.loop-next in
    omega (arith, l.invariant.used-within)

pub slice_bounds-take_one-end-in-loop-next : goal.slice_bounds-take_one-end-in-loop-next
slice_bounds-take_one-end-in-loop-next c =
    let l = c.loop-next in
    omega (arith, l.invariant.same-answers)

pub slice_bounds-take_one-count-in-loop-next-2 : goal.slice_bounds-take_one-count-in-loop-next-2
slice_bounds-take_one-count-in-loop-next-2 c =
    let l = c.loop-next in
    omega (arith, l.invariant.from-within)

pub slice_bounds-take_one-start-in-loop-next-2 : goal.slice_bounds-take_one-start-in-loop-next-2
slice_bounds-take_one-start-in-loop-next-2 c =
    let l = c.loop-next in
    omega (arith, l.invariant.from-within)

pub slice_bounds-take_one-end-in-loop-next-2 : goal.slice_bounds-take_one-end-in-loop-next-2
slice_bounds-take_one-end-in-loop-next-2 c =
    let l = c.loop-next in
    omega (arith, l.invariant.same-notices)

pub take_one-o-requires : goal.take_one-o-requires
take_one-o-requires c =
    let a = c.args in
    let l = c.loop-next in
    let some = c.loop-next-test.true in
    place-left a.form a.op a.host.now a.realm.now a.messages.now a.wags.now a.table.now a.answers.now a.notices.now a.results.now l.table l.answers l.notices l.results l.taken l.at l.used l.cuts l.from l.next l.invariant some

pub overflow_add-used : goal.overflow_add-used
overflow_add-used c =
    let a = c.args in
    let l = c.loop-next in
    let some = c.loop-next-test.true in
    let one = c.take_one-o in
    omega (arith, used-fits a.form a.op a.host.now a.realm.now a.messages.now a.wags.now a.table.now a.answers.now a.notices.now a.results.now l.table l.answers l.notices l.results l.taken l.at l.used l.cuts l.from l.next l.invariant some (not (eqb (get_or a.wags.now l.taken 0) 0)) refl one.result one.new.table one.new.answer one.new.notice one.new.results one.ensures.0 one.auto.answer one.auto.notice, c.well_formed.1.1.1.1.1.1.1.0)

pub overflow_add-cuts : goal.overflow_add-cuts
overflow_add-cuts c =
    let a = c.args in
    let l = c.loop-next in
    let some = c.loop-next-test.true in
    let one = c.take_one-o in
    omega (arith, c.well_formed.1.1.1.1.1.0, l.invariant.few-cuts, l.invariant.few-taken, l.invariant.at-within, some, c.cut_number.ensures, one-cut a.form a.op a.host.now a.realm.now a.messages.now a.wags.now a.table.now a.answers.now a.notices.now a.results.now l.table l.answers l.notices l.results l.taken l.at l.used l.cuts l.from l.next l.invariant some (not (eqb (get_or a.wags.now l.taken 0) 0)) refl one.result one.new.table one.new.answer one.new.notice one.new.results one.ensures.0 one.auto.answer one.auto.notice)

pub overflow_mul-from : goal.overflow_mul-from
overflow_mul-from c =
    let a = c.args in
    let l = c.loop-next in
    let some = c.loop-next-test.true in
    let one = c.take_one-o in
    let room = c.notice_length-room in
    omega (arith, c.well_formed.1.1.1.1.1.1.1.1.0, from-fits a.form a.op a.host.now a.realm.now a.messages.now a.wags.now a.table.now a.answers.now a.notices.now a.results.now l.table l.answers l.notices l.results l.taken l.at l.used l.cuts l.from l.next l.invariant some (not (eqb (get_or a.wags.now l.taken 0) 0)) refl one.result one.new.table one.new.answer one.new.notice one.new.results one.ensures.0 one.auto.answer one.auto.notice c.cut_number.result room.result c.cut_number.ensures room.ensures)

pub overflow_add-taken : goal.overflow_add-taken
overflow_add-taken c =
    let l = c.loop-next in
    let some = c.loop-next-test.true in
    omega (arith, c.well_formed.1.1.1.1.1.0, l.invariant.few-taken, l.invariant.at-within, some)

pub overflow_sub-most : goal.overflow_sub-most
overflow_sub-most c =
    let a = c.args in
    let l = c.loop-next in
    let some = c.loop-next-test.true in
    let one = c.take_one-o in
    omega (arith, used-fits a.form a.op a.host.now a.realm.now a.messages.now a.wags.now a.table.now a.answers.now a.notices.now a.results.now l.table l.answers l.notices l.results l.taken l.at l.used l.cuts l.from l.next l.invariant some (not (eqb (get_or a.wags.now l.taken 0) 0)) refl one.result one.new.table one.new.answer one.new.notice one.new.results one.ensures.0 one.auto.answer one.auto.notice)

pub overflow_sub-last : goal.overflow_sub-last
overflow_sub-last c =
    let a = c.args in
    let l = c.loop-next in
    let some = c.loop-next-test.true in
    let one = c.take_one-o in
    let room = c.notice_length-room in
    omega (arith, from-fits a.form a.op a.host.now a.realm.now a.messages.now a.wags.now a.table.now a.answers.now a.notices.now a.results.now l.table l.answers l.notices l.results l.taken l.at l.used l.cuts l.from l.next l.invariant some (not (eqb (get_or a.wags.now l.taken 0) 0)) refl one.result one.new.table one.new.answer one.new.notice one.new.results one.ensures.0 one.auto.answer one.auto.notice c.cut_number.result room.result c.cut_number.ensures room.ensures)

pub next_taken-next-requires-in-loop-next : goal.next_taken-next-requires-in-loop-next
next_taken-next-requires-in-loop-next c =
    let l = c.loop-next in
    omega (arith, l.invariant.at-within)

pub loop-next-smaller : goal.loop-next-smaller
loop-next-smaller c =
    let l = c.loop-next in
    let some = c.loop-next-test.true in
    omega (arith, l.invariant.at-within, some)

pub shape_of-table : goal.shape_of-table
shape_of-table c = c.loop-next.invariant.same-table

pub shape_of-answers : goal.shape_of-answers
shape_of-answers c = c.loop-next.invariant.same-answers

pub shape_of-notices : goal.shape_of-notices
shape_of-notices c = c.loop-next.invariant.same-notices

pub shape_of-results : goal.shape_of-results
shape_of-results c = c.loop-next.invariant.same-results

pub returns : goal.returns
returns c =
    let a = c.args in
    let l = c.loop-next in
    going-last a.form a.op a.host.now a.realm.now a.messages.now a.wags.now a.table.now a.answers.now a.notices.now a.results.now l.table l.answers l.notices l.results l.taken l.at l.used l.cuts l.from l.next l.invariant c.loop-next-test.false ∙ sym (burst-goes (lent a.form a.table.now) (burst_of a.op a.host.now a.realm.now a.messages.now a.wags.now a.answers.now a.notices.now (map result_in a.results.now)) c.requires)
