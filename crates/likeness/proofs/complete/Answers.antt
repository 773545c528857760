use mathlib.Core.Path.{sym, ◌∙◌}
use native.Mathlib.Omega.{arith}
use lib.ListN.{length}
use Rattle.likeness.proofs.Places.{stands, inside, passes-here}
use Rattle.likeness.proofs.Marks.{met-first, met-on, all-met}
use Rattle.likeness.proofs.complete.Goals as goal

pub loop-next-init : goal.loop-next-init
loop-next-init c =
    let next-at-was = c.next_at-next in
    let given = c.args in
    let pre-was = c.requires in
    (next-at-was.ensures, omega arith, met-first given.ours.now given.theirs.now (length given.theirs.now) given.marks.now pre-was)

pub mark_of-requires : goal.mark_of-requires
mark_of-requires c =
    let given = c.args in
    let loop-was = c.loop-next in
    let loop-test-was = c.loop-next-test in
    stands given.ours.now loop-was.at (passes-here given.ours.now loop-was.at (λ z. loop-test-was.true (loop-was.invariant.0 ∙ z)))

pub offset_bounds-marks-mark_of : goal.offset_bounds-marks-mark_of
offset_bounds-marks-mark_of c =
    let mark-of-was = c.mark_of in
    let pre-was = c.requires in
    omega (arith, mark-of-was.ensures.1, pre-was.size)

pub bounds-marks-mark_of : goal.bounds-marks-mark_of
bounds-marks-mark_of c =
    let mark-of-was = c.mark_of in
    let pre-was = c.requires in
    omega (arith, mark-of-was.ensures.1, pre-was.size)

pub returns-then-marks-mark_of : goal.returns-then-marks-mark_of
returns-then-marks-mark_of c =
    let none-fewer-was = c.none_fewer in
    none-fewer-was.ensures

pub loop-next-smaller : goal.loop-next-smaller
loop-next-smaller c =
    let given = c.args in
    let loop-was = c.loop-next in
    let loop-test-was = c.loop-next-test in
    let i = inside given.ours.now loop-was.at loop-was.next (sym loop-was.invariant.0) loop-test-was.true in
    omega (arith, i.0, i.1)

pub loop-next-preserved : goal.loop-next-preserved
loop-next-preserved c =
    let given = c.args in
    let loop-was = c.loop-next in
    let loop-test-was = c.loop-next-test in
    let next-at2-was = c.next_at-next-in-loop-next in
    let mark-of-was = c.mark_of in
    let test1 = c.if-marks-mark_of in
    let i = inside given.ours.now loop-was.at loop-was.next (sym loop-was.invariant.0) loop-test-was.true in
    (next-at2-was.ensures, omega (arith, i.0, loop-was.invariant.1), met-on given.ours.now loop-was.at given.marks.now loop-was.invariant.2 loop-was.next (sym loop-was.invariant.0) loop-test-was.true (omega (arith, loop-was.invariant.1)) (rw (← mark-of-was.ensures.0) test1.false))

pub returns : goal.returns
returns c =
    let given = c.args in
    let loop-was = c.loop-next in
    let loop-test-was = c.loop-next-test in
    let pre-was = c.requires in
    sym (all-met given.ours.now loop-was.at given.marks.now loop-was.invariant.2 (sym loop-was.invariant.0 ∙ loop-test-was.false) given.theirs.now pre-was)
