use mathlib.Core.Path.{sym, ap, ◌∙◌}
use Prim.Native.Nat.{ℕ}
use native.Mathlib.Omega.{arith}
use lib.ListN.{length, get_or}
use Rattle.octets.proofs.Texts.{length-zeros}
use Rattle.likeness.specs.Code.{mark_count}
use Rattle.likeness.proofs.Places.{stands, inside, passes-here}
use Rattle.likeness.proofs.Marks.{first-none, first_on, first-all}
use Rattle.likeness.proofs.mark_first.Goals as goal

pub loop-next-init : goal.loop-next-init
loop-next-init c =
    let next-at-was = c.next_at-next in
    let given = c.args in
    let pre-was = c.requires in
    (next-at-was.ensures, omega arith, first-none given.ours.now given.marks.now pre-was)

pub mark_of-k-requires : goal.mark_of-k-requires
mark_of-k-requires c =
    let given = c.args in
    let loop-was = c.loop-next in
    let loop-test-was = c.loop-next-test in
    stands given.ours.now loop-was.at (passes-here given.ours.now loop-was.at (λ z. loop-test-was.true (loop-was.invariant.0 ∙ z)))

pub offset_bounds-marks-k : goal.offset_bounds-marks-k
offset_bounds-marks-k c =
    let mark-of-was = c.mark_of-k in
    let loop-was = c.loop-next in
    omega (arith, mark-of-was.ensures.1, loop-was.invariant.2.size)

pub bounds-marks-k : goal.bounds-marks-k
bounds-marks-k c =
    let mark-of-was = c.mark_of-k in
    let loop-was = c.loop-next in
    omega (arith, mark-of-was.ensures.1, loop-was.invariant.2.size)

pub offset_bounds-marks-k-in-loop-next : goal.offset_bounds-marks-k-in-loop-next
offset_bounds-marks-k-in-loop-next c =
    let mark-of-was = c.mark_of-k in
    let loop-was = c.loop-next in
    omega (arith, mark-of-was.ensures.1, loop-was.invariant.2.size)

pub bounds-marks-k-in-loop-next : goal.bounds-marks-k-in-loop-next
bounds-marks-k-in-loop-next c =
    let mark-of-was = c.mark_of-k in
    let loop-was = c.loop-next in
    omega (arith, mark-of-was.ensures.1, loop-was.invariant.2.size)

pub loop-next-smaller : goal.loop-next-smaller
loop-next-smaller c =
    let given = c.args in
    let loop-was = c.loop-next in
    let loop-test-was = c.loop-next-test in
    let i = inside given.ours.now loop-was.at loop-was.next (sym loop-was.invariant.0) loop-test-was.true in
    omega (arith, i.0, i.1)

pub loop-next-preserved : goal.loop-next-preserved
loop-next-preserved c =
    let given = c.args in
    let loop-was = c.loop-next in
    let loop-test-was = c.loop-next-test in
    let next-at2-was = c.next_at-next-in-loop-next in
    let mark-of-was = c.mark_of-k in
    let first-of-was = c.first_of in
    let i = inside given.ours.now loop-was.at loop-was.next (sym loop-was.invariant.0) loop-test-was.true in
    (next-at2-was.ensures, omega (arith, i.0, loop-was.invariant.1), rw mark-of-was.ensures.0 (first_on given.ours.now loop-was.at loop-was.marks loop-was.invariant.2 loop-was.next (sym loop-was.invariant.0) loop-test-was.true (get_or loop-was.marks mark-of-was.result 0) first-of-was.result (ap (λ (k : ℕ). get_or loop-was.marks k 0) mark-of-was.ensures.0) first-of-was.ensures (omega (arith, loop-was.invariant.1))))

pub shape_of-marks : goal.shape_of-marks
shape_of-marks c =
    let loop-was = c.loop-next in
    let pre-was = c.requires in
    omega (arith, loop-was.invariant.2.size, ap length pre-was, length-zeros mark_count)

pub returns : goal.returns
returns c =
    let given = c.args in
    let loop-was = c.loop-next in
    let loop-test-was = c.loop-next-test in
    first-all given.ours.now loop-was.at loop-was.marks loop-was.invariant.2 (sym loop-was.invariant.0 ∙ loop-test-was.false)
