use mathlib.Core.Path.{refl, sym, ◌∙◌}
use native.Mathlib.Omega.{arith}
use Rattle.likeness.specs.Code.{avp_at, avps_from}
use Rattle.likeness.proofs.Places.{stands, inside, passes-here}
use Rattle.likeness.proofs.Fitting.{other-start, same_start, place-off, place-on, places-end}
use Rattle.likeness.proofs.Marks.{behind-same, marked-on, fewer-on, marked-end}
use Rattle.likeness.proofs.misplaced.Goals as goal

pub returns-then-not-starts_like : goal.returns-then-not-starts_like
returns-then-not-starts_like c =
    let given = c.args in
    let starts-like-was = c.starts_like in
    let test1 = c.if-not-starts_like in
    (sym (other-start (avps_from given.ours.now 20) (avps_from given.theirs.now 20) (sym starts-like-was.ensures ∙ test1.true)), λ z. absurd (omega (arith, z)))

pub loop-next-init : goal.loop-next-init
loop-next-init c =
    let next-at-was = c.next_at-next in
    let given = c.args in
    let starts-like-was = c.starts_like in
    let test1 = c.if-not-starts_like in
    let pre-was = c.requires in
    (next-at-was.ensures, same_start (avps_from given.ours.now 20) (avps_from given.theirs.now 20) (sym starts-like-was.ensures ∙ test1.false), pre-was, (λ n. omega arith), omega arith)

pub mark_of-k-requires : goal.mark_of-k-requires
mark_of-k-requires c =
    let given = c.args in
    let loop-was = c.loop-next in
    let loop-test-was = c.loop-next-test in
    stands given.theirs.now loop-was.at (passes-here given.theirs.now loop-was.at (λ z. loop-test-was.true (loop-was.invariant.0 ∙ z)))

pub offset_bounds-marks-k : goal.offset_bounds-marks-k
offset_bounds-marks-k c =
    let mark-of-was = c.mark_of-k in
    let loop-was = c.loop-next in
    omega (arith, mark-of-was.ensures.1, loop-was.invariant.2.size)

pub bounds-marks-k : goal.bounds-marks-k
bounds-marks-k c =
    let mark-of-was = c.mark_of-k in
    let loop-was = c.loop-next in
    omega (arith, mark-of-was.ensures.1, loop-was.invariant.2.size)

pub behind_same-met-requires : goal.behind_same-met-requires
behind_same-met-requires c =
    let mark-of-was = c.mark_of-k in
    let loop-was = c.loop-next in
    let given = c.args in
    let loop-test-was = c.loop-next-test in
    (rw mark-of-was.ensures.0 (loop-was.invariant.2.kept (avp_at given.theirs.now loop-was.at).name).inside, loop-was.invariant.0, loop-test-was.true)

pub place_fits-requires : goal.place_fits-requires
place_fits-requires c =
    let given = c.args in
    let loop-was = c.loop-next in
    let loop-test-was = c.loop-next-test in
    let mark-of-was = c.mark_of-k in
    let behind-same-was = c.behind_same-met in
    (stands given.theirs.now loop-was.at (passes-here given.theirs.now loop-was.at (λ z. loop-test-was.true (loop-was.invariant.0 ∙ z))), rw mark-of-was.ensures.0 (loop-was.invariant.2.kept (avp_at given.theirs.now loop-was.at).name), behind-same-was.ensures)

pub shape_of-marks-then-not-place_fits : goal.shape_of-marks-then-not-place_fits
shape_of-marks-then-not-place_fits c =
    let loop-was = c.loop-next in
    let pre-was = c.requires in
    omega (arith, loop-was.invariant.2.size, pre-was.size)

pub returns-then-not-place_fits : goal.returns-then-not-place_fits
returns-then-not-place_fits c =
    let given = c.args in
    let loop-was = c.loop-next in
    let loop-test-was = c.loop-next-test in
    let place-fits-was = c.place_fits in
    let test2 = c.if-not-place_fits in
    (sym (place-off (avps_from given.ours.now 20) (avps_from given.theirs.now 20) given.theirs.now loop-was.at loop-was.next (sym loop-was.invariant.0) loop-test-was.true (sym place-fits-was.ensures ∙ test2.true)) ∙ loop-was.invariant.1, λ z. absurd (omega (arith, loop-was.invariant.4, z)))

pub mark_behind-requires : goal.mark_behind-requires
mark_behind-requires c =
    let given = c.args in
    let loop-was = c.loop-next in
    let loop-test-was = c.loop-next-test in
    let behind-same-was = c.behind_same-met in
    (stands given.theirs.now loop-was.at (passes-here given.theirs.now loop-was.at (λ z. loop-test-was.true (loop-was.invariant.0 ∙ z))), λ f. let b = behind-same-was.ensures f in behind-same given.ours.now given.theirs.now loop-was.at _ behind-same-was.result b.0 b.1 b.2)

pub offset_bounds-marks-k-in-loop-next : goal.offset_bounds-marks-k-in-loop-next
offset_bounds-marks-k-in-loop-next c =
    let mark-of-was = c.mark_of-k in
    let loop-was = c.loop-next in
    omega (arith, mark-of-was.ensures.1, loop-was.invariant.2.size)

pub bounds-marks-k-in-loop-next : goal.bounds-marks-k-in-loop-next
bounds-marks-k-in-loop-next c =
    let mark-of-was = c.mark_of-k in
    let loop-was = c.loop-next in
    omega (arith, mark-of-was.ensures.1, loop-was.invariant.2.size)

pub loop-next-smaller : goal.loop-next-smaller
loop-next-smaller c =
    let given = c.args in
    let loop-was = c.loop-next in
    let loop-test-was = c.loop-next-test in
    let i = inside given.theirs.now loop-was.at loop-was.next (sym loop-was.invariant.0) loop-test-was.true in
    omega (arith, i.0, i.1)

pub loop-next-preserved : goal.loop-next-preserved
loop-next-preserved c =
    let next-at2-was = c.next_at-next-in-loop-next in
    let given = c.args in
    let loop-was = c.loop-next in
    let loop-test-was = c.loop-next-test in
    let place-fits-was = c.place_fits in
    let test2 = c.if-not-place_fits in
    let mark-of-was = c.mark_of-k in
    let mark-behind-was = c.mark_behind in
    (next-at2-was.ensures, place-on (avps_from given.ours.now 20) (avps_from given.theirs.now 20) given.theirs.now loop-was.at loop-was.next (sym loop-was.invariant.0) loop-test-was.true (sym place-fits-was.ensures ∙ test2.false) ∙ loop-was.invariant.1, rw mark-of-was.ensures.0 (marked-on given.ours.now given.theirs.now loop-was.at loop-was.marks loop-was.invariant.2 loop-was.next (sym loop-was.invariant.0) loop-test-was.true _ (rw (← mark-of-was.ensures.0) refl) loop-was.invariant.3 mark-behind-was.result mark-behind-was.ensures), (λ n. fewer-on given.ours.now given.theirs.now loop-was.at loop-was.next (sym loop-was.invariant.0) loop-test-was.true n (loop-was.invariant.3 n)), omega (arith, (inside given.theirs.now loop-was.at loop-was.next (sym loop-was.invariant.0) loop-test-was.true).0, loop-was.invariant.4))

pub shape_of-marks : goal.shape_of-marks
shape_of-marks c =
    let loop-was = c.loop-next in
    let pre-was = c.requires in
    omega (arith, loop-was.invariant.2.size, pre-was.size)

pub returns : goal.returns
returns c =
    let given = c.args in
    let loop-was = c.loop-next in
    let loop-test-was = c.loop-next-test in
    (sym (places-end (avps_from given.ours.now 20) (avps_from given.theirs.now 20) given.theirs.now loop-was.at (sym loop-was.invariant.0 ∙ loop-test-was.false)) ∙ loop-was.invariant.1, λ z. marked-end given.ours.now given.theirs.now loop-was.at loop-was.marks (sym loop-was.invariant.0 ∙ loop-test-was.false) loop-was.invariant.2)
