-- Each test that tells something tells it before the next is asked: the laws of Whole.
use mathlib.Core.Path.{refl, sym, ap, ◌∙◌}
use Rattle.octets.specs.Texts.{zeros}
use Rattle.octets.proofs.Lists.{same-eq}
use Rattle.std.proofs.lemmas.Result.{err_from_is_err_and}
use borrow.Author.Tests.{eqb-true, eqb-false}
use Rattle.likeness.specs.Code.{mismatch_number, said}
use Rattle.likeness.proofs.Differences.{err-tells, ok-tells-nothing, first-difference, neither-tells}
use Rattle.likeness.specs.TheSameAnswer.{avps_of}
use Rattle.likeness.proofs.Whole.{told-deep, told-header, told-walk, told-itself, told-place, told-nothing, told-missing}
use Rattle.likeness.proofs.answer_found.Goals as goal

pub returns-then-is_too_deep : goal.returns-then-is_too_deep
unfolding said avps_of
returns-then-is_too_deep c =
    let given = c.args in
    let faults-was = c.faults-walked in
    let deep = c.if-is_too_deep in
    sym (told-deep given.ours.now given.theirs.now (said faults-was.result) faults-was.ensures (eqb-true (said faults-was.result).number 31 (sym c.is_too_deep.ensures ∙ deep.true)))

pub returns-in_err-and : goal.returns-in_err-and
unfolding avps_of
returns-in_err-and c =
    let given = c.args in
    let faults-was = c.faults-walked in
    let deep = c.if-is_too_deep in
    let header-found-was = c.header_found in
    let d = c.in_err-and.field-0.0 in
    let p = err_from_is_err_and c.from_residual.result c.from_residual.ensures.1 in
    let not-deep = (eqb-false (said faults-was.result).number 31 (sym c.is_too_deep.ensures ∙ deep.false)) in
    rw (p.1, p.2)
    (first-difference header-found-was.result faults-was.result d (sym c.and.ensures ∙ c.in_err-and.was)
    (λ w.
    sym (told-header given.ours.now given.theirs.now (said faults-was.result) faults-was.ensures not-deep (said header-found-was.result) header-found-was.ensures
    (err-tells header-found-was.result d w) ∙ ap said w))
    (λ u v w.
    sym (told-walk given.ours.now given.theirs.now (said faults-was.result) faults-was.ensures not-deep (said header-found-was.result) header-found-was.ensures
    (ok-tells-nothing header-found-was.result u v) (err-tells faults-was.result d w) ∙ ap said w)))

pub returns-then-same_bytes : goal.returns-then-same_bytes
unfolding said avps_of
returns-then-same_bytes c =
    let given = c.args in
    let faults-was = c.faults-walked in
    let deep = c.if-is_too_deep in
    let header-found-was = c.header_found in
    let same-bytes-was = c.same_bytes in
    let test4 = c.if-same_bytes in
    sym (told-itself given.ours.now given.theirs.now (said faults-was.result) faults-was.ensures (eqb-false (said faults-was.result).number 31 (sym c.is_too_deep.ensures ∙ deep.false)) (said header-found-was.result) header-found-was.ensures (neither-tells header-found-was.result faults-was.result c.in_ok-and.field-0 (sym c.and.ensures ∙ c.in_ok-and.was)).0 (neither-tells header-found-was.result faults-was.result c.in_ok-and.field-0 (sym c.and.ensures ∙ c.in_ok-and.was)).1 (same-eq given.ours.now given.theirs.now (sym same-bytes-was.ensures ∙ test4.true)))

pub mark_first-requires : goal.mark_first-requires
unfolding zeros
mark_first-requires c = refl

pub misplaced-at-requires : goal.misplaced-at-requires
misplaced-at-requires c =
    let mark-first-was = c.mark_first in
    let given = c.args in
    mark-first-was.ensures given.theirs.now

pub returns-then-at-ne0 : goal.returns-then-at-ne0
unfolding said mismatch_number avps_of
returns-then-at-ne0 c =
    let given = c.args in
    let faults-was = c.faults-walked in
    let deep = c.if-is_too_deep in
    let header-found-was = c.header_found in
    let misplaced-was = c.misplaced-at in
    let test5 = c.if-at-ne0 in
    sym (told-place given.ours.now given.theirs.now (said faults-was.result) faults-was.ensures (eqb-false (said faults-was.result).number 31 (sym c.is_too_deep.ensures ∙ deep.false)) (said header-found-was.result) header-found-was.ensures (neither-tells header-found-was.result faults-was.result c.in_ok-and.field-0 (sym c.and.ensures ∙ c.in_ok-and.was)).0 (neither-tells header-found-was.result faults-was.result c.in_ok-and.field-0 (sym c.and.ensures ∙ c.in_ok-and.was)).1 misplaced-was.result misplaced-was.ensures.0 test5.true)

pub complete-requires : goal.complete-requires
complete-requires c =
    let misplaced-was = c.misplaced-at in
    let test5 = c.if-at-ne0 in
    misplaced-was.ensures.1 test5.false

pub returns-then-complete : goal.returns-then-complete
unfolding said avps_of
returns-then-complete c =
    let given = c.args in
    let faults-was = c.faults-walked in
    let deep = c.if-is_too_deep in
    let header-found-was = c.header_found in
    let misplaced-was = c.misplaced-at in
    let test5 = c.if-at-ne0 in
    let complete-was = c.complete in
    let test6 = c.if-complete in
    sym (told-nothing given.ours.now given.theirs.now (said faults-was.result) faults-was.ensures (eqb-false (said faults-was.result).number 31 (sym c.is_too_deep.ensures ∙ deep.false)) (said header-found-was.result) header-found-was.ensures (neither-tells header-found-was.result faults-was.result c.in_ok-and.field-0 (sym c.and.ensures ∙ c.in_ok-and.was)).0 (neither-tells header-found-was.result faults-was.result c.in_ok-and.field-0 (sym c.and.ensures ∙ c.in_ok-and.was)).1 (sym misplaced-was.ensures.0 ∙ test5.false) (sym complete-was.ensures ∙ test6.true))

pub returns : goal.returns
unfolding said mismatch_number avps_of
returns c =
    let given = c.args in
    let faults-was = c.faults-walked in
    let deep = c.if-is_too_deep in
    let header-found-was = c.header_found in
    let misplaced-was = c.misplaced-at in
    let test5 = c.if-at-ne0 in
    let complete-was = c.complete in
    let test6 = c.if-complete in
    sym (told-missing given.ours.now given.theirs.now (said faults-was.result) faults-was.ensures (eqb-false (said faults-was.result).number 31 (sym c.is_too_deep.ensures ∙ deep.false)) (said header-found-was.result) header-found-was.ensures (neither-tells header-found-was.result faults-was.result c.in_ok-and.field-0 (sym c.and.ensures ∙ c.in_ok-and.was)).0 (neither-tells header-found-was.result faults-was.result c.in_ok-and.field-0 (sym c.and.ensures ∙ c.in_ok-and.was)).1 (sym misplaced-was.ensures.0 ∙ test5.false) (sym complete-was.ensures ∙ test6.false))
