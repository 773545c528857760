-- The same bytes, a name that ours lacks, a Failed-AVP, the name at the mark: each is a law; else all of both is looked at.
use mathlib.Core.Path.{sym, ap, ◌∙◌}
use lib.ListN.{length}
use Rattle.likeness.specs.Code.{avp_at, avps_from}
use Rattle.likeness.proofs.Places.{stands, passes-here}
use Rattle.likeness.proofs.Fitting.{fits-failed}
use Rattle.likeness.proofs.Marks.{fits-none, fits_next, fits-bytes}
use Rattle.likeness.proofs.place_fits.Goals as goal

pub returns-then-met-ne0 : goal.returns-then-met-ne0
returns-then-met-ne0 c =
    let pre-was = c.requires in
    let test1 = c.if-met-ne0 in
    let given = c.args in
    let m = pre-was.2 test1.true in
    sym (fits-bytes given.ours.now given.theirs.now given.at given.mark given.met pre-was.1 m.0 m.1 test1.true m.2)

pub passes-requires : goal.passes-requires
passes-requires c =
    let pre-was = c.requires in
    pre-was.0

pub returns-then-mark-eq0 : goal.returns-then-mark-eq0
returns-then-mark-eq0 c =
    let passes-was = c.passes in
    let given = c.args in
    let pre-was = c.requires in
    let test2 = c.if-mark-eq0 in
    passes-was.ensures ∙ sym (fits-none given.ours.now given.theirs.now given.at (ap length (pre-was.1.none test2.true)))

pub is_base-requires : goal.is_base-requires
is_base-requires c =
    let pre-was = c.requires in
    pre-was.0

pub returns-then-is_base : goal.returns-then-is_base
returns-then-is_base c =
    let given = c.args in
    let is-base-was = c.is_base in
    let test3 = c.if-is_base in
    sym (fits-failed (avps_from given.ours.now 20) (avps_from given.theirs.now 20) (avps_from given.theirs.now given.at) (avp_at given.theirs.now given.at) (sym is-base-was.ensures ∙ test3.true))

pub behind_mark-requires : goal.behind_mark-requires
behind_mark-requires c =
    let pre-was = c.requires in
    pre-was.0

pub same_avp-requires : goal.same_avp-requires
same_avp-requires c =
    let behind-mark-was = c.behind_mark in
    let test4 = c.if-behind_mark-ne0 in
    let given = c.args in
    let pre-was = c.requires in
    let b = behind-mark-was.ensures test4.true in
    (stands given.ours.now given.mark (passes-here given.ours.now given.mark (λ z. test4.true (sym b.next ∙ z))), pre-was.0)

pub returns-then-behind_mark-ne0 : goal.returns-then-behind_mark-ne0
returns-then-behind_mark-ne0 c =
    let same-avp-was = c.same_avp in
    let given = c.args in
    let pre-was = c.requires in
    let is-base-was = c.is_base in
    let test3 = c.if-is_base in
    let behind-mark-was = c.behind_mark in
    let test4 = c.if-behind_mark-ne0 in
    same-avp-was.ensures ∙ sym (fits_next given.ours.now given.theirs.now given.at given.mark pre-was.1 (sym is-base-was.ensures ∙ test3.false) behind-mark-was.result (behind-mark-was.ensures test4.true) test4.true)

pub fits_anywhere-requires : goal.fits_anywhere-requires
fits_anywhere-requires c =
    let pre-was = c.requires in
    let is-base-was = c.is_base in
    let test3 = c.if-is_base in
    (pre-was.0, sym is-base-was.ensures ∙ test3.false)

pub returns : goal.returns
returns c =
    let fits-anywhere-was = c.fits_anywhere in
    fits-anywhere-was.ensures
