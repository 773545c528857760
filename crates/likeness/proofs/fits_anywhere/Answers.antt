-- Whether ours has its name decides which test counts; of its name as many stand before it as all have more than the rest.
use mathlib.Core.Path.{◌≡◌, sym, ap, ◌∙◌}
use Prim.Native.Nat.{ℕ, ◌-◌}
use lib.ListN.{drop}
use Rattle.likeness.specs.Code.{avp_at, avps_from, named_from}
use Rattle.likeness.specs.TheSameAnswer.{first_is}
use Rattle.likeness.proofs.Fitting.{fits-met}
use Rattle.likeness.proofs.Marks.{fits-none}
use Rattle.message.specs.ReadingAMessage.{having}
use Rattle.likeness.proofs.fits_anywhere.Goals as goal

pub passes-requires : goal.passes-requires
passes-requires c =
    let pre-was = c.requires in
    pre-was.0

pub returns-then-named_from-eq0 : goal.returns-then-named_from-eq0
returns-then-named_from-eq0 c =
    let passes-was = c.passes in
    let given = c.args in
    let named-from-was = c.named_from in
    let test1 = c.if-named_from-eq0 in
    passes-was.ensures ∙ sym (fits-none given.ours.now given.theirs.now given.at (sym named-from-was.ensures ∙ test1.true))

pub returns : goal.returns
returns c =
    let given = c.args in
    let minus-was = c.minus in
    let named-from2-was = c.named_from-all in
    let named-from3-was = c.named_from-rest in
    let met-by-was = c.met_by in
    let pre-was = c.requires in
    let test1 = c.if-named_from-eq0 in
    let named-from-was = c.named_from in
    let n = (avp_at given.theirs.now given.at).name in
    let k : minus-was.result ≡ named_from n given.theirs.now 20 - named_from n given.theirs.now given.at = minus-was.ensures ∙ rw (named-from2-was.ensures, named-from3-was.ensures) in
    met-by-was.ensures
    ∙ ap (λ (i : ℕ). first_is (drop i (having n (avps_from given.ours.now 20))) (avp_at given.theirs.now given.at)) k
    ∙ sym (fits-met (avps_from given.ours.now 20) (avps_from given.theirs.now 20) (avps_from given.theirs.now given.at) (avp_at given.theirs.now given.at) pre-was.1 (λ z. test1.false (named-from-was.ensures ∙ z)))
