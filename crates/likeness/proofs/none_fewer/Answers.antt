use mathlib.Core.Path.{◌≡◌, refl, sym, ◌∙◌}
use mathlib.Core.Bool.{true, false}
use native.Mathlib.Omega.{arith}
use lib.Dec.{leb}
use lib.ListN.{length}
use borrow.Author.Tests.{le-leb, lt-leb}
use Rattle.likeness.specs.Code.{avp_at, avps_from, named_from}
use Rattle.likeness.specs.TheSameAnswer.{complete}
use Rattle.likeness.proofs.Places.{stands, inside, passes-here}
use Rattle.likeness.proofs.Fitting.{all-stop, all-step, all_end}
use Rattle.message.specs.ReadingAMessage.{having, Avp}
use Rattle.likeness.proofs.none_fewer.Goals as goal

pub loop-next-init : goal.loop-next-init
unfolding complete
loop-next-init c =
    let next-at-was = c.next_at-next in
    (next-at-was.ensures, refl)

pub named_from-n-requires : goal.named_from-n-requires
named_from-n-requires c =
    let given = c.args in
    let loop-was = c.loop-next in
    let loop-test-was = c.loop-next-test in
    stands given.ours.now loop-was.at (passes-here given.ours.now loop-was.at (λ z. loop-test-was.true (loop-was.invariant.0 ∙ z)))

pub named_from-requires : goal.named_from-requires
named_from-requires c =
    let given = c.args in
    let loop-was = c.loop-next in
    let loop-test-was = c.loop-next-test in
    stands given.ours.now loop-was.at (passes-here given.ours.now loop-was.at (λ z. loop-test-was.true (loop-was.invariant.0 ∙ z)))

pub returns-then-named_from-n : goal.returns-then-named_from-n
returns-then-named_from-n c =
    let given = c.args in
    let loop-was = c.loop-next in
    let named-from-was = c.named_from-n in
    let named-from2-was = c.named_from in
    let test1 = c.if-named_from-n in
    let loop-test-was = c.loop-next-test in
    let f : leb (named_from (avp_at given.ours.now loop-was.at).name given.ours.now 20) (named_from (avp_at given.ours.now loop-was.at).name given.theirs.now 20) ≡ false = lt-leb (named_from (avp_at given.ours.now loop-was.at).name given.ours.now 20) (named_from (avp_at given.ours.now loop-was.at).name given.theirs.now 20) (omega (arith, named-from-was.ensures, named-from2-was.ensures, test1.true)) in
    sym (all-stop (λ (a : Avp). leb (length (having a.name (avps_from given.ours.now 20))) (length (having a.name (avps_from given.theirs.now 20)))) given.ours.now loop-was.at loop-was.next (sym loop-was.invariant.0) loop-test-was.true f) ∙ loop-was.invariant.1

pub loop-next-smaller : goal.loop-next-smaller
loop-next-smaller c =
    let given = c.args in
    let loop-was = c.loop-next in
    let loop-test-was = c.loop-next-test in
    let i = inside given.ours.now loop-was.at loop-was.next (sym loop-was.invariant.0) loop-test-was.true in
    omega (arith, i.0, i.1)

pub loop-next-preserved : goal.loop-next-preserved
loop-next-preserved c =
    let given = c.args in
    let loop-was = c.loop-next in
    let named-from-was = c.named_from-n in
    let named-from2-was = c.named_from in
    let test1 = c.if-named_from-n in
    let next-at2-was = c.next_at-next-in-loop-next in
    let loop-test-was = c.loop-next-test in
    let f : leb (named_from (avp_at given.ours.now loop-was.at).name given.ours.now 20) (named_from (avp_at given.ours.now loop-was.at).name given.theirs.now 20) ≡ true = le-leb (named_from (avp_at given.ours.now loop-was.at).name given.ours.now 20) (named_from (avp_at given.ours.now loop-was.at).name given.theirs.now 20) (omega (arith, named-from-was.ensures, named-from2-was.ensures, test1.false)) in
    (next-at2-was.ensures, all-step (λ (a : Avp). leb (length (having a.name (avps_from given.ours.now 20))) (length (having a.name (avps_from given.theirs.now 20)))) given.ours.now loop-was.at loop-was.next (sym loop-was.invariant.0) loop-test-was.true f ∙ loop-was.invariant.1)

pub returns : goal.returns
returns c =
    let given = c.args in
    let loop-was = c.loop-next in
    let loop-test-was = c.loop-next-test in
    sym (all_end (λ (a : Avp). leb (length (having a.name (avps_from given.ours.now 20))) (length (having a.name (avps_from given.theirs.now 20)))) given.ours.now loop-was.at (sym loop-was.invariant.0 ∙ loop-test-was.false)) ∙ loop-was.invariant.1
