-- One law for each way out.
use Rattle.std.proofs.Common.{◌≡◌, Option, Some, None, Err, refl, sym, subst, arith, IfSome}
use Rattle.screen.specs.Code.{counts, Found, Finds}
use Rattle.screen.specs.declared.Refusal.TheVariants.{WrongList}
use Rattle.screen.specs.declared.Seen.{Seen}
use Rattle.screen.proofs.Surveying.{over_64, refusal}
use Rattle.screen.proofs.Leaving.{finds-wrong, finds-at}
use Rattle.screen.proofs.find.Goals as goal

pub returns-then-screens-gt64 : goal.returns-then-screens-gt64
unfolding counts
returns-then-screens-gt64 c =
    let ys = c.args.screens.now in
    let session = c.args.session.now in
    finds-wrong ys session None (refusal ys session (over_64 ys session c.if-screens-gt64.true)) refl

pub returns-in_err-seen : goal.returns-in_err-seen
returns-in_err-seen c =
    let ys = c.args.screens.now in
    let session = c.args.session.now in
    let none_seen : c.survey.result ≡ None = grind arith in
    let is : c.from_residual.result ≡ Err WrongList = grind arith in
    rw is (finds-wrong ys session c.survey.result c.survey.ensures.counted none_seen)

pub returns : goal.returns
returns c =
    let ys = c.args.screens.now in
    let session = c.args.session.now in
    let s = c.in_ok-seen.seen in
    let is : c.survey.result ≡ Some s = grind arith in
    let found : Found ys session s.at = subst (λ (o : Option Seen). IfSome o (λ t. Found ys session t.at)) is c.survey.ensures.found in
    subst (Finds ys session) (sym c.ok_or-2.ensures.value) (finds-at ys session c.survey.result c.survey.ensures.counted s is s.at found)
