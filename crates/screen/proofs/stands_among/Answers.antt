-- Entry e has the Session-Id, or it is one more of those that have not.
use Rattle.std.proofs.Common.{◌≡◌, length, take, true, sym, subst, ap, ◌∙◌, ℕ, arith, List}
use mathlib.Core.Bool.{not}
use lib.Seq.{take-length}
use Rattle.octets.specs.Lists.{every}
use Rattle.screen.specs.TheBoard.{is_of}
use Rattle.screen.specs.Code.{none}
use Rattle.screen.specs.declared.Screen.{Screen}
use Rattle.screen.proofs.Entries.{every-begun, every-step, size-at}
use Rattle.screen.proofs.Feeding.{on-board, none-on}
use Rattle.screen.proofs.stands_among.Goals as goal

pub loop-e-init : goal.loop-e-init
loop-e-init c = every-begun _ none c.args.screens.now

pub is_of-requires : goal.is_of-requires
is_of-requires c = size-at c.args.screens.now c.loop-e.e-index c.loop-e-test.true c.requires

pub returns-then-is_of : goal.returns-then-is_of
returns-then-is_of c =
    sym (on-board c.args.session.now c.args.screens.now c.loop-e.e-index none c.loop-e-test.true (sym c.is_of.ensures ∙ c.if-is_of.true))

pub loop-e-preserved : goal.loop-e-preserved
loop-e-preserved c =
    every-step (λ s. not (is_of c.args.session.now s)) none c.args.screens.now c.loop-e.e-index c.loop-e-test.true c.loop-e.invariant (ap not (sym c.is_of.ensures ∙ c.if-is_of.false))

pub returns : goal.returns
returns c =
    let ys = c.args.screens.now in
    let session = c.args.session.now in
    let last : c.loop-e.e-index ≡ length ys = omega arith in
    sym (none-on session ys (subst (λ (l : List Screen). every (λ s. not (is_of session s)) l ≡ true) (take-length ys)
    (subst (λ (k : ℕ). every (λ s. not (is_of session s)) (take k ys) ≡ true) last c.loop-e.invariant)))
