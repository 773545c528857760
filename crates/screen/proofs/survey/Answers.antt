-- A turn that ends in a refusal, and one that looks at entry i and goes on.
use Rattle.std.proofs.Common.{◌≡◌, ℕ, ◌+◌, length, get_or, take, false, sym, subst, ap, ◌∙◌, arith}
use native.Mathlib.Nat.{add-zero}
use borrow.Author.Tests.{eq-eqb, ne_eqb}
use lib.Dec.{eqb}
use Rattle.octets.specs.Choice.{pick}
use Rattle.screen.specs.TheBoard.{session_of, on_board}
use Rattle.screen.specs.Code.{none}
use Rattle.screen.proofs.Surveying.{So, FoundBefore, wrong_size, stands-twice, refusal, so-begun, found-it, found-other, so-few, so_step, counted-ended, found-ended}
use Rattle.screen.proofs.survey.Goals as goal
use Rattle.screen.proofs.survey.Goals.{then-not-is_sized-via-then-not-is_sized, then-not-is_sized-via-else-not-is_sized+then-stands_among, then-is_of, else-is_of, then-e-eq2, else-e-eq2}

pub loop-i-init : goal.loop-i-init
loop-i-init c = so-begun c.args.screens.now c.args.session.now

pub returns-then-not-is_sized-clause-counted : goal.returns-then-not-is_sized-clause-counted
returns-then-not-is_sized-clause-counted c =
    let ys = c.args.screens.now in
    let session = c.args.session.now in
    let i = c.loop-i.i in
    elim c.then-not-is_sized.branch [
      | then-not-is_sized-via-then-not-is_sized w ↦ refusal ys session (wrong_size ys session i c.loop-i-test.true (sym c.is_sized.ensures ∙ w.if-not-is_sized.true))
      | then-not-is_sized-via-else-not-is_sized+then-stands_among w ↦ refusal ys session (stands-twice ys session i c.loop-i-test.true (ap (on_board (take i ys)) (sym w.session_of.ensures) ∙ sym w.stands_among.ensures ∙ w.if-stands_among.true))
    ]

pub overflow_add-connected : goal.overflow_add-connected
overflow_add-connected c =
    let few = so-few c.args.screens.now c.args.session.now c.loop-i.i c.loop-i-test.true c.loop-i.at c.loop-i.connected c.loop-i.invariant c.requires in
    omega arith

pub loop-i-preserved : goal.loop-i-preserved
unfolding pick
loop-i-preserved c =
    let ys = c.args.screens.now in
    let session = c.args.session.now in
    let i = c.loop-i.i in
    let e = get_or ys i none in
    let new : on_board (take i ys) (session_of e) ≡ false = ap (on_board (take i ys)) (sym c.session_of.ensures) ∙ sym c.stands_among.ensures ∙ c.if-stands_among.false in
    let found : FoundBefore ys session (i + 1) c.if-is_of.at = elim c.if-is_of.branch [
      | then-is_of w ↦ subst (FoundBefore ys session (i + 1)) (sym w.at-is) (found-it ys session i c.loop-i-test.true (sym c.is_of.ensures ∙ w.if-is_of.true))
      | else-is_of w ↦ subst (FoundBefore ys session (i + 1)) (sym w.at-is) (found-other ys session i c.loop-i-test.true c.loop-i.at (sym c.is_of.ensures ∙ w.if-is_of.false) c.loop-i.invariant.found)
    ] in
    let counted : c.if-e-eq2.connected ≡ c.loop-i.connected + pick (eqb e.state 2) 1 0 = elim c.if-e-eq2.branch [
      | then-e-eq2 w ↦ rw (w.connected-is, eq-eqb e.state 2 w.if-e-eq2.true)
      | else-e-eq2 w ↦ rw (w.connected-is, ne_eqb e.state 2 w.if-e-eq2.false, add-zero)
    ] in
    so_step ys session i c.loop-i-test.true c.loop-i.at c.loop-i.connected c.loop-i.invariant c.if-is_of.at c.if-e-eq2.connected (sym c.is_sized.ensures ∙ c.if-not-is_sized.false) new found counted

pub returns-clause-counted : goal.returns-clause-counted
returns-clause-counted c =
    let ys = c.args.screens.now in
    let session = c.args.session.now in
    let last : c.loop-i.i ≡ length ys = omega arith in
    counted-ended ys session c.loop-i.at c.loop-i.connected (subst (λ (k : ℕ). So ys session k c.loop-i.at c.loop-i.connected) last c.loop-i.invariant) c.requires

pub returns-clause-found : goal.returns-clause-found
returns-clause-found c =
    let ys = c.args.screens.now in
    let session = c.args.session.now in
    let last : c.loop-i.i ≡ length ys = omega arith in
    found-ended ys session c.loop-i.at (subst (λ (k : ℕ). FoundBefore ys session k c.loop-i.at) last c.loop-i.invariant.found)
