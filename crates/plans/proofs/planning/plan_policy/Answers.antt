-- Each way out is the law of the test that failed, or of both having passed.
use Rattle.plans.specs.Plans.{fit_plan}
use mathlib.Core.Bool.{true, false}
use lib.Dec.{eqb}
use borrow.Author.Tests.{eq-eqb, ne_eqb}
use Rattle.table.specs.TheTable.{read_row}
use Rattle.rules.specs.Deciding.{none, with_session, place_of}
use Rattle.plans.specs.Plans.{planned, plan_code}
use Rattle.plans.proofs.Search.{found-is, not-found}
use Rattle.plans.proofs.Found.{none-with}
use Rattle.plans.proofs.Verdicts.{no_access, gateway-no, gateway-yes, fit-place}
use mathlib.Core.Path.{◌≡◌, refl, sym, ap, ◌∙◌}
use Prim.Native.Nat.{ℕ}
use Rattle.plans.proofs.planning.plan_policy.Goals as goal

pub returns-in_default : goal.returns-in_default
unfolding planned plan_code fit_plan
returns-in_default c =
    let a = c.args in
    let s = read_row a.row.now in
    let session = c.args.session.now in
    let none-there : place_of (with_session session s.accesses) ≡ 0 = not-found _ (λ k e. c.in_default.not-Some k (c.place_of.ensures.0 ∙ e)) in
    let there : none (with_session session s.accesses) ≡ true = none-with a.row.now session c.requires ∙ eq-eqb _ 0 none-there in
    (λ o p. sym (no_access session s p a.wag there), λ p w. refl)

pub returns-then-wag : goal.returns-then-wag
unfolding planned plan_code fit_plan
returns-then-wag c =
    let a = c.args in
    let s = read_row a.row.now in
    let session = c.args.session.now in
    let is = found-is _ _ (sym c.place_of.ensures.0 ∙ c.in-Some.is) in
    let there : none (with_session session s.accesses) ≡ false = none-with a.row.now session c.requires ∙ ne_eqb _ 0 is.1 in
    let yes : a.wag ≡ true = c.if-wag.true in (
      λ o p. rw (yes, sym is.0) (sym (gateway-yes session s (record { opening = o; policies = p }) there)),
      λ p w. rw (sym is.0, fit-place a.row.now c.requires session is.1, w),
    )

pub returns : goal.returns
unfolding planned plan_code fit_plan
returns c =
    let a = c.args in
    let s = read_row a.row.now in
    let session = c.args.session.now in
    let is = found-is _ _ (sym c.place_of.ensures.0 ∙ c.in-Some.is) in
    let there : none (with_session session s.accesses) ≡ false = none-with a.row.now session c.requires ∙ ne_eqb _ 0 is.1 in
    let no : a.wag ≡ false = c.if-wag.false in (
      λ o p. rw no (sym (gateway-no session s p there)),
      λ p w. refl,
    )
