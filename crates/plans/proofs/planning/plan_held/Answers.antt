-- The Session-Id stands on the entry, or it does not.
use mathlib.Core.Bool.{true, false}
use mathlib.Core.Path.{◌≡◌, refl, sym, ap, ◌∙◌}
use Prim.Native.Nat.{ℕ}
use lib.Dec.{eqb}
use borrow.Author.Tests.{eq-eqb, ne_eqb}
use Rattle.table.specs.TheTable.{read_row}
use Rattle.table.specs.Soundness.{on_entry}
use Rattle.rules.specs.Deciding.{none, with_session}
use Rattle.plans.specs.Plans.{fit_plan, planned, plan_code}
use Rattle.plans.proofs.Search.{found-is, found-none-is}
use Rattle.plans.proofs.Found.{none-ended}
use Rattle.plans.proofs.Verdicts.{goes_on, stands-elsewhere}
use Rattle.plans.proofs.planning.plan_held.Goals as goal

pub returns-in-Some : goal.returns-in-Some
unfolding planned plan_code fit_plan
returns-in-Some c =
    let a = c.args in
    let s = read_row a.row.now in
    let is = found-is _ _ (sym c.place_on.ensures.0 ∙ c.in-Some.is) in
    let there : none (with_session a.session.now (on_entry a.n s.accesses)) ≡ false = none-ended a.row.now a.n a.session.now c.requires ∙ ne_eqb _ 0 is.1 in
    (λ b. sym (goes_on a.n a.session.now s there), λ p. refl)

pub returns-in-None : goal.returns-in-None
unfolding planned plan_code fit_plan
returns-in-None c =
    let a = c.args in
    let s = read_row a.row.now in
    let there : none (with_session a.session.now (on_entry a.n s.accesses)) ≡ true =
    none-ended a.row.now a.n a.session.now c.requires ∙ eq-eqb _ 0 (found-none-is _ (sym c.place_on.ensures.0 ∙ c.in-None.is)) in
    (λ b. sym (stands-elsewhere a.n a.session.now s there), λ p. refl)
