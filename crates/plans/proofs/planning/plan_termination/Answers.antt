-- An access with the Session-Id on the entry is found, or there is none.
use Rattle.plans.specs.Plans.{fit_plan}
use mathlib.Core.Bool.{true, false}
use borrow.Author.Tests.{eq-eqb, ne_eqb}
use Rattle.table.specs.TheTable.{read_row}
use Rattle.table.specs.Soundness.{on_entry}
use Rattle.rules.specs.Deciding.{none, with_session, place_of, entry_named}
use Rattle.plans.specs.Plans.{planned, plan_code}
use Rattle.plans.proofs.Search.{found-is, not-found}
use Rattle.plans.proofs.Found.{none-ended, none-unnamed}
use Rattle.plans.proofs.Verdicts.{not-used, is-ended, fit-ended}
use mathlib.Core.List.{List}
use mathlib.Core.Path.{◌≡◌, refl, sym, ap, ◌∙◌}
use Prim.Native.Nat.{ℕ}
use Rattle.plans.proofs.planning.plan_termination.Goals as goal

pub returns-in_default : goal.returns-in_default
unfolding planned plan_code fit_plan
returns-in_default c =
    let a = c.args in
    let s = read_row a.row.now in
    let session = c.args.session.now in
    let label = c.args.label.now in
    let unnamed : entry_named label s ≡ 0 = not-found _ (λ k e. c.in_default.not-Some k (c.entry_named.ensures.0 ∙ e)) in
    let there : none (with_session session (on_entry (entry_named label s) s.accesses)) ≡ true = rw unnamed (none-unnamed a.row.now session c.requires) in
    (λ o p. sym (not-used session s label there), λ p. refl)

pub returns-in_default-place_on : goal.returns-in_default-place_on
unfolding planned plan_code fit_plan
returns-in_default-place_on c =
    let a = c.args in
    let s = read_row a.row.now in
    let session = c.args.session.now in
    let label = c.args.label.now in
    let n-is = (found-is _ _ (sym c.entry_named.ensures.0 ∙ c.in-Some.is)).0 in
    let none-there : place_of (with_session session (on_entry c.in-Some.n s.accesses)) ≡ 0 = not-found _ (λ k e. c.in_default-place_on.not-Some k (c.place_on.ensures.0 ∙ e)) in
    let there : none (with_session session (on_entry (entry_named label s) s.accesses)) ≡ true =
    ap (λ (n : ℕ). none (with_session session (on_entry n s.accesses))) n-is ∙ none-ended a.row.now c.in-Some.n session c.requires ∙ eq-eqb _ 0 none-there in
    (λ o p. sym (not-used session s label there), λ p. refl)

pub returns : goal.returns
unfolding planned plan_code fit_plan
returns c =
    let a = c.args in
    let s = read_row a.row.now in
    let session = c.args.session.now in
    let label = c.args.label.now in
    let n-is = (found-is _ _ (sym c.entry_named.ensures.0 ∙ c.in-Some.is)).0 in
    let is = found-is _ _ (sym c.place_on.ensures.0 ∙ c.in-Some-place_on.is) in
    let named : place_of (with_session session (on_entry (entry_named label s) s.accesses)) ≡ place_of (with_session session (on_entry c.in-Some.n s.accesses)) =
    ap (λ (n : ℕ). place_of (with_session session (on_entry n s.accesses))) n-is in
    let at : c.in-Some-place_on.k ≡ place_of (with_session session (on_entry (entry_named label s) s.accesses)) = sym is.0 ∙ sym named in
    let nz : place_of (with_session session (on_entry (entry_named label s) s.accesses)) ≡ 0 → ⊥ = λ z. is.1 (sym named ∙ z) in
    let there : none (with_session session (on_entry (entry_named label s) s.accesses)) ≡ false = none-ended a.row.now (entry_named label s) session c.requires ∙ ne_eqb _ 0 nz in (
      λ o p. rw at (sym (is-ended session s label there)),
      λ p. rw at (fit-ended a.row.now c.requires (entry_named label s) session nz),
    )
