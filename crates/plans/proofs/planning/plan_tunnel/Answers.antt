-- Each way out is the law of the test that failed, or of all having passed.
use Rattle.plans.specs.Plans.{fit_plan}
use mathlib.Core.Bool.{true, false, not, ◌&&◌}
use lib.Dec.{eqb}
use borrow.Author.Tests.{not-true, not-false}
use Rattle.table.specs.TheTable.{read_row, may_roam}
use Rattle.rules.specs.Deciding.{admit, held_already, none, place_of, with_session, entry_named, entry_at}
use Rattle.plans.specs.Plans.{planned, plan_code}
use Rattle.std.specs.Prelude.{Option, is_some}
use Rattle.plans.proofs.Search.{found-is, found-tests, not-found}
use Rattle.plans.proofs.Found.{none-with}
use Rattle.plans.proofs.Verdicts.{not-subscribed, is-barred, no-roaming, is_held, is-admitted}
use mathlib.Core.List.{List}
use mathlib.Core.Path.{◌≡◌, refl, sym, ap, ◌∙◌}
use Prim.Native.Nat.{ℕ, ◌/◌, ◌%◌}
use Rattle.plans.proofs.planning.plan_tunnel.Goals as goal

pub returns-in_default : goal.returns-in_default
unfolding planned plan_code fit_plan
returns-in_default c =
    let a = c.args in
    let s = read_row a.row.now in
    let label = c.args.label.now in
    let unnamed : entry_named label s ≡ 0 = not-found _ (λ k e. c.in_default.not-Some k (c.entry_named.ensures.0 ∙ e)) in
    (λ o p same. sym (not-subscribed o label a.visited s unnamed), λ p. refl)

pub returns-then-flags-eq1 : goal.returns-then-flags-eq1
unfolding planned plan_code fit_plan
returns-then-flags-eq1 c =
    let a = c.args in
    let s = read_row a.row.now in
    let label = c.args.label.now in
    let is = found-is _ _ (sym c.entry_named.ensures.0 ∙ c.in-Some.is) in
    let named : c.in-Some.n ≡ entry_named label s = sym is.0 in
    let entered : entry_named label s ≡ 0 → ⊥ = is.1 in
    let flags : c.flags_of-flags.result ≡ (entry_at (entry_named label s) s).flags = c.flags_of-flags.ensures ∙ ap (λ (n : ℕ). (entry_at n s).flags) named in (
      λ o p same. sym (is-barred o label a.visited s entered (ap (λ (n : ℕ). n % 2) (sym flags) ∙ c.if-flags-eq1.true)),
      λ p. refl,
    )

pub returns-then-roams : goal.returns-then-roams
unfolding planned plan_code may_roam fit_plan
returns-then-roams c =
    let a = c.args in
    let s = read_row a.row.now in
    let label = c.args.label.now in
    let is = found-is _ _ (sym c.entry_named.ensures.0 ∙ c.in-Some.is) in
    let named : c.in-Some.n ≡ entry_named label s = sym is.0 in
    let entered : entry_named label s ≡ 0 → ⊥ = is.1 in
    let flags : c.flags_of-flags.result ≡ (entry_at (entry_named label s) s).flags = c.flags_of-flags.ensures ∙ ap (λ (n : ℕ). (entry_at n s).flags) named in
    let unbarred : (entry_at (entry_named label s) s).flags % 2 ≡ 1 → ⊥ = λ z. c.if-flags-eq1.false (ap (λ (n : ℕ). n % 2) flags ∙ z) in
    let roams : c.roams_unasked-roams.result ≡ a.visited && not (may_roam (entry_at (entry_named label s) s)) =
    c.roams_unasked-roams.ensures ∙ ap (λ (n : ℕ). a.visited && not (eqb (n / 2 % 2) 1)) flags in (
      λ o p same. sym (no-roaming o label a.visited s entered unbarred (sym roams ∙ c.if-roams.true)),
      λ p. refl,
    )

pub returns-then-is_some : goal.returns-then-is_some
unfolding may_roam
returns-then-is_some c =
    let a = c.args in
    let s = read_row a.row.now in
    let session = c.args.session.now in
    let label = c.args.label.now in
    let is = found-is _ _ (sym c.entry_named.ensures.0 ∙ c.in-Some.is) in
    let named : c.in-Some.n ≡ entry_named label s = sym is.0 in
    let entered : entry_named label s ≡ 0 → ⊥ = is.1 in
    let flags : c.flags_of-flags.result ≡ (entry_at (entry_named label s) s).flags = c.flags_of-flags.ensures ∙ ap (λ (n : ℕ). (entry_at n s).flags) named in
    let unbarred : (entry_at (entry_named label s) s).flags % 2 ≡ 1 → ⊥ = λ z. c.if-flags-eq1.false (ap (λ (n : ℕ). n % 2) flags ∙ z) in
    let roams : c.roams_unasked-roams.result ≡ a.visited && not (may_roam (entry_at (entry_named label s) s)) =
    c.roams_unasked-roams.ensures ∙ ap (λ (n : ℕ). a.visited && not (eqb (n / 2 % 2) 1)) flags in
    let home : a.visited && not (may_roam (entry_at (entry_named label s) s)) ≡ false = sym roams ∙ c.if-roams.false in
    let tested : c.is_some.result ≡ not (eqb (place_of (with_session session s.accesses)) 0) =
    c.is_some.ensures ∙ ap (λ (o : Option ℕ). is_some o) c.place_of.ensures.0 ∙ found-tests (place_of (with_session session s.accesses)) in
    let there : none (with_session session s.accesses) ≡ false = none-with a.row.now session c.requires ∙ not-true (eqb (place_of (with_session session s.accesses)) 0) (sym tested ∙ c.if-is_some.true) in (
      λ o p same. c.plan_held.ensures.0 (record { opening = o; policies = p })
          ∙ ap (λ (n : ℕ). held_already n session s) named
          ∙ ap (λ (t : List ℕ). held_already (entry_named label s) t s) (sym same)
          ∙ sym (is_held o label a.visited s entered unbarred home (ap (λ (t : List ℕ). none (with_session t s.accesses)) same ∙ there)),
      c.plan_held.ensures.1,
    )

pub returns : goal.returns
unfolding may_roam
returns c =
    let a = c.args in
    let s = read_row a.row.now in
    let session = c.args.session.now in
    let label = c.args.label.now in
    let is = found-is _ _ (sym c.entry_named.ensures.0 ∙ c.in-Some.is) in
    let named : c.in-Some.n ≡ entry_named label s = sym is.0 in
    let entered : entry_named label s ≡ 0 → ⊥ = is.1 in
    let flags : c.flags_of-flags.result ≡ (entry_at (entry_named label s) s).flags = c.flags_of-flags.ensures ∙ ap (λ (n : ℕ). (entry_at n s).flags) named in
    let unbarred : (entry_at (entry_named label s) s).flags % 2 ≡ 1 → ⊥ = λ z. c.if-flags-eq1.false (ap (λ (n : ℕ). n % 2) flags ∙ z) in
    let roams : c.roams_unasked-roams.result ≡ a.visited && not (may_roam (entry_at (entry_named label s) s)) =
    c.roams_unasked-roams.ensures ∙ ap (λ (n : ℕ). a.visited && not (eqb (n / 2 % 2) 1)) flags in
    let home : a.visited && not (may_roam (entry_at (entry_named label s) s)) ≡ false = sym roams ∙ c.if-roams.false in
    let tested : c.is_some.result ≡ not (eqb (place_of (with_session session s.accesses)) 0) =
    c.is_some.ensures ∙ ap (λ (o : Option ℕ). is_some o) c.place_of.ensures.0 ∙ found-tests (place_of (with_session session s.accesses)) in
    let there : none (with_session session s.accesses) ≡ true = none-with a.row.now session c.requires ∙ not-false (eqb (place_of (with_session session s.accesses)) 0) (sym tested ∙ c.if-is_some.false) in (
      λ o p same. c.plan_opening.ensures.0 o p
          ∙ ap (λ (n : ℕ). admit n o s) named
          ∙ sym (is-admitted o label a.visited s entered unbarred home (ap (λ (t : List ℕ). none (with_session t s.accesses)) same ∙ there)),
      c.plan_opening.ensures.1,
    )
