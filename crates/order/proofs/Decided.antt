-- Deciding, check by check.
use mathlib.Core.Path.{◌≡◌, refl, sym, ap}
use mathlib.Core.Bool.{Bool, true, false, ◌&&◌, not}
use mathlib.Core.List.{List, [], ◌∷◌}
use Prim.Native.Nat.{ℕ, suc}
use native.Mathlib.Omega.{arith}
use borrow.Author.Tests.{eqb-true}
use lib.Dec.{eqb}
use lib.ListN.{length}
use Rattle.octets.specs.Choice.{pick}
use Rattle.octets.specs.Lists.{keep}
use Rattle.octets.specs.Texts.{same}
use Rattle.octets.proofs.Lists.{by-test}
use Rattle.message.specs.Codes.{Code, plain, number_of}
use Rattle.message.specs.ReadingAMessage.{Ask, tunnel, policy, termination}
use Rattle.table.specs.TheTable.{Access, Policies, Subscriber, barred, may_roam}
use Rattle.table.specs.Soundness.{on_entry}
use Rattle.changes.specs.Changes.{Opening, kept_in}
use Rattle.rules.specs.Deciding.{Verdict, decide, type0, type1, terminate, admit, open_on, refuse, grant, held_already, entry_named, entry_at, with_session, none, stands_on, at_limit, at_place, first_on}
use Rattle.order.specs.ChecksInOrder.{Check, Failure, check, first_failed, code_given, first_failing, none_fails, deciding_checks}
use Rattle.order.specs.Demand2.{opens, exceeds, on_asked, spared, place_taken, afterwards}

-- the accesses that are cut, as they are decided
unfoldable pub cut_by : Ask → Subscriber → List Access
cut_by (tunnel session host realm label visited) s = pick (exceeds (tunnel session host realm label visited) s) (at_place (first_on (entry_named label s) s.accesses) s.accesses) []
cut_by (policy session first second third) s = []
cut_by (termination session label) s = []

-- what is decided where no check fails, in a table of the form
unfoldable pub granting : (fm : ℕ) → Ask → Subscriber → Verdict
granting fm q s = record { code = plain 2001; place = place_taken q s; cut = cut_by q s; after = afterwards fm q s }

-- the texts of an opening, as a row of the form keeps them
abbrev pub storing : (fm : ℕ) → (session host realm : List ℕ) → Opening
storing fm session host realm = record { session = session; host = host; realm = kept_in fm realm }

-- a refusal with the code of the first failing check, or success
pub data Decided (cs : List Check) (granted : Verdict) (s : Subscriber) (v : Verdict) : Type 0 where
  refuses : first_failing cs ≡ v.code → none_fails cs ≡ false → eqb (number_of v.code) 2001 ≡ false → v ≡ refuse v.code s → Decided cs granted s v
  grants : first_failing cs ≡ v.code → none_fails cs ≡ true → v ≡ granted → Decided cs granted s v

-- a Session-Id that is not in the row stands on no entry of it
none-there : (session : List ℕ) (n : ℕ) (a : List Access) → none (with_session session a) ≡ true → none (with_session session (on_entry n a)) ≡ true
unfolding none with_session on_entry keep pick
none-there session n [] h = refl
none-there session n (x ∷ a) h =
    by-test (same x.session session)
    (λ e. let z : eqb (suc (length (keep (λ (y : Access). same y.session session) a))) 0 ≡ true = rw e at h in absurd (omega (arith, eqb-true (suc (length (keep (λ (y : Access). same y.session session) a))) 0 z)))
    (λ e. by-test (eqb x.entry n)
    (λ k. rw (k, e) (none-there session n a (rw e at h)))
    (λ k. rw k (none-there session n a (rw e at h))))

pub not-standing : (session : List ℕ) (n : ℕ) (s : Subscriber) → none (with_session session s.accesses) ≡ true → stands_on n session s ≡ false
unfolding stands_on
not-standing session n s h = ap not (none-there session n s.accesses h)

-- four checks of which none fails
pub four-pass : (v w x y : Failure) (e f g h : Code) (a b c d : Bool)
    → none_fails (check v a e ∷ check w b f ∷ check x c g ∷ check y d h ∷ []) ≡ true → (a ≡ true) × (b ≡ true) × (c ≡ true) × (d ≡ true)
unfolding check none_fails
four-pass v w x y e f g h true true true true p = (refl, refl, refl, refl)
four-pass v w x y e f g h true true true false p = let z : ◌≡◌ {A = ℕ} 0 1 = cc in absurd (omega arith)
four-pass v w x y e f g h true true false d p = let z : ◌≡◌ {A = ℕ} 0 1 = cc in absurd (omega arith)
four-pass v w x y e f g h true false c d p = let z : ◌≡◌ {A = ℕ} 0 1 = cc in absurd (omega arith)
four-pass v w x y e f g h false b c d p = let z : ◌≡◌ {A = ℕ} 0 1 = cc in absurd (omega arith)

module _ (fm : ℕ) (session host realm label : List ℕ) (visited : Bool) (s : Subscriber) where
  admitted : stands_on (entry_named label s) session s ≡ false → admit (entry_named label s) (storing fm session host realm) s ≡ granting fm (tunnel session host realm label visited) s
  unfolding admit open_on granting cut_by place_taken afterwards spared exceeds opens on_asked first_on pick
  admitted k = by-test (at_limit (entry_named label s) s) (λ e. rw (k, e)) (λ e. rw (k, e))

  went_on : stands_on (entry_named label s) session s ≡ true → grant s ≡ granting fm (tunnel session host realm label visited) s
  unfolding grant granting cut_by place_taken afterwards exceeds opens pick
  went_on k = rw k

pub admits : (o : Opening) (label : List ℕ) (s : Subscriber) → (admit (entry_named label s) o s).code ≡ plain 2001
unfolding admit open_on pick
admits o label s = by-test (at_limit (entry_named label s) s) (λ e. rw e) (λ e. rw e)

module _ (fm : ℕ) (session host realm label : List ℕ) (visited : Bool) (wag : Bool) (s : Subscriber) where
  granted-plainly : (grant s).code ≡ plain 2001
  unfolding grant
  granted-plainly = refl

  decided-type0 : Decided (deciding_checks (tunnel session host realm label visited) wag s) (granting fm (tunnel session host realm label visited) s) s (type0 (storing fm session host realm) label visited s)
  unfolding type0 deciding_checks check refuse held_already pick first_failed code_given first_failing none_fails number_of
  decided-type0 =
      by-test (eqb (entry_named label s) 0)
      (λ a. rw a (refuses refl refl refl refl))
      (λ a. by-test (barred (entry_at (entry_named label s) s))
      (λ b. rw (a, b) (refuses refl refl refl refl))
      (λ b. by-test (visited && not (may_roam (entry_at (entry_named label s) s)))
      (λ d. rw (a, b, d) (refuses refl refl refl refl))
      (λ d. by-test (none (with_session session s.accesses))
      (λ e. rw (a, b, d, e) (grants (sym (admits (storing fm session host realm) label s)) refl (admitted fm session host realm label visited s (not-standing session _ s e))))
      (λ e. by-test (stands_on (entry_named label s) session s)
      (λ k. rw (a, b, d, e, k) (grants (sym granted-plainly) refl (went_on fm session host realm label visited s k)))
      (λ k. rw (a, b, d, e, k) (refuses refl refl refl refl))))))

module _ (fm : ℕ) (session first second third : List ℕ) (s : Subscriber) where
  abbrev holding : Policies
  holding = record { first = first; second = second; third = third }

  decided-type1 : (wag : Bool) → Decided (deciding_checks (policy session first second third) wag s) (granting fm (policy session first second third) s) s (type1 session holding wag s)
  unfolding type1 deciding_checks granting place_taken cut_by afterwards opens check refuse grant pick first_failed code_given first_failing none_fails number_of
  decided-type1 true =
      by-test (none (with_session session s.accesses))
      (λ a. rw a (refuses refl refl refl refl))
      (λ a. rw a (grants refl refl refl))
  decided-type1 false =
      by-test (none (with_session session s.accesses))
      (λ a. rw a (refuses refl refl refl refl))
      (λ a. rw a (refuses refl refl refl refl))

module _ (fm : ℕ) (session label : List ℕ) (wag : Bool) (s : Subscriber) where
  decided-end : Decided (deciding_checks (termination session label) wag s) (granting fm (termination session label) s) s (terminate session label s)
  unfolding terminate deciding_checks granting place_taken cut_by afterwards opens check refuse grant pick first_failed code_given first_failing none_fails number_of
  decided-end =
      by-test (none (with_session session (on_entry (entry_named label s) s.accesses)))
      (λ a. rw a (refuses refl refl refl refl))
      (λ a. rw a (grants refl refl refl))

pub decided : (fm : ℕ) (q : Ask) (wag : Bool) (s : Subscriber) → Decided (deciding_checks q wag s) (granting fm q s) s (decide fm q wag s)
unfolding decide
decided fm (tunnel session host realm label visited) wag s = decided-type0 fm session host realm label visited wag s
decided fm (policy session first second third) wag s = decided-type1 fm session first second third s wag
decided fm (termination session label) wag s = decided-end fm session label wag s
