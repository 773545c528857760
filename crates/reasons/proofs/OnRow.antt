-- Behind reading: deciding by the code of the plan, the row, and the whole call.
use mathlib.Core.Path.{◌≡◌, refl, sym, ap, ◌∙◌}
use mathlib.Core.Bool.{Bool, true, false, ◌&&◌, not}
use mathlib.Core.List.{List, [], ◌∷◌}
use Prim.Native.Nat.{ℕ}
use native.Mathlib.Omega.{arith}
use borrow.Author.Tests.{eqb-true, eq-eqb, ne_eqb}
use types.Run.{OneOf, miss}
use denote.Enum.Declared.{tag_of}
use lib.Dec.{eqb}
use Rattle.octets.specs.Choice.{pick}
use Rattle.octets.proofs.Lists.{by-test}
use Rattle.message.specs.Codes.{plain, roaming_not_allowed, unused_by_user, no_subscription, user_unknown, number_of}
use Rattle.message.specs.ReadingAMessage.{Ask, tunnel, policy, termination, Request, request, refused, read, reading_code}
use Rattle.message.proofs.Lengths.{passing}
use Rattle.table.specs.TheTable.{Subscriber, Table, Found, row, nothing, is_found, lookup, row_at, read_row, barred, may_roam}
use Rattle.table.specs.Soundness.{sound, on_entry}
use Rattle.rules.specs.Deciding.{Verdict, type0, type1, terminate, refuse, grant, held_already, entry_named, entry_at, with_session, none, stands_on}
use Rattle.rules.specs.Calls.{account, Call, call_number, most_policies}
use Rattle.plans.specs.declared.Plan.{Plan}
use Rattle.plans.specs.declared.Plan.TheVariants.{NotSubscribed, Barred, RoamingNotAllowed, UnableToComply, UnusedByUser, Stands, Open, Route, Free}
use Rattle.plans.specs.contracts.Plan.{the_type}
use Rattle.plans.specs.Plans.{Brought, planned, plan_code}
use Rattle.decision.proofs.Answered.{plan-code}
use Rattle.order.specs.ChecksInOrder.{Check, pass, fail, no_row, unsound_row, not_entered, entry_barred, may_not_roam, session_held, no_access, gateway_says_no, unused, check, first_failed, reading_checks, deciding_checks}
use Rattle.order.specs.Demand2.{request_in, found, row_found, row_before, checks}
use Rattle.order.proofs.Read.{reading-gives}
use Rattle.order.proofs.Decided.{admits}
use Rattle.reasons.specs.Reasons.{numbered, checked, ground_of}
use Rattle.reasons.specs.Parts.{row_checks}
use Rattle.reasons.proofs.Laws.{gives-first, gives-past}

-- DECIDING

-- texts for a plan that is not carried out: all but the Session-Id is empty
abbrev pub opening : List ℕ → Brought
opening session =
    record { opening = record { session = session; host = []; realm = [] }; policies = record { first = []; second = []; third = [] } }

-- the number of a plan's code is that of its verdict
plan-number : (b : Brought) (p : Plan) (s : Subscriber) (v : Verdict) → planned b p s ≡ v → number_of (plan_code p) ≡ number_of v.code
plan-number b p s v e =
    ap number_of (sym (plan-code b p s) ∙ ap (λ (x : Verdict). x.code) e)

-- each code of a tunnel's refusals is that of one check
unfoldable pub tunnel_entry : ℕ → Check
tunnel_entry n =
    pick (eqb n 5044) (fail not_entered no_subscription)
    (pick (eqb n 5003) (fail entry_barred (plain 5003))
    (pick (eqb n 5004) (fail may_not_roam roaming_not_allowed)
    (pick (eqb n 5012) (fail session_held (plain 5012)) pass)))

module _ (host realm label : List ℕ) (visited wag : Bool) (s : Subscriber) (b : Brought) where
  tunnel-entry : tunnel_entry (number_of (type0 b.opening label visited s).code) ≡ first_failed (deciding_checks (tunnel b.opening.session host realm label visited) wag s)
  unfolding tunnel_entry type0 deciding_checks check refuse grant held_already pick first_failed number_of
  tunnel-entry =
      by-test (eqb (entry_named label s) 0)
      (λ a. rw a)
      (λ a. by-test (barred (entry_at (entry_named label s) s))
      (λ f. rw (a, f))
      (λ f. by-test (visited && not (may_roam (entry_at (entry_named label s) s)))
      (λ d. rw (a, f, d))
      (λ d. by-test (none (with_session b.opening.session s.accesses))
      (λ e. rw (a, f, d, e, admits b.opening label s))
      (λ e. by-test (stands_on (entry_named label s) b.opening.session s)
      (λ k. rw (a, f, d, e, k))
      (λ k. rw (a, f, d, e, k))))))

  pub tunnel-planned : (p : Plan) → planned b p s ≡ type0 b.opening label visited s
      → tunnel_entry (number_of (plan_code p)) ≡ first_failed (deciding_checks (tunnel b.opening.session host realm label visited) wag s)
  tunnel-planned p e = ap tunnel_entry (plan-number b p s _ e) ∙ tunnel-entry

pub tunnel-passes : (p : Plan) → OneOf (4 ∷ 5 ∷ 6 ∷ 7 ∷ 8 ∷ []) (tag_of the_type p) → pass ≡ tunnel_entry (number_of (plan_code p))
unfolding tunnel_entry plan_code number_of pick
tunnel-passes NotSubscribed o = absurd (miss (4 ∷ 5 ∷ 6 ∷ 7 ∷ 8 ∷ []) 0 tt o)
tunnel-passes Barred o = absurd (miss (4 ∷ 5 ∷ 6 ∷ 7 ∷ 8 ∷ []) 1 tt o)
tunnel-passes RoamingNotAllowed o = absurd (miss (4 ∷ 5 ∷ 6 ∷ 7 ∷ 8 ∷ []) 2 tt o)
tunnel-passes UnableToComply o = absurd (miss (4 ∷ 5 ∷ 6 ∷ 7 ∷ 8 ∷ []) 3 tt o)
tunnel-passes UnusedByUser o = refl
tunnel-passes Stands o = refl
tunnel-passes (Open n k) o = refl
tunnel-passes (Route k) o = refl
tunnel-passes (Free k) o = refl

-- where the gateway says yes, a policy is refused only if there is no access
unfoldable pub policy_entry : Bool → ℕ → Check
policy_entry wag n = pick (eqb n 5012) (fail no_access (plain 5012)) (check gateway_says_no wag (plain 5012))

module _ (session first second third : List ℕ) (s : Subscriber) (b : Brought) where
  policy-entry : (wag : Bool) → policy_entry wag (number_of (type1 session b.policies true s).code) ≡ first_failed (deciding_checks (policy session first second third) wag s)
  unfolding policy_entry type1 deciding_checks check refuse grant pick first_failed number_of
  policy-entry true = by-test (none (with_session session s.accesses)) (λ a. rw a) (λ a. rw a)
  policy-entry false = by-test (none (with_session session s.accesses)) (λ a. rw a) (λ a. rw a)

  pub policy-planned : (wag : Bool) (p : Plan) → planned b p s ≡ type1 session b.policies true s
      → policy_entry wag (number_of (plan_code p)) ≡ first_failed (deciding_checks (policy session first second third) wag s)
  policy-planned wag p e = ap (policy_entry wag) (plan-number b p s _ e) ∙ policy-entry wag

pub policy-goes : (wag : Bool) (p : Plan) → OneOf (0 ∷ 1 ∷ 2 ∷ 4 ∷ 5 ∷ 6 ∷ 7 ∷ 8 ∷ []) (tag_of the_type p) → check gateway_says_no wag (plain 5012) ≡ policy_entry wag (number_of (plan_code p))
unfolding policy_entry plan_code number_of pick
policy-goes wag NotSubscribed o = refl
policy-goes wag Barred o = refl
policy-goes wag RoamingNotAllowed o = refl
policy-goes wag UnableToComply o = absurd (miss (0 ∷ 1 ∷ 2 ∷ 4 ∷ 5 ∷ 6 ∷ 7 ∷ 8 ∷ []) 3 tt o)
policy-goes wag UnusedByUser o = refl
policy-goes wag Stands o = refl
policy-goes wag (Open n k) o = refl
policy-goes wag (Route k) o = refl
policy-goes wag (Free k) o = refl

-- termination
unfoldable pub end_entry : ℕ → Check
end_entry n = pick (eqb n 5042) (fail unused unused_by_user) pass

module _ (session label : List ℕ) (wag : Bool) (s : Subscriber) where
  end-entry : end_entry (number_of (terminate session label s).code) ≡ first_failed (deciding_checks (termination session label) wag s)
  unfolding end_entry terminate deciding_checks check refuse grant pick first_failed number_of
  end-entry = by-test (none (with_session session (on_entry (entry_named label s) s.accesses))) (λ a. rw a) (λ a. rw a)

  pub end-planned : (b : Brought) (p : Plan) → planned b p s ≡ terminate session label s
      → end_entry (number_of (plan_code p)) ≡ first_failed (deciding_checks (termination session label) wag s)
  end-planned b p e = ap end_entry (plan-number b p s _ e) ∙ end-entry

pub end-passes : (p : Plan) → OneOf (0 ∷ 1 ∷ 2 ∷ 3 ∷ 5 ∷ 6 ∷ 7 ∷ 8 ∷ []) (tag_of the_type p) → pass ≡ end_entry (number_of (plan_code p))
unfolding end_entry plan_code number_of pick
end-passes NotSubscribed o = refl
end-passes Barred o = refl
end-passes RoamingNotAllowed o = refl
end-passes UnableToComply o = refl
end-passes UnusedByUser o = absurd (miss (0 ∷ 1 ∷ 2 ∷ 3 ∷ 5 ∷ 6 ∷ 7 ∷ 8 ∷ []) 4 tt o)
end-passes Stands o = refl
end-passes (Open n k) o = refl
end-passes (Route k) o = refl
end-passes (Free k) o = refl

-- THE ROW

module _ (t : Table) (q : Ask) (wag : Bool) where
  pub no-row : (at : Found) → at ≡ nothing → fail no_row user_unknown ≡ first_failed (row_checks t at q wag)
  unfolding row_checks check first_failed is_found
  no-row at e = rw e

  module _ (at : Found) (i : ℕ) (is : at ≡ row i) where
    pub unsound-row : sound (row_at t i) ≡ false → fail unsound_row (plain 5012) ≡ first_failed (row_checks t at q wag)
    unfolding row_checks check first_failed is_found row_found
    unsound-row e = rw (is, e)

    pub sound-row : sound (row_at t i) ≡ true → first_failed (deciding_checks q wag (read_row (row_at t i))) ≡ first_failed (row_checks t at q wag)
    unfolding row_checks check first_failed is_found row_found
    sound-row e = rw (is, e)

-- A CALL

module _ (most : ℕ) (m : List ℕ) where
  refused-code : (n : ℕ) → read most m ≡ refused n → reading_code most m ≡ 0 → ⊥
  unfolding read pick
  refused-code n e z = let f = rw (eq-eqb (reading_code most m) 0 z) at e in let y : ◌≡◌ {A = ℕ} 0 1 = cc in absurd (omega arith)

  request-code : (q : Request) → read most m ≡ request q → reading_code most m ≡ 0
  unfolding read pick
  request-code q e =
      by-test (eqb (reading_code most m) 0)
      (λ t. eqb-true (reading_code most m) 0 t)
      (λ t. let f = rw t at e in let y : ◌≡◌ {A = ℕ} 0 1 = cc in absurd (omega arith))

module _ (t : Table) (c : Call) where
  abbrev most : ℕ
  most = most_policies t.form

  pub not-read : (n : ℕ) → read most c.message ≡ refused n → first_failed (reading_checks most c.message) ≡ first_failed (checks t c)
  unfolding checks
  not-read n e = gives-first _ (reading_checks most c.message) _ (refused-code most c.message n e) (reading-gives most c.message)

  pub was_read : (q : Request) → read most c.message ≡ request q → first_failed (row_checks t (lookup t (account c q)) q.ask c.wag) ≡ first_failed (checks t c)
  unfolding checks row_checks row_before found request_in
  was_read q e =
      rw (passing most c.message q e).asked
      (gives-past _ (reading_checks most c.message) _ (request-code most c.message q e) (reading-gives most c.message))

  pub unanswered-ground : (n : ℕ) → n ≡ call_number t c → (n ≡ 0 → ⊥) → numbered n ≡ ground_of t c
  unfolding ground_of pick
  unanswered-ground n e z = rw (ne_eqb (call_number t c) 0 (λ y. z (e ∙ y))) (ap numbered e)

  pub answered-ground : (x : Check) → call_number t c ≡ 0 → x ≡ first_failed (checks t c) → checked x ≡ ground_of t c
  unfolding ground_of pick
  answered-ground x z e = rw (eq-eqb (call_number t c) 0 z) (ap checked e)
