-- A walk takes one AVP after another, to the end or to the first that fails: `walk_is`. A request's walk is that of the four tests,
-- stopped at the first AVP that is not supported: `walks-agree`.
use mathlib.Core.Path.{◌≡◌, refl, ◌∙◌}
use mathlib.Core.Bool.{true, false}
use mathlib.Core.List.{List, []}
use Prim.Native.Nat.{ℕ, zero, suc, ◌%◌, ◌≤◌, ◌<◌}
use native.Mathlib.Omega.{arith}
use borrow.Author.Tests.{leb-true, eqb-true, eqb-false, eq-eqb, ne_eqb}
use lib.Dec.{eqb, leb}
use lib.ListN.{length, get_or, drop, length-drop}
use Rattle.octets.specs.Choice.{pick, require, first_of}
use Rattle.octets.specs.Numbers.{up4}
use Rattle.octets.proofs.Lists.{by-test}
use Rattle.octets.proofs.Choice.{first_passes, others-pass, passed}
use Rattle.message.specs.ReadingAMessage.{Walk, head_length, avp_length, avp_code, avp_of, supported, request_code, behind, walk_one, walk_up_to, walk_by, walk, request_walk, stopped_in, stopped}

-- the four tests of an AVP that passed
pub record Passed (s : List ℕ) : Type 0 where
  pub eight : 8 ≤ length s
  pub clear : get_or s 4 0 % 32 ≡ 0
  pub head : head_length s ≤ avp_length s
  pub whole : up4 (avp_length s) ≤ length s

pub passes : (s : List ℕ) → avp_code s ≡ 0 → Passed s
unfolding avp_code
passes s h =
    let h1 = others-pass (require (leb 8 (length s)) 5014) _ h in
    let h2 = others-pass (require (eqb (get_or s 4 0 % 32) 0) 3009) _ h1 in
    let h3 = others-pass (require (leb (head_length s) (avp_length s)) 5014) _ h2 in
    record {
      eight = leb-true 8 (length s) (passed (leb 8 (length s)) 5014 (omega arith) (first_passes (require (leb 8 (length s)) 5014) _ h));
      clear = eqb-true (get_or s 4 0 % 32) 0 (passed (eqb (get_or s 4 0 % 32) 0) 3009 (omega arith) (first_passes (require (eqb (get_or s 4 0 % 32) 0) 3009) _ h1));
      head = leb-true (head_length s) (avp_length s) (passed (leb (head_length s) (avp_length s)) 5014 (omega arith) (first_passes (require (leb (head_length s) (avp_length s)) 5014) _ h2));
      whole = leb-true (up4 (avp_length s)) (length s) (passed (leb (up4 (avp_length s)) (length s)) 5014 (omega arith) (first_passes (require (leb (up4 (avp_length s)) (length s)) 5014) _ h3));
    }

pub head-least : (s : List ℕ) → 8 ≤ head_length s
unfolding head_length pick
head-least s = by-test (leb 128 (get_or s 4 0)) (λ e. rw e (omega arith)) (λ e. rw e (omega arith))

pub up4-least : (n : ℕ) → n ≤ up4 n
unfolding up4
up4-least n = omega arith

-- what follows an AVP is shorter
pub rest-shorter : (s : List ℕ) → avp_code s ≡ 0 → length (drop (up4 (avp_length s)) s) < length s
rest-shorter s h =
    let p : Passed s = passes s h in
    rw length-drop (omega (arith, p.eight, p.head, p.whole, head-least s, up4-least (avp_length s)))

-- WALKS BY ANY TESTS THAT HAVE THE FOUR AMONG THEM

module _ (tests : List ℕ → ℕ) (four : (s : List ℕ) → tests s ≡ 0 → avp_code s ≡ 0) where
  -- two ways on that agree behind the AVP
  one_same : (f g : List ℕ → Walk) (s : List ℕ) → (tests s ≡ 0 → f (drop (up4 (avp_length s)) s) ≡ g (drop (up4 (avp_length s)) s))
      → walk_one tests f s ≡ walk_one tests g s
  unfolding walk_one pick
  one_same f g s h =
      by-test (eqb (tests s) 0)
      (λ e. rw (e, h (eqb-true (tests s) 0 e)))
      (λ e. rw e)

  enough : (m n : ℕ) (s : List ℕ) → length s < m → length s < n → walk_up_to tests m s ≡ walk_up_to tests n s
  unfolding walk_up_to
  enough zero n s h k = absurd (omega arith)
  enough (suc m) zero s h k = absurd (omega arith)
  enough (suc m) (suc n) s h k =
      one_same (λ t. walk_up_to tests m t) (λ t. walk_up_to tests n t) s
      (λ e. enough m n (drop (up4 (avp_length s)) s) (omega (arith, rest-shorter s (four s e))) (omega (arith, rest-shorter s (four s e))))

  pub walk_is : (s : List ℕ) → walk_by tests s ≡ walk_one tests (walk_by tests) s
  unfolding walk_by walk_up_to
  walk_is s =
      one_same (λ t. walk_up_to tests (length s) t) (λ t. walk_up_to tests (suc (length t)) t) s
      (λ e. enough (length s) (suc (length (drop (up4 (avp_length s)) s))) (drop (up4 (avp_length s)) s) (rest-shorter s (four s e)) (omega arith))

  -- one AVP at a time
  pub walk_end : (s : List ℕ) → length s ≡ 0 → walk_by tests s ≡ record { avps = []; code = 0 }
  unfolding walk_one pick
  walk_end s h = walk_is s ∙ rw (eq-eqb (length s) 0 h)

  pub walk-bad : (s : List ℕ) → 0 < length s → 0 < tests s → walk_by tests s ≡ record { avps = []; code = tests s }
  unfolding walk_one pick
  walk-bad s h k = walk_is s ∙ rw (ne_eqb (length s) 0 (λ z. omega arith), ne_eqb (tests s) 0 (λ z. omega arith))

  pub walk-one : (s : List ℕ) → tests s ≡ 0 → walk_by tests s ≡ behind (avp_of s) (walk_by tests (drop (up4 (avp_length s)) s))
  unfolding walk_one pick
  walk-one s h =
      let e : 8 ≤ length s = (passes s (four s h)).eight in
      walk_is s ∙ rw (ne_eqb (length s) 0 (λ z. omega arith), eq-eqb (tests s) 0 h)

-- THE TESTS OF A REQUEST

pub request-four : (s : List ℕ) → request_code s ≡ 0 → avp_code s ≡ 0
unfolding request_code
request-four s h = first_passes (avp_code s) _ h

pub request-bad : (s : List ℕ) → 0 < avp_code s → request_code s ≡ avp_code s
unfolding request_code first_of pick
request-bad s h = rw (ne_eqb (avp_code s) 0 (λ z. omega arith))

pub request-passes : (s : List ℕ) → avp_code s ≡ 0 → supported (avp_of s) ≡ true → request_code s ≡ 0
unfolding request_code first_of pick require
request-passes s h u = rw (h, u)

pub request-refuses : (s : List ℕ) → avp_code s ≡ 0 → supported (avp_of s) ≡ false → request_code s ≡ 5001
unfolding request_code first_of pick require
request-refuses s h u = rw (h, u)

-- THE TWO WALKS

agree : (n : ℕ) (s : List ℕ) → walk_up_to request_code n s ≡ stopped (walk_up_to avp_code n s)
unfolding walk_up_to walk_one pick stopped stopped_in behind
agree zero s = refl
agree (suc n) s =
    by-test (eqb (length s) 0)
    (λ e. rw e)
    (λ e.
    by-test (eqb (avp_code s) 0)
    (λ f.
    let z : avp_code s ≡ 0 = eqb-true (avp_code s) 0 f in
    by-test (supported (avp_of s))
    (λ u. rw (e, request-passes s z u, z, u, agree n (drop (up4 (avp_length s)) s)))
    (λ u. rw (e, request-refuses s z u, z, u)))
    (λ f. rw (e, request-bad s (above (avp_code s) (eqb-false (avp_code s) 0 f)), f)))
  where
    above : (n : ℕ) → (n ≡ 0 → ⊥) → 0 < n
    above zero h = absurd (h refl)
    above (suc n) h = omega arith

pub walks-agree : (s : List ℕ) → request_walk s ≡ stopped (walk s)
unfolding walk_by
walks-agree s = agree (suc (length s)) s
