-- The walk into groups takes one AVP after another: a law for each way on and each way out, at a place of the answer. Nothing else looks at its counter.
use mathlib.Core.Path.{◌≡◌, refl, sym, ap, ◌∙◌}
use mathlib.Core.Bool.{true, false}
use mathlib.Core.List.{List}
use Prim.Native.Nat.{ℕ, zero, suc, ◌+◌, ◌-◌, ◌≤◌, ◌<◌}
use native.Mathlib.Omega.{arith}
use borrow.Author.Tests.{eqb-true, eq-eqb, ne_eqb, leb-true, leb-false}
use lib.Dec.{eqb, leb}
use lib.ListN.{length, get_or, take, drop, length-drop}
use lib.Seq.{drop-drop}
use Rattle.octets.specs.Choice.{pick}
use Rattle.octets.specs.Numbers.{net24, up4}
use Rattle.octets.proofs.Lists.{by-test}
use Rattle.octets.proofs.Pieces.{drop-take}
use Rattle.message.specs.ReadingAMessage.{avp_length, avp_code}
use Rattle.message.proofs.Walks.{Passed, passes, rest-shorter}
use Rattle.likeness.specs.TheSameAnswer.{Finding, nothing, too_deep, differs, or_else, is_group, inside_of, fault_one, fault_up_to, fault_by, fault_in}
use Rattle.likeness.specs.Code.{avp_at, next_at, Stands}
use Rattle.likeness.proofs.Places.{stands, passes-here, fails-here, next-is, is-base-v, value-8, head-of-8}

-- HOW DEEP

-- what is found inside a group, where groups may still nest to a depth
abbrev pub inner : ℕ → ℕ → List ℕ → Finding
inner zero p v = too_deep
inner (suc d) p v = fault_in d p v

pub fault-in : (d at : ℕ) (s : List ℕ) → fault_in d at s ≡ fault_by (inner d) at s
unfolding fault_in
fault-in zero at s = refl
fault-in (suc d) at s = refl

pub inner-down : (d p : ℕ) (v : List ℕ) → (d ≡ 0 → ⊥) → inner d p v ≡ fault_in (d - 1) p v
inner-down zero p v h = absurd (h refl)
inner-down (suc d) p v h = let e : suc d - 1 ≡ d = omega arith in rw e

pub inner-none : (d p : ℕ) (v : List ℕ) → d ≡ 0 → inner d p v ≡ too_deep
inner-none d p v e = rw e

-- ONE AVP AFTER ANOTHER

module _ (inside : ℕ → List ℕ → Finding) where
  one_same : (f g : ℕ → List ℕ → Finding) (at : ℕ) (s : List ℕ)
      → (avp_code s ≡ 0 → f (at + up4 (avp_length s)) (drop (up4 (avp_length s)) s) ≡ g (at + up4 (avp_length s)) (drop (up4 (avp_length s)) s))
      → fault_one inside f at s ≡ fault_one inside g at s
  unfolding fault_one pick
  one_same f g at s h = by-test (eqb (avp_code s) 0) (λ e. rw (e, h (eqb-true (avp_code s) 0 e))) (λ e. rw e)

  enough : (k n at : ℕ) (s : List ℕ) → length s < k → length s < n → fault_up_to inside k at s ≡ fault_up_to inside n at s
  unfolding fault_up_to
  enough zero n at s h l = absurd (omega arith)
  enough (suc k) zero at s h l = absurd (omega arith)
  enough (suc k) (suc n) at s h l =
      one_same (λ p t. fault_up_to inside k p t) (λ p t. fault_up_to inside n p t) at s
      (λ e. enough k n (at + up4 (avp_length s)) (drop (up4 (avp_length s)) s) (omega (arith, rest-shorter s e)) (omega (arith, rest-shorter s e)))

  pub fault-is : (at : ℕ) (s : List ℕ) → fault_by inside at s ≡ fault_one inside (fault_by inside) at s
  unfolding fault_by fault_up_to
  fault-is at s =
      one_same (λ p t. fault_up_to inside (length s) p t) (λ p t. fault_up_to inside (suc (length t)) p t) at s
      (λ e. enough (length s) (suc (length (drop (up4 (avp_length s)) s))) (at + up4 (avp_length s)) (drop (up4 (avp_length s)) s) (rest-shorter s e) (omega arith))

  -- AT A PLACE

  module _ (m : List ℕ) (at : ℕ) where
    pub fault-end : length m ≤ at → fault_by inside at (drop at m) ≡ nothing
    unfolding fault_one pick
    fault-end h = fault-is at (drop at m) ∙ rw (eq-eqb (length (drop at m)) 0 (rw length-drop (omega arith)))

    pub fault-bad : at < length m → next_at m at ≡ 0 → fault_by inside at (drop at m) ≡ differs 2 at
    unfolding fault_one pick
    fault-bad h e =
        let l : length (drop at m) ≡ 0 → ⊥ = λ z. let y : length m - at ≡ 0 = rw length-drop at z in omega arith in
        fault-is at (drop at m) ∙ rw (ne_eqb (length (drop at m)) 0 l, ne_eqb (avp_code (drop at m)) 0 (fails-here m at e))

    module _ (next : ℕ) (e : next_at m at ≡ next) (f : next ≡ 0 → ⊥) where
      pass : avp_code (drop at m) ≡ 0
      pass = passes-here m at (λ z. f (sym e ∙ z))

      one : fault_by inside at (drop at m) ≡ or_else (inside_of inside at (drop at m)) (fault_by inside next (drop next m))
      unfolding fault_one pick
      one =
          let p : Passed (drop at m) = passes (drop at m) pass in
          let n : at + up4 (avp_length (drop at m)) ≡ next = sym (next-is m at pass) ∙ e in
          let d : drop (up4 (avp_length (drop at m))) (drop at m) ≡ drop next m = drop-drop (up4 (avp_length (drop at m))) at m ∙ ap (λ (i : ℕ). drop i m) n in
          fault-is at (drop at m)
          ∙ rw (ne_eqb (length (drop at m)) 0 (λ z. omega (arith, p.eight, z)), eq-eqb (avp_code (drop at m)) 0 pass, d, n)

      pub fault-plain : is_group (avp_at m at).name ≡ false → fault_by inside next (drop next m) ≡ fault_by inside at (drop at m)
      unfolding inside_of or_else pick
      fault-plain g = sym (one ∙ rw g)

      module _ (g : is_group (avp_at m at).name ≡ true) where
        pub fault-inside : ((inside (at + 8) (avp_at m at).value).number ≡ 0 → ⊥) → fault_by inside at (drop at m) ≡ inside (at + 8) (avp_at m at).value
        unfolding inside_of or_else pick
        fault-inside h = one ∙ rw (g, ne_eqb (inside (at + 8) (avp_at m at).value).number 0 h)

        pub fault-passed : (inside (at + 8) (avp_at m at).value).number ≡ 0 → fault_by inside next (drop next m) ≡ fault_by inside at (drop at m)
        unfolding inside_of or_else pick
        fault-passed h = sym (one ∙ rw (g, eq-eqb (inside (at + 8) (avp_at m at).value).number 0 h))

-- THE VALUE OF A GROUP

-- a group has no V
group-plain : (m : List ℕ) (at : ℕ) → is_group (avp_at m at).name ≡ true → get_or m (at + 4) 0 < 128
unfolding is_group
group-plain m at g =
    by-test (leb 128 (get_or m (at + 4) 0))
    (λ t. let v : 128 ≤ get_or m (at + 4) 0 = leb-true 128 (get_or m (at + 4) 0) t in
    let z : false ≡ true = rw (is-base-v m at 279 v, is-base-v m at 297 v, is-base-v m at 443 v) at g in let y : ◌≡◌ {A = ℕ} 0 1 = cc in absurd (omega arith))
    (λ t. leb-false 128 (get_or m (at + 4) 0) t)

-- its value is what the answer has from byte 8 of the group on, cut where the group ends
pub value-cut : (m : List ℕ) (at end : ℕ) → avp_code (drop at m) ≡ 0 → end ≡ at + net24 m (at + 5) → is_group (avp_at m at).name ≡ true
    → drop (at + 8) (take end m) ≡ (avp_at m at).value
value-cut m at end k e g =
    let v : get_or m (at + 4) 0 < 128 = group-plain m at g in
    let s : Stands m at = stands m at k in
    drop-take (at + 8) (at + net24 m (at + 5) - (at + 8)) end m (omega (arith, e, s.head, head-of-8 m at v)) ∙ value-8 m at v

-- the same, as it is lent
pub value_lent : (m : List ℕ) (at end : ℕ) → avp_code (drop at m) ≡ 0 → end ≡ at + net24 m (at + 5) → is_group (avp_at m at).name ≡ true
    → drop (at + 8) (take (end - 0) (drop 0 m)) ≡ (avp_at m at).value
value_lent m at end k e g = let z : end - 0 ≡ end = omega arith in rw z (value-cut m at end k e g)
