-- The AVPs of a name from a place on: what the one that stands there adds to their number, and which of them is looked for behind it.
use mathlib.Core.Path.{◌≡◌, refl, sym, ap, ◌∙◌}
use mathlib.Core.Bool.{Bool, true, false, ◌&&◌}
use mathlib.Core.List.{List, [], ◌∷◌}
use Prim.Native.Nat.{ℕ, zero, suc, ◌+◌, ◌-◌, ◌≤◌}
use native.Mathlib.Omega.{arith}
use borrow.Author.Tests.{eqb-true}
use lib.Dec.{eqb}
use lib.ListN.{length, drop}
use lib.Seq.{drop-nil}
use Rattle.octets.specs.Choice.{pick}
use Rattle.octets.specs.Lists.{keep}
use Rattle.message.specs.ReadingAMessage.{Name, same_name, Avp, having}
use Rattle.likeness.specs.TheSameAnswer.{same_avp, first_is}
use Rattle.likeness.specs.Code.{avp_at, avps_from, named_from, next_at}
use Rattle.likeness.proofs.Places.{from-none, from-here}

-- LISTS

having-cons : (n : Name) (b : Avp) (xs : List Avp) → having n (b ∷ xs) ≡ pick (same_name n b.name) (b ∷ having n xs) (having n xs)
unfolding having keep
having-cons n b xs = refl

pub having-none : (n : Name) → having n [] ≡ []
unfolding having keep
having-none n = refl

count-pick : (t : Bool) (b : Avp) (xs : List Avp) → length (pick t (b ∷ xs) xs) ≡ pick t 1 0 + length xs
unfolding pick
count-pick true b xs = omega arith
count-pick false b xs = omega arith

first-drop : (k : ℕ) (a : Avp) → first_is (drop k []) a ≡ false
unfolding first_is
first-drop k a = rw (drop-nil {A = Avp} k)

-- the one that is looked for, and one that is passed
first-pick : (t : Bool) (k : ℕ) (b a : Avp) (xs : List Avp) → t && eqb k 0 ≡ true → first_is (drop k (pick t (b ∷ xs) xs)) a ≡ same_avp b a
unfolding pick first_is
first-pick true zero b a xs h = refl
first-pick true (suc k) b a xs h = let z : suc k ≡ 0 = eqb-true (suc k) 0 h in absurd (omega arith)
first-pick false k b a xs h = cc

first_on : (t : Bool) (k : ℕ) (b a : Avp) (xs : List Avp) → t && eqb k 0 ≡ false → first_is (drop (k - pick t 1 0) xs) a ≡ first_is (drop k (pick t (b ∷ xs) xs)) a
unfolding pick
first_on true zero b a xs h = cc
first_on true (suc k) b a xs h = let z : suc k - 1 ≡ k = omega arith in rw z
first_on false k b a xs h = let z : k - 0 ≡ k = omega arith in rw z

pub one_less : (t : Bool) (n : ℕ) → n ≡ pick t 1 0 → n ≤ 1
unfolding pick
one_less true n e = omega arith
one_less false n e = omega arith

-- AT A PLACE

module _ (n : Name) (m : List ℕ) (p : ℕ) where
  pub count_none : next_at m p ≡ 0 → named_from n m p ≡ 0
  count_none e = ap (λ (l : List Avp). length (having n l)) (from-none m p e) ∙ ap length (having-none n)

  here : (next : ℕ) → next_at m p ≡ next → (next ≡ 0 → ⊥)
      → having n (avps_from m p) ≡ pick (same_name n (avp_at m p).name) (avp_at m p ∷ having n (avps_from m next)) (having n (avps_from m next))
  here next e f = ap (having n) (from-here m p next e f) ∙ having-cons n (avp_at m p) (avps_from m next)

  module _ (next : ℕ) (e : next_at m p ≡ next) (f : next ≡ 0 → ⊥) where
    pub having-other : same_name n (avp_at m p).name ≡ false → having n (avps_from m p) ≡ having n (avps_from m next)
    unfolding pick
    having-other h = here next e f ∙ rw h

    pub having-one : same_name n (avp_at m p).name ≡ true → having n (avps_from m p) ≡ avp_at m p ∷ having n (avps_from m next)
    unfolding pick
    having-one h = here next e f ∙ rw h

  pub count-here : (next : ℕ) → next_at m p ≡ next → (next ≡ 0 → ⊥) → named_from n m p ≡ pick (same_name n (avp_at m p).name) 1 0 + named_from n m next
  count-here next e f = ap length (here next e f) ∙ count-pick (same_name n (avp_at m p).name) (avp_at m p) (having n (avps_from m next))

  module _ (a : Avp) (k : ℕ) where
    pub none-met : next_at m p ≡ 0 → first_is (drop k (having n (avps_from m p))) a ≡ false
    none-met e = ap (λ (l : List Avp). first_is (drop k l) a) (ap (having n) (from-none m p e) ∙ having-none n) ∙ first-drop k a

    module _ (next : ℕ) (e : next_at m p ≡ next) (f : next ≡ 0 → ⊥) where
      pub met-here : same_name n (avp_at m p).name && eqb k 0 ≡ true → first_is (drop k (having n (avps_from m p))) a ≡ same_avp (avp_at m p) a
      met-here h =
          ap (λ (l : List Avp). first_is (drop k l) a) (here next e f)
          ∙ first-pick (same_name n (avp_at m p).name) k (avp_at m p) a (having n (avps_from m next)) h

      pub met-on : same_name n (avp_at m p).name && eqb k 0 ≡ false
          → first_is (drop (k - pick (same_name n (avp_at m p).name) 1 0) (having n (avps_from m next))) a ≡ first_is (drop k (having n (avps_from m p))) a
      met-on h =
          first_on (same_name n (avp_at m p).name) k (avp_at m p) a (having n (avps_from m next)) h
          ∙ sym (ap (λ (l : List Avp). first_is (drop k l) a) (here next e f))
