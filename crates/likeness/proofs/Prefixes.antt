-- How far two texts agree: a byte more, the first that differs, the end of either.
use mathlib.Core.Path.{◌≡◌, refl, ap, ◌∙◌}
use mathlib.Core.Bool.{Bool, true, false, ◌&&◌, and-false}
use mathlib.Core.List.{List, [], ◌∷◌}
use Prim.Native.Nat.{ℕ, suc, ◌+◌, ◌≤◌, ◌<◌}
use native.Mathlib.Omega.{arith}
use native.Mathlib.Numerals.{add-one}
use borrow.Author.Tests.{eqb-true, eqb-false, eq-eqb, ne_eqb, ltb-false, le-ltb}
use lib.Dec.{eqb, ltb}
use lib.ListN.{length, get_or, drop, drop_of_length-le}
use lib.Seq.{drop-cons}
use Rattle.octets.specs.Choice.{pick}
use Rattle.octets.specs.Texts.{same}
use Rattle.octets.proofs.Lists.{by-test}
use Rattle.octets.proofs.Texts.{same_step, same-differ}
use Rattle.likeness.specs.TheSameAnswer.{agreeing}

none_left : (t : List ℕ) → agreeing [] t ≡ 0
unfolding agreeing
none_left t = refl

none_right : (s : List ℕ) → agreeing s [] ≡ 0
unfolding agreeing
none_right [] = refl
none_right (x ∷ s) = refl

module _ (a b : List ℕ) (i : ℕ) where
  pub agree-end : length a ≤ i → agreeing (drop i a) (drop i b) ≡ 0
  agree-end h = ap (λ (s : List ℕ). agreeing s (drop i b)) (drop_of_length-le a h) ∙ none_left (drop i b)

  pub agree-short : length b ≤ i → agreeing (drop i a) (drop i b) ≡ 0
  agree-short h = ap (λ (t : List ℕ). agreeing (drop i a) t) (drop_of_length-le b h) ∙ none_right (drop i a)

  module _ (h : i < length a) (k : i < length b) where
    pub agree_differ : (get_or a i 0 ≡ get_or b i 0 → ⊥) → agreeing (drop i a) (drop i b) ≡ 0
    unfolding agreeing pick
    agree_differ e = rw (drop-cons a i 0 h, drop-cons b i 0 k, ne_eqb (get_or a i 0) (get_or b i 0) e)

    pub agree-step : get_or a i 0 ≡ get_or b i 0 → agreeing (drop i a) (drop i b) ≡ suc (agreeing (drop (i + 1) a) (drop (i + 1) b))
    unfolding agreeing pick
    agree-step e = rw (drop-cons a i 0 h, drop-cons b i 0 k, e, eq-eqb (get_or b i 0) (get_or b i 0) refl, add-one)

-- where all of the second agrees the two are the same, if the first is no longer; where not all of it does they are not
pub same-all : (s t : List ℕ) → length s ≤ length t → agreeing s t ≡ length t → same s t ≡ true
unfolding agreeing same pick
same-all [] [] h e = refl
same-all [] (y ∷ t) h e = absurd (omega arith)
same-all (x ∷ s) [] h e = absurd (omega arith)
same-all (x ∷ s) (y ∷ t) h e =
    by-test (eqb x y)
    (λ q. let f : suc (agreeing s t) ≡ suc (length t) = rw q at e in rw q (same-all s t (omega arith) (omega arith)))
    (λ q. let f : 0 ≡ suc (length t) = rw q at e in absurd (omega arith))

pub same_not : (s t : List ℕ) → agreeing s t < length t → same s t ≡ false
unfolding agreeing same pick
same_not [] [] h = absurd (omega arith)
same_not [] (y ∷ t) h = refl
same_not (x ∷ s) [] h = absurd (omega arith)
same_not (x ∷ s) (y ∷ t) h =
    by-test (eqb x y)
    (λ q. let f : suc (agreeing s t) < suc (length t) = rw q at h in rw q (same_not s t (omega arith)))
    (λ q. rw q)

-- the least of what is noted of each byte, 255 where both are the same and else 0
pub least_step : (a b : List ℕ) (i least x new : ℕ) → i < length a → i < length b → least ≤ 255 → x ≡ pick (eqb (get_or a i 0) (get_or b i 0)) 255 0 → new ≡ pick (ltb x least) x least
    → (new ≤ 255) × (eqb new 255 && same (drop (i + 1) a) (drop (i + 1) b) ≡ eqb least 255 && same (drop i a) (drop i b))
unfolding pick
least_step a b i least x new h k l e f =
    by-test (eqb (get_or a i 0) (get_or b i 0))
    (λ t.
    let v : x ≡ 255 = e ∙ rw t in
    let n : new ≡ least = f ∙ rw (le-ltb x least (omega (arith, v, l))) in
    (omega (arith, n, l), rw n (ap (λ (r : Bool). eqb least 255 && r) (same_step a b i h k (eqb-true (get_or a i 0) (get_or b i 0) t)))))
    (λ t.
    let v : x ≡ 0 = e ∙ rw t in
    let n : new ≡ 0 =
    by-test (ltb x least)
    (λ o. f ∙ rw o v)
    (λ o. let z : least ≡ 0 = omega (arith, ltb-false x least o, v) in f ∙ rw o z) in
    let d : same (drop i a) (drop i b) ≡ false = same-differ a b i h k (eqb-false (get_or a i 0) (get_or b i 0) t) in
    (omega (arith, n), rw (n, d, and-false (eqb least 255))))
