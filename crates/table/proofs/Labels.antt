-- Labels without regard to case: two are the same exactly if they are equal in lower case, so that "the same" groups labels;
-- and the steps of a comparison byte by byte.
use mathlib.Core.Path.{◌≡◌, refl, sym, ap, ◌∙◌}
use mathlib.Core.Bool.{true, false, ◌&&◌, ◌||◌}
use mathlib.Core.List.{List, map}
use Prim.Native.Nat.{ℕ, ◌+◌, ◌≤◌, ◌<◌}
use native.Mathlib.Numerals.{add-one}
use native.Mathlib.Omega.{arith}
use borrow.Author.Tests.{eqb-true, eqb-false, eq-eqb, ne_eqb, lt-leb, le-leb}
use lib.Dec.{eqb}
use lib.ListN.{length, get_or, drop, drop_of_length-le, length-map}
use lib.Seq.{drop-cons}
use Rattle.octets.specs.Choice.{pick, within}
use Rattle.octets.specs.Texts.{same}
use Rattle.octets.proofs.Lists.{by-test, same_refl, same-eq, within_low, within-high, in_within, eqb_comm}
use Rattle.octets.proofs.Texts.{same-lengths}
use Rattle.table.specs.Soundness.{lower_case, same_label}

-- ONE BYTE

pub upper : (x : ℕ) → 65 ≤ x → x ≤ 90 → lower_case x ≡ x + 32
unfolding lower_case pick
upper x l h = rw (in_within 65 90 x l h)

pub below : (x : ℕ) → x < 65 → lower_case x ≡ x
unfolding lower_case pick within
below x h = rw (lt-leb 65 x h)

pub above : (x : ℕ) → 90 < x → lower_case x ≡ x
unfolding lower_case pick within
above x h = rw (le-leb 65 x (omega arith), lt-leb x 90 h)

-- ALIKE: REFLEXIVE, SYMMETRIC, TRANSITIVE

pub label-refl : (a : List ℕ) → same_label a a ≡ true
unfolding same_label
label-refl a = same_refl (map lower_case a)

pub label-sym : (a b : List ℕ) → same_label a b ≡ true → same_label b a ≡ true
unfolding same_label
label-sym a b h = rw (same-eq (map lower_case a) (map lower_case b) h) (same_refl (map lower_case b))

pub label-trans : (a b c : List ℕ) → same_label a b ≡ true → same_label b c ≡ true → same_label a c ≡ true
unfolding same_label
label-trans a b c h k = rw (same-eq (map lower_case a) (map lower_case b) h) k

-- one in place of the other gives the same answer
pub label-alike : (a b c : List ℕ) → same_label a b ≡ true → same_label a c ≡ same_label b c
unfolding same_label
label-alike a b c h = rw (same-eq (map lower_case a) (map lower_case b) h)

-- labels of equal bytes are the same
pub label-bytes-same : (a b : List ℕ) → same a b ≡ true → same_label a b ≡ true
label-bytes-same a b h = rw (same-eq a b h) (label-refl b)

-- BYTE BY BYTE

-- a letter A to Z is none of the others
apart : (x y : ℕ) → within 65 90 x ≡ true → within 65 90 y ≡ false → x ≡ y → ⊥
apart x y p q e = let z : ◌≡◌ {A = ℕ} 0 1 = cc (sym (ap (within 65 90) e) ∙ p) in omega arith

-- two bytes are alike if they are equal, or the two cases of one of the 26 letters
pub bytes-alike : (x y : ℕ) → eqb (lower_case x) (lower_case y) ≡ eqb x y || (within 65 90 x && eqb y (x + 32) || within 65 90 y && eqb x (y + 32))
unfolding lower_case pick
bytes-alike x y =
    by-test (within 65 90 x)
    (λ p. by-test (within 65 90 y)
    (λ q. rw (p, q, ne_eqb y (x + 32) (λ e. omega (arith, within_low 65 90 x p, within-high 65 90 y q)), ne_eqb x (y + 32) (λ e. omega (arith, within-high 65 90 x p, within_low 65 90 y q)))
    (by-test (eqb x y) (λ e. rw (e, eq-eqb (x + 32) (y + 32) (omega (arith, eqb-true x y e)))) (λ e. rw (e, ne_eqb (x + 32) (y + 32) (λ d. eqb-false x y e (omega arith))))))
    (λ q. rw (p, q, ne_eqb x y (apart x y p q), eqb_comm (x + 32) y) (by-test (eqb y (x + 32)) (λ e. rw e) (λ e. rw e))))
    (λ p. by-test (within 65 90 y)
    (λ q. rw (p, q, ne_eqb x y (λ e. apart y x q p (sym e))))
    (λ q. rw (p, q) (by-test (eqb x y) (λ e. rw e) (λ e. rw e))))

-- one byte more, and the end
pub label-step : (a b : List ℕ) (i : ℕ) → i < length a → i < length b → lower_case (get_or a i 0) ≡ lower_case (get_or b i 0)
    → same_label (drop (i + 1) a) (drop (i + 1) b) ≡ same_label (drop i a) (drop i b)
unfolding same_label same
label-step a b i h k e =
    rw (drop-cons a i 0 h, drop-cons b i 0 k, e, eq-eqb (lower_case (get_or b i 0)) (lower_case (get_or b i 0)) refl, add-one)

pub label-differ : (a b : List ℕ) (i : ℕ) → i < length a → i < length b → (lower_case (get_or a i 0) ≡ lower_case (get_or b i 0) → ⊥)
    → same_label (drop i a) (drop i b) ≡ false
unfolding same_label same
label-differ a b i h k e =
    rw (drop-cons a i 0 h, drop-cons b i 0 k, ne_eqb (lower_case (get_or a i 0)) (lower_case (get_or b i 0)) e)

pub label-end : (a b : List ℕ) (i : ℕ) → length a ≤ i → length b ≤ i → same_label (drop i a) (drop i b) ≡ true
unfolding same_label same
label-end a b i h k = rw (drop_of_length-le a h, drop_of_length-le b k)

-- labels of different lengths are never the same
pub label-lengths : (a b : List ℕ) → (length a ≡ length b → ⊥) → same_label a b ≡ false
unfolding same_label
label-lengths a b h = same-lengths (map lower_case a) (map lower_case b) (λ e. h (sym (length-map a lower_case) ∙ e ∙ length-map b lower_case))
