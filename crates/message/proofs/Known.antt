-- Which AVPs are known: a number that is one of the keys of a `match`, or none of them, looked up among the known names.
use mathlib.Core.Path.{◌≡◌, refl, sym}
use mathlib.Core.Bool.{Bool, true, false, not}
use mathlib.Core.Logic.{inl, inr}
use mathlib.Core.List.{List, [], ◌∷◌}
use Prim.Native.Nat.{ℕ}
use types.Run.{OneOf}
use borrow.Author.Tests.{ne_eqb}
use lib.Dec.{eqb}
use Rattle.octets.specs.Lists.{every, is_on}
use Rattle.octets.proofs.Lists.{by-test, and_left, and_right}
use Rattle.message.specs.ReadingAMessage.{Name, same_name, known_avps, is_one_of, known}
use Rattle.message.proofs.Gathering.{same-name-eq}

-- NUMBERS AND NAMES

-- what holds for each of them holds for one of them
pub key-holds : (f : ℕ → Bool) (ks : List ℕ) (x : ℕ) → every f ks ≡ true → OneOf ks x → f x ≡ true
unfolding every
key-holds f [] x a e = absurd e
key-holds f (k ∷ []) x a e = rw e (and_left (f k) true a)
key-holds f (k ∷ (j ∷ ks)) x a (inl e) = rw e (and_left (f k) (every f (j ∷ ks)) a)
key-holds f (k ∷ (j ∷ ks)) x a (inr r) = key-holds f (j ∷ ks) x (and_right (f k) (every f (j ∷ ks)) a) r

others : (ks : List ℕ) (x : ℕ) → (OneOf ks x → ⊥) → every (λ k. not (eqb k x)) ks ≡ true
unfolding every
others [] x h = refl
others (k ∷ []) x h = rw (ne_eqb k x (λ e. h (sym e)))
others (k ∷ (j ∷ ks)) x h = rw (ne_eqb k x (λ e. h (inl (sym e)))) (others (j ∷ ks) x (λ r. h (inr r)))

pub no_key : (ks : List ℕ) (x : ℕ) → (OneOf ks x → ⊥) → is_on ks x ≡ false
unfolding is_on
no_key ks x h = rw (others ks x h)

name-holds : (f : Name → Bool) (ns : List Name) (n : Name) → every f ns ≡ true → is_one_of ns n ≡ true → f n ≡ true
unfolding every is_one_of
name-holds f [] n a e = cc
name-holds f (k ∷ ks) n a e =
    by-test (same_name k n)
    (λ t. rw (same-name-eq k n t) at (and_left (f k) (every f ks) a))
    (λ t. name-holds f ks n (and_right (f k) (every f ks) a) (rw t at e))

-- a name is not known if it lacks what all known names have
pub not_known_lem : (f : Name → Bool) (n : Name) → every f known_avps ≡ true → f n ≡ false → known n ≡ false
unfolding known
not_known_lem f n a e = by-test (is_one_of known_avps n) (λ t. let z = name-holds f known_avps n a t in cc) (λ t. t)
