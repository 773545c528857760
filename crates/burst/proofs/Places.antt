-- Places for results: one that is written, in the list of what all of them say.
use mathlib.Core.Path.{◌≡◌, refl, ap}
use mathlib.Core.List.{List, [], ◌∷◌, ◌++◌, map}
use Prim.Native.Nat.{ℕ, zero, suc, ◌<◌}
use native.Mathlib.Omega.{arith}
use lib.ListN.{length, take, drop, set}

module _ {A B : Type 0} (f : A → B) where
  pub map-set : (s : List A) (i : ℕ) (e : A) → map f (set s i e) ≡ set (map f s) i (f e)
  map-set [] i e = refl
  map-set (x ∷ s) zero e = refl
  map-set (x ∷ s) (suc i) e = ap {B = List B} (λ t. f x ∷ t) (map-set s i e)

module _ {A : Type 0} where
  -- what stands before it and behind it stays
  pub set_is : (s : List A) (i : ℕ) (e : A) → i < length s → set s i e ≡ take i s ++ (e ∷ drop 1 (drop i s))
  set_is [] i e h = absurd (omega (arith, h))
  set_is (x ∷ s) zero e h = refl
  set_is (x ∷ s) (suc i) e h = ap {B = List A} (λ t. x ∷ t) (set_is s i e (omega (arith, h)))
