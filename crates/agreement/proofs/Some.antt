-- Laws of `some`: whether one of a list passes.
use mathlib.Core.Path.{◌≡◌, refl, sym}
use mathlib.Core.Bool.{Bool, true, false, ◌||◌, not}
use mathlib.Core.List.{List, [], ◌∷◌, ◌++◌}
use Prim.Native.Nat.{ℕ, zero, suc, ◌+◌, ◌<◌, ◌≤◌}
use native.Mathlib.Omega.{arith}
use borrow.Author.Tests.{not-true}
use lib.ListN.{length, get_or, set}
use Rattle.octets.specs.Choice.{pick}
use Rattle.octets.specs.Lists.{every, keep}
use Rattle.octets.proofs.Lists.{and_left, and_right, by-test, keep-none}
use Rattle.agreement.specs.TheBoardAgrees.{some}

-- TESTS

-- what can not be, since one test would pass and fail
pub not-both : {P : Type 0} (b : Bool) → b ≡ true → b ≡ false → P
not-both b p q = let z : ◌≡◌ {A = ℕ} 0 1 = cc in absurd (omega arith)

or_swap : (a b c : Bool) → a || (b || c) ≡ b || (a || c)
or_swap true true c = refl
or_swap true false c = refl
or_swap false b c = refl

or_split : (a b c : Bool) → (a || b) || c ≡ a || (b || c)
or_split true b c = refl
or_split false b c = refl

pub or-false : (a : Bool) → a || false ≡ a
or-false true = refl
or-false false = refl

or_left : (a b : Bool) → a || b ≡ false → a ≡ false
or_left true b e = e
or_left false b e = refl

or_right : (a b : Bool) → a || b ≡ false → b ≡ false
or_right true b e = not-both true refl e
or_right false b e = e

-- one test implies another
pub below : (a b : Bool) → (a ≡ true → b ≡ true) → b ≡ false → a ≡ false
below true b f e = not-both b (f refl) e
below false b f e = refl

module _ {A : Type 0} where
  pub some-append : (f : A → Bool) (xs ys : List A) → some f (xs ++ ys) ≡ some f xs || some f ys
  unfolding some
  some-append f [] ys = refl
  some-append f (x ∷ xs) ys = rw (some-append f xs ys) (sym (or_split (f x) (some f xs) (some f ys)))

  pub some_one : (f : A → Bool) (y : A) → some f (y ∷ []) ≡ f y
  unfolding some
  some_one f y = or-false (f y)

  -- none passes
  pub some-none : (f g : A → Bool) (xs : List A) → ((x : A) → f x ≡ true → g x ≡ true) → every (λ x. not (g x)) xs ≡ true → some f xs ≡ false
  unfolding some every
  some-none f g [] i h = refl
  some-none f g (x ∷ xs) i h =
      let no : f x ≡ false = below (f x) (g x) (i x) (not-true (g x) (and_left (not (g x)) _ h)) in
      rw no (some-none f g xs i (and_right (not (g x)) _ h))

  -- one passes where one that is stronger does
  pub some-imp : (f g : A → Bool) (xs : List A) → ((x : A) → f x ≡ true → g x ≡ true) → some f xs ≡ true → some g xs ≡ true
  unfolding some
  some-imp f g [] i h = h
  some-imp f g (x ∷ xs) i h =
      by-test (f x)
      (λ e. rw (i x e))
      (λ e. by-test (g x) (λ d. rw d) (λ d. rw d (some-imp f g xs i (rw e at h))))

  -- of those kept: as before where all that pass are kept, none where none is
  pub some-kept : (f g : A → Bool) (xs : List A) → ((x : A) → f x ≡ true → g x ≡ true) → some f (keep g xs) ≡ some f xs
  unfolding some keep pick
  some-kept f g [] i = refl
  some-kept f g (x ∷ xs) i =
      by-test (g x)
      (λ e. rw (e, some-kept f g xs i))
      (λ e. let no : f x ≡ false = below (f x) (g x) (i x) e in rw (e, no) (some-kept f g xs i))

  pub some-gone : (f g : A → Bool) (xs : List A) → ((x : A) → f x ≡ true → g x ≡ false) → some f (keep g xs) ≡ false
  unfolding some keep pick
  some-gone f g [] i = refl
  some-gone f g (x ∷ xs) i =
      by-test (g x)
      (λ e. by-test (f x) (λ d. not-both (g x) e (i x d)) (λ d. rw (e, d) (some-gone f g xs i)))
      (λ e. rw e (some-gone f g xs i))

  -- none passes a test, if for no number one passes a stronger one
  pub some-any : (f : ℕ → A → Bool) (g : A → Bool) (xs : List A) → ((x : A) → ((k : ℕ) → f k x ≡ false) → g x ≡ false)
      → ((k : ℕ) → some (f k) xs ≡ false) → some g xs ≡ false
  unfolding some
  some-any f g [] i h = refl
  some-any f g (x ∷ xs) i h =
      let own : g x ≡ false = i x (λ k. or_left (f k x) (some (f k) xs) (h k)) in
      rw own (some-any f g xs i (λ k. or_right (f k x) (some (f k) xs) (h k)))

  -- some of a list, by one of its elements and the others
  unfoldable pub others : List A → ℕ → List A
  others [] i = []
  others (x ∷ xs) zero = xs
  others (x ∷ xs) (suc i) = x ∷ others xs i

  pub some_at : (f : A → Bool) (xs : List A) (i : ℕ) (d : A) → i < length xs → some f xs ≡ f (get_or xs i d) || some f (others xs i)
  unfolding some others
  some_at f [] i d h = absurd (omega arith)
  some_at f (x ∷ xs) zero d h = refl
  some_at f (x ∷ xs) (suc i) d h =
      rw (some_at f xs i d (omega arith)) (or_swap (f x) (f (get_or xs i d)) (some f (others xs i)))

  pub count_at : (f : A → Bool) (xs : List A) (i : ℕ) (d : A) → i < length xs
      → length (keep f xs) ≡ pick (f (get_or xs i d)) 1 0 + length (keep f (others xs i))
  unfolding keep others pick
  count_at f [] i d h = absurd (omega arith)
  count_at f (x ∷ xs) zero d h = by-test (f x) (λ e. rw e (omega arith)) (λ e. rw e (omega arith))
  count_at f (x ∷ xs) (suc i) d h =
      let r : length (keep f xs) ≡ pick (f (get_or xs i d)) 1 0 + length (keep f (others xs i)) = count_at f xs i d (omega arith) in
      by-test (f x) (λ e. rw e (omega (arith, r))) (λ e. rw e r)

  pub others-set : (xs : List A) (i : ℕ) (y : A) → others (set xs i y) i ≡ others xs i
  unfolding others
  others-set [] i y = refl
  others-set (x ∷ xs) zero y = refl
  others-set (x ∷ xs) (suc i) y = rw (others-set xs i y)

  -- where no two pass, and one does, none of the others does
  pub alone : (f g : A → Bool) (xs : List A) (i : ℕ) (d : A) → ((x : A) → f x ≡ true → g x ≡ true) → i < length xs
      → length (keep g xs) ≤ 1 → g (get_or xs i d) ≡ true → some f (others xs i) ≡ false
  unfolding pick
  alone f g xs i d imp h once own =
      let c : length (keep g xs) ≡ 1 + length (keep g (others xs i)) = rw own at (count_at g xs i d h) in
      some-none f g (others xs i) imp (keep-none g (others xs i) (omega (arith, c, once)))
