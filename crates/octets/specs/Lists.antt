-- Tests and choices over lists.
use Rattle.std.specs.Prelude.{Bool, true, ◌&&◌, not, List, [], ◌∷◌, ℕ, zero, suc, ◌+◌, eqb}
use Rattle.octets.specs.Choice.{pick}

module _ {A : Type 0} where
  -- Every element passes.
  unfoldable pub every : (A → Bool) → List A → Bool
  every f [] = true
  every f (x ∷ xs) = f x && every f xs

  -- Those that pass, in their order.
  unfoldable pub keep : (A → Bool) → List A → List A
  keep f [] = []
  keep f (x ∷ xs) = pick (f x) (x ∷ keep f xs) (keep f xs)

  -- No two are the same.
  unfoldable pub distinct : (A → A → Bool) → List A → Bool
  distinct e [] = true
  distinct e (x ∷ xs) = every (λ y. not (e x y)) xs && distinct e xs

-- The first number of a list; where there is none, the number given.
unfoldable pub first_or : ℕ → List ℕ → ℕ
first_or n [] = n
first_or n (x ∷ xs) = x

unfoldable pub sum_of : List ℕ → ℕ
sum_of [] = 0
sum_of (x ∷ xs) = x + sum_of xs

-- n numbers counted up from a.
unfoldable pub counted : ℕ → ℕ → List ℕ
counted a zero = []
counted a (suc n) = a ∷ counted (suc a) n

-- k stands in the list.
unfoldable pub is_on : List ℕ → ℕ → Bool
is_on l k = not (every (λ x. not (eqb x k)) l)

-- What stands before the first zero.
unfoldable pub up_to0 : List ℕ → List ℕ
up_to0 [] = []
up_to0 (x ∷ xs) = pick (eqb x 0) [] (x ∷ up_to0 xs)
