-- What the loops over a list of entries keep: what is said of the first entries, step by step, and what one entry says of the whole list.
use mathlib.Core.Path.{◌≡◌, refl}
use mathlib.Core.Bool.{Bool, true}
use mathlib.Core.List.{List, [], ◌∷◌, ◌++◌}
use Prim.Native.Nat.{ℕ, zero, suc, ◌+◌, ◌≤◌, ◌<◌}
use native.Mathlib.Numerals.{add-one}
use native.Mathlib.Omega.{arith}
use lib.ListN.{length, get_or, take}
use lib.Seq.{take-suc}
use Rattle.octets.specs.Lists.{every}
use Rattle.octets.proofs.Lists.{and_left, and_right, every_append, every_one, within-high}
use Rattle.screen.specs.TheBoard.{sized}
use Rattle.screen.specs.Code.{none}
use Rattle.screen.specs.declared.Screen.{Screen}

-- the first entries, and one more
pub one_more : {A : Type 0} (d : A) (l : List A) (i : ℕ) → i < length l → take (i + 1) l ≡ take i l ++ (get_or l i d ∷ [])
one_more d l i h = rw add-one (take-suc l i d h)

module _ {A : Type 0} (f : A → Bool) (d : A) where
  -- an entry of a list that passes, passes
  pub every-at : (l : List A) (i : ℕ) → i < length l → every f l ≡ true → f (get_or l i d) ≡ true
  unfolding every
  every-at [] i h e = absurd (omega arith)
  every-at (x ∷ l) zero h e = and_left (f x) (every f l) e
  every-at (x ∷ l) (suc i) h e = every-at l i (omega arith) (and_right (f x) (every f l) e)

  pub every-begun : (l : List A) → every f (take 0 l) ≡ true
  unfolding every
  every-begun l = refl

  pub every-step : (l : List A) (i : ℕ) → i < length l → every f (take i l) ≡ true → f (get_or l i d) ≡ true → every f (take (i + 1) l) ≡ true
  every-step l i h e p = rw (one_more d l i h) (every_append f (take i l) (get_or l i d ∷ []) e (every_one f (get_or l i d) p))

-- the length of a Session-Id on a list of which all are right
pub size-at : (l : List Screen) (i : ℕ) → i < length l → every sized l ≡ true → (get_or l i none).size ≤ 128
unfolding sized
size-at l i h e = within-high 1 128 (get_or l i none).size (every-at sized none l i h e)
