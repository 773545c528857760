-- Laws of choices and of tests in order.
use mathlib.Core.Path.{◌≡◌, refl}
use mathlib.Core.Bool.{Bool, true, false}
use mathlib.Core.List.{List, ◌∷◌}
use Prim.Native.Nat.{ℕ, ◌≤◌}
use native.Mathlib.Omega.{arith}
use borrow.Author.Tests.{eqb-true, eq-eqb}
use lib.Dec.{eqb}
use Rattle.octets.specs.Choice.{pick, require, first_of}
use Rattle.octets.proofs.Lists.{by-test}

-- a choice, each side with what the test showed
pub by-pick : {A : Type 0} (P : A → Type 0) (b : Bool) {x y : A} → (b ≡ true → P x) → (b ≡ false → P y) → P (pick b x y)
unfolding pick
by-pick P true f g = f refl
by-pick P false f g = g refl

-- where no test fails the first passes, and none of the others fails
pub first_passes : (c : ℕ) (cs : List ℕ) → first_of (c ∷ cs) ≡ 0 → c ≡ 0
unfolding first_of pick
first_passes c cs h = by-test (eqb c 0) (λ e. eqb-true c 0 e) (λ e. rw e at h)

pub others-pass : (c : ℕ) (cs : List ℕ) → first_of (c ∷ cs) ≡ 0 → first_of cs ≡ 0
unfolding first_of pick
others-pass c cs h = rw (eq-eqb c 0 (first_passes c cs h)) at h

pub passed : (b : Bool) (c : ℕ) → 1 ≤ c → require b c ≡ 0 → b ≡ true
unfolding require
passed true c h e = refl
passed false c h e = absurd (omega arith)
