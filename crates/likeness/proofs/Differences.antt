-- What a comparison answers tells something exactly where it is a difference.
use mathlib.Core.Path.{◌≡◌, refl, ap, sym, ◌∙◌}
use Prim.Native.Nat.{ℕ}
use native.Mathlib.Omega.{arith}
use Rattle.std.specs.Prelude.{Result, Ok, Err}
use Rattle.std.specs.Result.{result_and}
use Rattle.likeness.specs.TheSameAnswer.{Finding}
use Rattle.likeness.specs.declared.Difference.{Difference}
use Rattle.likeness.specs.declared.Difference.TheVariants.{TooDeep, At}
use Rattle.likeness.specs.Code.{said}

pub told-something : (d : Difference) → (said (Err d)).number ≡ 0 → ⊥
unfolding said
told-something TooDeep e = omega (arith, e)
told-something (At kind at) e = omega (arith, e)

pub err-tells : (r : Result Unit Difference) (d : Difference) → r ≡ Err d → (said r).number ≡ 0 → ⊥
err-tells r d w z = told-something d (ap (λ (f : Finding). f.number) (ap said (sym w)) ∙ z)

pub ok-tells-nothing : (r : Result Unit Difference) (u : Unit) → r ≡ Ok u → (said r).number ≡ 0
unfolding said
ok-tells-nothing r u w = ap (λ (f : Finding). f.number) (ap said w)

-- of two comparisons the first that tells something
pub first-difference : {A : Type 0} (a b : Result Unit Difference) (d : Difference) → result_and a b ≡ Err d
    → (a ≡ Err d → A) → ((u : Unit) → a ≡ Ok u → b ≡ Err d → A) → A
first-difference (Ok u) b d e f g = g u refl e
first-difference (Err x) b d e f g = f e

pub neither-tells : (a b : Result Unit Difference) (u : Unit) → result_and a b ≡ Ok u → ((said a).number ≡ 0) × ((said b).number ≡ 0)
unfolding said
neither-tells (Ok v) b u e = (refl, ok-tells-nothing b u e)
neither-tells (Err x) b u e = let z : ◌≡◌ {A = ℕ} 0 1 = cc in absurd (omega arith)
