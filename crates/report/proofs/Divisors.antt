-- The greatest common divisor: how Euclid's steps go on, that it divides both, and that every common divisor divides it; and numbers in lowest terms.
use mathlib.Core.Path.{◌≡◌, refl, sym, ap, ◌∙◌}
use Prim.Native.Nat.{ℕ, zero, suc, ◌*◌, ◌/◌, ◌%◌, ◌<◌, ◌∣◌}
use native.Mathlib.Nat.{dvd_refl, dvd-zero, dvd-mod_iff, mod-lt, pos_of_ne-zero, pos_of_dvd_of_pos, div-mul_cancel, mul-dvd-mul_right, dvd_of_mul-dvd-mul_right, eq-one_of_dvd-one, one-mul, mul_left_comm}
use native.Mathlib.Omega.{arith}
use borrow.Author.Tests.{eqb-true, eqb-false, eq-eqb, ne_eqb}
use lib.Dec.{eqb}
use Rattle.octets.specs.Choice.{pick}
use Rattle.octets.proofs.Lists.{by-test}
use Rattle.report.specs.Rates.{divisor_by, divisor}

by_zero : (n a b : ℕ) → b ≡ 0 → divisor_by n a b ≡ a
unfolding divisor_by pick
by_zero zero a b e = refl
by_zero (suc n) a b e = rw (eq-eqb b 0 e)

by-step : (n a b : ℕ) → (b ≡ 0 → ⊥) → divisor_by (suc n) a b ≡ divisor_by n b (a % b)
unfolding divisor_by pick
by-step n a b e = rw (ne_eqb b 0 e)

left_over : (a b : ℕ) → (b ≡ 0 → ⊥) → a % b < b
left_over a b e = mod-lt a (pos_of_ne-zero e)

-- more steps than the second number change nothing
enough : (n m a b : ℕ) → b < n → b < m → divisor_by n a b ≡ divisor_by m a b
enough zero m a b p q = absurd (omega arith)
enough (suc n) zero a b p q = absurd (omega arith)
enough (suc n) (suc m) a b p q =
    by-test (eqb b 0)
    (λ e. by_zero (suc n) a b (eqb-true b 0 e) ∙ sym (by_zero (suc m) a b (eqb-true b 0 e)))
    (λ e.
    let d : b ≡ 0 → ⊥ = eqb-false b 0 e in
    by-step n a b d
    ∙ enough n m b (a % b) (omega (arith, left_over a b d)) (omega (arith, left_over a b d))
    ∙ sym (by-step m a b d))

pub divisor-end : (a b : ℕ) → b ≡ 0 → divisor a b ≡ a
unfolding divisor
divisor-end a b e = by_zero (suc b) a b e

pub divisor-step : (a b : ℕ) → (b ≡ 0 → ⊥) → divisor b (a % b) ≡ divisor a b
unfolding divisor
divisor-step a b e =
    sym (by-step b a b e ∙ enough b (suc (a % b)) b (a % b) (left_over a b e) (omega arith))

-- it divides both
both_by : (n a b : ℕ) → b < n → (divisor_by n a b ∣ a) × (divisor_by n a b ∣ b)
both_by zero a b p = absurd (omega arith)
both_by (suc n) a b p =
    by-test (eqb b 0)
    (λ e.
    let z : b ≡ 0 = eqb-true b 0 e in
    rw (by_zero (suc n) a b z, z) (dvd_refl a, dvd-zero a))
    (λ e.
    let d : b ≡ 0 → ⊥ = eqb-false b 0 e in
    let s : (divisor_by n b (a % b) ∣ b) × (divisor_by n b (a % b) ∣ a % b) = both_by n b (a % b) (omega (arith, left_over a b d)) in
    rw (by-step n a b d) ((dvd-mod_iff (divisor_by n b (a % b)) s.0).0 s.1, s.0))

pub divides : (a b : ℕ) → (divisor a b ∣ a) × (divisor a b ∣ b)
unfolding divisor
divides a b = both_by (suc b) a b (omega arith)

-- what divides both divides it
greatest-by : (n a b d : ℕ) → d ∣ a → d ∣ b → d ∣ divisor_by n a b
unfolding divisor_by
greatest-by zero a b d p q = p
greatest-by (suc n) a b d p q =
    by-test (eqb b 0)
    (λ e. rw (by_zero (suc n) a b (eqb-true b 0 e)) p)
    (λ e. rw (by-step n a b (eqb-false b 0 e)) (greatest-by n b (a % b) d q ((dvd-mod_iff d q).1 p)))

pub greatest : (a b d : ℕ) → d ∣ a → d ∣ b → d ∣ divisor a b
unfolding divisor
greatest a b d p q = greatest-by (suc b) a b d p q

-- LOWEST TERMS, of a and b with b not 0

module _ (a b : ℕ) (some : 0 < b) where
  pub positive : 0 < divisor a b
  positive = pos_of_dvd_of_pos (divides a b).1 some

  whole-a : a / divisor a b * divisor a b ≡ a
  whole-a = div-mul_cancel (divisor a b) (divides a b).0

  whole-b : b / divisor a b * divisor a b ≡ b
  whole-b = div-mul_cancel (divisor a b) (divides a b).1

  pub no-common : (d : ℕ) → d ∣ a / divisor a b → d ∣ b / divisor a b → d ≡ 1
  no-common d p q =
      let u : d * divisor a b ∣ a = rw whole-a at (mul-dvd-mul_right d p (divisor a b)) in
      let v : d * divisor a b ∣ b = rw whole-b at (mul-dvd-mul_right d q (divisor a b)) in
      let w : d * divisor a b ∣ 1 * divisor a b = rw (one-mul (divisor a b)) (greatest a b (d * divisor a b) u v) in
      eq-one_of_dvd-one (dvd_of_mul-dvd-mul_right d positive w)

  pub same-ratio : a / divisor a b * b ≡ b / divisor a b * a
  same-ratio =
      let g : ℕ = divisor a b in
      let x : ℕ = a / g in
      let y : ℕ = b / g in
      ap (λ (n : ℕ). x * n) (sym whole-b) ∙ mul_left_comm x y g ∙ ap (λ (n : ℕ). y * n) whole-a
