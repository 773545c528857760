-- Byte 17: one place's bit, by tests over all 256 bytes, computed once.
use mathlib.Core.Path.{◌≡◌, refl, ap}
use mathlib.Core.Bool.{Bool, true, false, ◌&&◌}
use mathlib.Core.Logic.{⊎_elim}
use Prim.Native.Nat.{ℕ, zero, suc, ◌+◌, ◌*◌, ◌/◌, ◌%◌, ◌^◌, ◌<◌}
use native.Mathlib.Nat.{le_of_suc-le-suc, eq-or-lt_of_le, not-suc-le-zero}
use borrow.Author.Tests.{eqb-true}
use lib.Bits.{bit_and, bit_or, and_mask}
use lib.Count.{ones, ones_in}
use lib.Dec.{eqb}
use Rattle.octets.specs.Choice.{pick}
use Rattle.octets.proofs.Lists.{and_left, and_right}

-- a test at every number below n
below : (ℕ → Bool) → ℕ → Bool
below f zero = true
below f (suc n) = f n && below f n

at-below : (f : ℕ → Bool) (n : ℕ) → below f n ≡ true → (k : ℕ) → k < n → f k ≡ true
unfolding below
at-below f zero t k h = absurd (not-suc-le-zero h)
at-below f (suc n) t k h =
    ⊎_elim (λ (e : k ≡ n). rw e (and_left (f n) (below f n) t))
    (λ (l : k < n). at-below f n (and_right (f n) (below f n) t) k l) (eq-or-lt_of_le (le_of_suc-le-suc h))

-- where bit k of a byte is clear, setting it adds its weight, and one to the ones
abbrev or_test : ℕ → ℕ → Bool
or_test n k = pick (eqb (n / 2 ^ k % 2) 1) true (eqb (bit_or n (1 * 2 ^ k % 256)) (n + 2 ^ k))

abbrev ones_test : ℕ → ℕ → Bool
ones_test n k = pick (eqb (n / 2 ^ k % 2) 1) true (eqb (ones (n + 2 ^ k)) (suc (ones n)))

or-all : below (λ (n : ℕ). below (or_test n) 8) 256 ≡ true
unfolding below pick
or-all = refl

ones-all : below (λ (n : ℕ). below (ones_test n) 8) 256 ≡ true
unfolding below pick ones ones_in
ones-all = refl

clear : (b c : Bool) → b ≡ false → pick b true c ≡ true → c ≡ true
unfolding pick
clear b c e t = rw e at t

pub or-adds : (x k : ℕ) → x < 256 → k < 8 → eqb (x / 2 ^ k % 2) 1 ≡ false → bit_or x (1 * 2 ^ k % 256) ≡ x + 2 ^ k
or-adds x k h l e =
    eqb-true _ _ (clear (eqb (x / 2 ^ k % 2) 1) (eqb (bit_or x (1 * 2 ^ k % 256)) (x + 2 ^ k)) e
    (at-below (or_test x) 8 (at-below (λ (n : ℕ). below (or_test n) 8) 256 or-all x h) k l))

pub ones-adds : (x k : ℕ) → x < 256 → k < 8 → eqb (x / 2 ^ k % 2) 1 ≡ false → ones (x + 2 ^ k) ≡ suc (ones x)
ones-adds x k h l e =
    eqb-true _ _ (clear (eqb (x / 2 ^ k % 2) 1) (eqb (ones (x + 2 ^ k)) (suc (ones x))) e
    (at-below (ones_test x) 8 (at-below (λ (n : ℕ). below (ones_test n) 8) 256 ones-all x h) k l))

-- the lowest bit
pub low_bit : (n : ℕ) → eqb (bit_and n 1) 1 ≡ eqb (n % 2) 1
low_bit n = ap (λ (x : ℕ). eqb x 1) (and_mask n 1)
