-- Bytes and rows of one width. The width is not a numeral, so that `omega` knows nothing of `/` and `%` by it: these laws say what they are.
use mathlib.Core.Path.{◌≡◌, sym, ap, ◌∙◌}
use Prim.Native.Nat.{ℕ, ◌+◌, ◌*◌, ◌/◌, ◌%◌, ◌≤◌, ◌<◌}
use native.Mathlib.Nat.{div-add-mod, mod-lt, mul_comm, mul-le-mul_left}
use native.Mathlib.Omega.{arith}
use borrow.Author.Tests.{ltb-true, ltb-false}
use lib.Arith.{digits_div, digits_mod}
use lib.Dec.{ltb}
use Rattle.octets.proofs.Lists.{by-test}

module _ (w : ℕ) where
  -- a number of bytes is whole rows, and a rest of less than a row
  pub split : (x : ℕ) → x ≡ w * (x / w) + x % w
  split x = sym (div-add-mod x w)

  pub rest-less : (x : ℕ) → 0 < w → x % w < w
  rest-less x h = mod-lt x h

  -- k rows and o bytes
  pub quotient_is : (x k o : ℕ) → x ≡ w * k + o → o < w → x / w ≡ k
  quotient_is x k o e h = ap (λ (y : ℕ). y / w) (e ∙ ap (λ (y : ℕ). y + o) (mul_comm w k)) ∙ digits_div k h

  pub rest-is : (x k o : ℕ) → x ≡ w * k + o → o < w → x % w ≡ o
  rest-is x k o e h = ap (λ (y : ℕ). y % w) (e ∙ ap (λ (y : ℕ). y + o) (mul_comm w k)) ∙ digits_mod k h

  -- one row more; v is the width as the code has it
  pub one-row-on : (x v : ℕ) → v ≡ w → 0 < w → ((x + v) / w ≡ x / w + 1) × ((x + v) % w ≡ x % w)
  one-row-on x v s h =
      let e : x + v ≡ w * (x / w + 1) + x % w = omega (arith, split x, s) in
      (quotient_is (x + v) (x / w + 1) (x % w) e (rest-less x h), rest-is (x + v) (x / w + 1) (x % w) e (rest-less x h))

  -- more rows have more bytes, and the other way round
  pub rows-order : (i n : ℕ) → i ≤ n → w * i ≤ w * n
  rows-order i n h = mul-le-mul_left w h

  pub fewer-rows : (i n o : ℕ) → w * i + o < w * n → i < n
  fewer-rows i n o h =
      by-test (ltb i n)
      (λ e. ltb-true i n e)
      (λ e. absurd (omega (arith, rows-order n i (ltb-false i n e))))
