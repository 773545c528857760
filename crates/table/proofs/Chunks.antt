-- Rows as `chunks_exact` gives them: each comes off the front of what is left.
use mathlib.Core.Path.{◌≡◌, refl, sym, ap, ◌∙◌}
use mathlib.Core.Bool.{Bool, true, false}
use mathlib.Core.List.{List, [], ◌∷◌, ◌++◌}
use Prim.Native.Nat.{ℕ, suc, ◌+◌, ◌*◌, ◌/◌, ◌%◌, ◌≤◌, ◌<◌}
use native.Mathlib.Omega.{arith}
use lib.ListN.{length, take, drop, length-append}
use Rattle.std.proofs.Math.Seq.{take-append_seam, drop-append_seam}
use Rattle.octets.specs.Choice.{pick}
use Rattle.octets.specs.Lists.{keep}
use Rattle.octets.specs.Texts.{pieces}
use Rattle.table.specs.TheTable.{Found, row, nothing, later, first_row}
use Rattle.table.proofs.Rows.{past, past-later, past-none}
use Rattle.table.proofs.Widths.{quotient_is, rest-less, split}

module _ (w : ℕ) (wide : 0 < w) where
  -- s is x, of w bytes, and r behind it
  pub one-less : (s x r : List ℕ) → s ≡ x ++ r → length x ≡ w → length s / w ≡ suc (length r / w)
  one-less s x r e l =
      let n : length s ≡ length x + length r = ap length e ∙ length-append x r in
      quotient_is w (length s) (suc (length r / w)) (length r % w) (omega (arith, n, l, split w (length r))) (rest-less w (length r) wide)

  pub one-off : (s x r : List ℕ) → s ≡ x ++ r → length x ≡ w → pieces w (length s / w) s ≡ x ∷ pieces w (length r / w) r
  unfolding pieces
  one-off s x r e l =
      let front : take w s ≡ x = ap (take w) e ∙ ap (λ (k : ℕ). take k (x ++ r)) (sym l) ∙ take-append_seam x r in
      let back : drop w s ≡ r = ap (drop w) e ∙ ap (λ (k : ℕ). drop k (x ++ r)) (sym l) ∙ drop-append_seam x r in
      rw (one-less s x r e l, front, back)

  pub none-left : (s : List ℕ) → length s < w → length s / w ≡ 0
  none-left s h = quotient_is w (length s) 0 (length s) (omega arith) h

  module _ (f : List ℕ → Bool) where
    -- how many of those that are left pass
    unfoldable pub left : List ℕ → ℕ
    left s = length (keep f (pieces w (length s / w) s))

    pub left-all : (s : List ℕ) → left s ≡ length (keep f (pieces w (length s / w) s))
    unfolding left
    left-all s = refl

    pub left-here : (s x r : List ℕ) → s ≡ x ++ r → length x ≡ w → f x ≡ true → left s ≡ suc (left r)
    unfolding left keep pick
    left-here s x r e l h = rw (one-off s x r e l, h)

    pub left-on : (s x r : List ℕ) → s ≡ x ++ r → length x ≡ w → f x ≡ false → left s ≡ left r
    unfolding left keep pick
    left-on s x r e l h = rw (one-off s x r e l, h)

    pub left-end : (s : List ℕ) → length s < w → left s ≡ 0
    unfolding left keep pieces
    left-end s h = rw (none-left s h)

    -- the first of those that are left, behind i others, that passes
    unfoldable pub next_from : ℕ → List ℕ → Found
    next_from i s = past i (first_row f (pieces w (length s / w) s))

    pub next-all : (s : List ℕ) → next_from 0 s ≡ first_row f (pieces w (length s / w) s)
    unfolding next_from
    next-all s = past-none (first_row f (pieces w (length s / w) s))

    pub next-here : (i : ℕ) (s x r : List ℕ) → s ≡ x ++ r → length x ≡ w → f x ≡ true → next_from i s ≡ row i
    unfolding next_from first_row pick past
    next-here i s x r e l h = let q : i + 0 ≡ i = omega arith in rw (one-off s x r e l, h, q)

    pub next-on : (i : ℕ) (s x r : List ℕ) → s ≡ x ++ r → length x ≡ w → f x ≡ false → next_from (i + 1) r ≡ next_from i s
    unfolding next_from first_row pick
    next-on i s x r e l h = rw (one-off s x r e l, h) (sym (past-later i _))

    pub next-end : (i : ℕ) (s : List ℕ) → length s < w → next_from i s ≡ nothing
    unfolding next_from first_row past pieces
    next-end i s h = rw (none-left s h)
