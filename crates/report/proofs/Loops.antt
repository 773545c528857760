-- What the loops over a list of results and over the hours keep: what is left has the same answer as the whole.
use mathlib.Core.Path.{◌≡◌, refl, sym, ap, ◌∙◌}
use mathlib.Core.Bool.{true, false}
use mathlib.Core.List.{List, [], ◌∷◌, map}
use Prim.Native.Nat.{ℕ, suc, ◌+◌, ◌-◌, ◌≤◌, ◌<◌}
use native.Mathlib.Numerals.{add-one}
use native.Mathlib.Omega.{arith}
use borrow.Author.Tests.{lt-ltb, le-ltb, ltb-true, ltb-false}
use lib.Dec.{ltb}
use lib.ListN.{length, get_or, drop, drop_of_length-le, length-map}
use lib.Seq.{drop-cons}
use Rattle.octets.specs.Choice.{pick}
use Rattle.octets.specs.Lists.{every, sum_of, counted}
use Rattle.octets.proofs.Lists.{by-test}
use Rattle.report.specs.TheReport.{in_column, how_many, hour_right, total, hours, year, in64}
use Rattle.report.specs.Code.{told_of, told_by, adds, summed}
use Rattle.std.specs.Prelude.{Some, None}
use Rattle.std.specs.Option.{is_some}
use Rattle.report.proofs.Counting.{many-cons, many-none, many-most}

module _ (s : List (List ℕ)) (i : ℕ) where
  -- the next result, and those behind it
  pub next : i < length s → told_by (drop i s) ≡ told_of (get_or s i []) ∷ told_by (drop (i + 1) s)
  unfolding told_by
  next h = rw (add-one, drop-cons s i [] h)

  pub none_left : length s ≤ i → told_by (drop i s) ≡ []
  unfolding told_by
  none_left h = rw (drop_of_length-le s {i = i} h)

  pub hours-step : i < length s → get_or (get_or s i []) 0 0 ≤ 23 → every hour_right (told_by (drop (i + 1) s)) ≡ every hour_right (told_by (drop i s))
  unfolding every hour_right told_of
  hours-step h e = rw (next h, lt-ltb (get_or (get_or s i []) 0 0) 24 (omega arith))

  pub hours-wrong : i < length s → 23 < get_or (get_or s i []) 0 0 → every hour_right (told_by (drop i s)) ≡ false
  unfolding every hour_right told_of
  hours-wrong h e = rw (next h, le-ltb (get_or (get_or s i []) 0 0) 24 (omega arith))

  pub hours-end : length s ≤ i → every hour_right (told_by (drop i s)) ≡ true
  unfolding every
  hours-end h = rw (none_left h)

  pub count-step : (k : ℕ) → i < length s
      → how_many (in_column k) (told_by (drop i s)) ≡ adds k (told_of (get_or s i [])) + how_many (in_column k) (told_by (drop (i + 1) s))
  unfolding adds
  count-step k h = rw (next h) (many-cons (in_column k) (told_of (get_or s i [])) (told_by (drop (i + 1) s)))

  pub count-end : (k : ℕ) → length s ≤ i → how_many (in_column k) (told_by (drop i s)) ≡ 0
  count-end k h = rw (none_left h) (many-none (in_column k))

-- no column has more than the whole list
pub column-most : (s : List (List ℕ)) (k : ℕ) → how_many (in_column k) (told_by s) ≤ length s
unfolding told_by
column-most s k = omega (arith, many-most (in_column k) (map told_of s), length-map s told_of)

-- THE HOURS OF A YEAR

module _ (r : List ℕ) (k : ℕ) where
  abbrev pub from_hour : ℕ → ℕ
  from_hour h = sum_of (map (λ i. total r i k) (counted h (24 - h)))

  pub year-start : from_hour 0 ≡ year r k
  unfolding year hours
  year-start = refl

  one_more : (h n : ℕ) → sum_of (map (λ i. total r i k) (counted h (suc n))) ≡ total r h k + sum_of (map (λ i. total r i k) (counted (h + 1) n))
  unfolding counted sum_of
  one_more h n = rw add-one

  no_more : (h : ℕ) → sum_of (map (λ i. total r i k) (counted h 0)) ≡ 0
  unfolding counted sum_of
  no_more h = refl

  pub year-step : (h : ℕ) → h < 24 → from_hour h ≡ total r h k + from_hour (h + 1)
  year-step h q =
      let a : 24 - h ≡ suc (24 - (h + 1)) = omega arith in
      ap (λ (n : ℕ). sum_of (map (λ i. total r i k) (counted h n))) a ∙ one_more h (24 - (h + 1))

  pub year-end : (h : ℕ) → 24 ≤ h → from_hour h ≡ 0
  year-end h q =
      let a : 24 - h ≡ 0 = omega arith in
      ap (λ (n : ℕ). sum_of (map (λ i. total r i k) (counted h n))) a ∙ no_more h

-- A SUM IN 64 BITS

pub in-bits : (n : ℕ) → n < 18446744073709551616 → in64 n ≡ true
unfolding in64
in-bits n h = lt-ltb n 18446744073709551616 h

pub past-bits : (n : ℕ) → 18446744073709551616 ≤ n → in64 n ≡ false
unfolding in64
past-bits n h = le-ltb n 18446744073709551616 h

pub was-in : (n : ℕ) → in64 n ≡ true → n < 18446744073709551616
unfolding in64
was-in n e = ltb-true n 18446744073709551616 e

pub was-past : (n : ℕ) → in64 n ≡ false → 18446744073709551616 ≤ n
unfolding in64
was-past n e = ltb-false n 18446744073709551616 e

pub is_sum : (n : ℕ) → n < 18446744073709551616 → Some n ≡ summed n
unfolding summed in64 pick
is_sum n h = rw (lt-ltb n 18446744073709551616 h)

pub is-passed : (n : ℕ) → 18446744073709551616 ≤ n → None ≡ summed n
unfolding summed in64 pick
is-passed n h = rw (le-ltb n 18446744073709551616 h)

pub was-sum : (n v : ℕ) → summed n ≡ Some v → (n < 18446744073709551616) × (v ≡ n)
unfolding summed in64 pick
was-sum n v e =
    by-test (ltb n 18446744073709551616)
    (λ t. let s : Some n ≡ Some v = rw t at e in (ltb-true n 18446744073709551616 t, cc))
    (λ t. let s : None ≡ Some v = rw t at e in let z : ◌≡◌ {A = ℕ} 0 1 = cc in absurd (omega arith))

pub was-passed : (n : ℕ) → summed n ≡ None → 18446744073709551616 ≤ n
unfolding summed in64 pick
was-passed n e =
    by-test (ltb n 18446744073709551616)
    (λ t. let s : Some n ≡ None = rw t at e in let z : ◌≡◌ {A = ℕ} 0 1 = cc in absurd (omega arith))
    (λ t. ltb-false n 18446744073709551616 t)

pub some-in : (n : ℕ) → is_some (summed n) ≡ in64 n
unfolding summed pick
some-in n = by-test (in64 n) (λ t. rw t) (λ t. rw t)

pub none-past : (n : ℕ) → is_some (summed n) ≡ false → 18446744073709551616 ≤ n
none-past n e = by-test (in64 n) (λ t. let z : true ≡ false = sym (some-in n ∙ t) ∙ e in absurd cc) (λ t. was-past n t)

pub some-within : (n : ℕ) → is_some (summed n) ≡ true → n < 18446744073709551616
some-within n e = by-test (in64 n) (λ t. was-in n t) (λ t. let z : false ≡ true = sym (some-in n ∙ t) ∙ e in absurd cc)
