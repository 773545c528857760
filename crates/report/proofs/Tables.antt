-- Reports as tables of 24 hours and 4 columns: what stands in each cell, the year's totals, and when 64 bits hold all of it.
use mathlib.Core.Path.{◌≡◌, refl, sym, ap, ◌∙◌}
use mathlib.Core.Bool.{Bool, true, false}
use mathlib.Core.List.{List, [], ◌∷◌, map}
use mathlib.Core.Logic.{⊎_elim}
use Prim.Native.Nat.{ℕ, zero, suc, ◌+◌, ◌*◌, ◌/◌, ◌%◌, ◌≤◌, ◌<◌}
use native.Mathlib.Nat.{add-zero, zero-add, eq-or-lt_of_le}
use native.Mathlib.Omega.{arith}
use borrow.Author.Tests.{ltb-true, lt-ltb}
use lib.Dec.{ltb}
use lib.ListN.{length, get_or, length-map}
use lib.Seq.{ext_get_or}
use Rattle.octets.specs.Lists.{every, sum_of, counted}
use Rattle.octets.proofs.Lists.{by-test, and_left, and_right, both}
use Rattle.report.specs.TheReport.{total, tabled, hours, columns, year, in64, held}

-- NUMBERS COUNTED UP

length-counted : (a n : ℕ) → length (counted a n) ≡ n
unfolding counted
length-counted a zero = refl
length-counted a (suc n) = ap suc (length-counted (suc a) n)

get_or-counted : (a n i : ℕ) → i < n → get_or (counted a n) i 0 ≡ a + i
unfolding counted
get_or-counted a zero i h = absurd (omega arith)
get_or-counted a (suc n) zero h = sym (add-zero a)
get_or-counted a (suc n) (suc i) h = get_or-counted (suc a) n i (omega arith) ∙ omega arith

get_or-map-in : (f : ℕ → ℕ) (l : List ℕ) (i : ℕ) → i < length l → get_or (map f l) i 0 ≡ f (get_or l i 0)
get_or-map-in f [] i h = absurd (omega arith)
get_or-map-in f (x ∷ l) zero h = refl
get_or-map-in f (x ∷ l) (suc i) h = get_or-map-in f l i (omega arith)

pub sum_same : (f g : ℕ → ℕ) (a n : ℕ) → ((i : ℕ) → a ≤ i → i < a + n → f i ≡ g i)
    → sum_of (map f (counted a n)) ≡ sum_of (map g (counted a n))
unfolding sum_of counted
sum_same f g a zero e = refl
sum_same f g a (suc n) e =
    omega (arith, e a (omega arith) (omega arith), sum_same f g (suc a) n (λ i u v. e i (omega arith) (omega arith)))

pub sum-plus : (f g : ℕ → ℕ) (l : List ℕ) → sum_of (map (λ i. f i + g i) l) ≡ sum_of (map f l) + sum_of (map g l)
unfolding sum_of
sum-plus f g [] = refl
sum-plus f g (x ∷ l) = omega (arith, sum-plus f g l)

sum-at : (f : ℕ → ℕ) (a n i : ℕ) → a ≤ i → i < a + n → f i ≤ sum_of (map f (counted a n))
unfolding sum_of counted
sum-at f a zero i u v = absurd (omega arith)
sum-at f a (suc n) i u v =
    ⊎_elim (λ (e : a ≡ i). omega (arith, ap f e)) (λ (p : a < i). omega (arith, sum-at f (suc a) n i (omega arith) (omega arith))) (eq-or-lt_of_le u)

pub every-counted : (p : ℕ → Bool) (a n : ℕ) → ((i : ℕ) → a ≤ i → i < a + n → p i ≡ true) → every p (counted a n) ≡ true
unfolding every counted
every-counted p a zero e = refl
every-counted p a (suc n) e =
    both (e a (omega arith) (omega arith)) (every-counted p (suc a) n (λ i u v. e i (omega arith) (omega arith)))

every-at : (p : ℕ → Bool) (a n i : ℕ) → every p (counted a n) ≡ true → a ≤ i → i < a + n → p i ≡ true
unfolding every counted
every-at p a zero i e u v = absurd (omega arith)
every-at p a (suc n) i e u v =
    ⊎_elim (λ (s : a ≡ i). ap p (sym s) ∙ and_left (p a) (every p (counted (suc a) n)) e)
    (λ (s : a < i). every-at p (suc a) n i (and_right (p a) (every p (counted (suc a) n)) e) (omega arith) (omega arith)) (eq-or-lt_of_le u)

-- CELLS

pub length-tabled : (f : ℕ → ℕ → ℕ) → length (tabled f) ≡ 96
unfolding tabled
length-tabled f = length-map (counted 0 96) (λ i. f (i / 4) (i % 4)) ∙ length-counted 0 96

pub cell : (f : ℕ → ℕ → ℕ) (i : ℕ) → i < 96 → get_or (tabled f) i 0 ≡ f (i / 4) (i % 4)
unfolding tabled
cell f i h =
    get_or-map-in (λ j. f (j / 4) (j % 4)) (counted 0 96) i (omega (arith, length-counted 0 96))
    ∙ ap (λ (j : ℕ). f (j / 4) (j % 4)) (get_or-counted 0 96 i h ∙ zero-add i)

pub total-tabled : (f : ℕ → ℕ → ℕ) (h k : ℕ) → h < 24 → k < 4 → total (tabled f) h k ≡ f h k
total-tabled f h k p q =
    let a : (4 * h + k) / 4 ≡ h = omega arith in
    let b : (4 * h + k) % 4 ≡ k = omega arith in
    cell f (4 * h + k) (omega arith) ∙ ap (λ (x : ℕ). f x ((4 * h + k) % 4)) a ∙ ap (f h) b

pub is-tabled : (r : List ℕ) (f : ℕ → ℕ → ℕ) → length r ≡ 96 → ((h k : ℕ) → h < 24 → k < 4 → total r h k ≡ f h k) → r ≡ tabled f
is-tabled r f n e =
    ext_get_or 0 r (tabled f) (n ∙ sym (length-tabled f))
    (λ i h.
    let s : i ≡ 4 * (i / 4) + i % 4 = omega arith in
    ap (λ (j : ℕ). get_or r j 0) s ∙ e (i / 4) (i % 4) (omega arith) (omega arith) ∙ sym (cell f i (omega arith)))

pub same-tabled : (f g : ℕ → ℕ → ℕ) → ((h k : ℕ) → h < 24 → k < 4 → f h k ≡ g h k) → tabled f ≡ tabled g
same-tabled f g e = is-tabled (tabled f) g (length-tabled f) (λ h k p q. total-tabled f h k p q ∙ e h k p q)

-- THE YEAR

pub year-tabled : (f : ℕ → ℕ → ℕ) (k : ℕ) → k < 4 → year (tabled f) k ≡ sum_of (map (λ h. f h k) hours)
unfolding year hours
year-tabled f k q = sum_same (λ h. total (tabled f) h k) (λ h. f h k) 0 24 (λ h u v. total-tabled f h k (omega arith) q)

pub total-in-year : (r : List ℕ) (h k : ℕ) → h < 24 → total r h k ≤ year r k
unfolding year hours
total-in-year r h k p = sum-at (λ i. total r i k) 0 24 h (omega arith) (omega arith)

-- 64 BITS: since no hour's total is over the year's, the year's totals decide

pub held-if : (r : List ℕ) → ((k : ℕ) → k < 4 → year r k < 18446744073709551616) → held r ≡ true
unfolding held hours columns in64
held-if r e =
    both
    (every-counted (λ h. every (λ k. ltb (total r h k) 18446744073709551616) (counted 0 4)) 0 24
    (λ h u v.
    every-counted (λ k. ltb (total r h k) 18446744073709551616) 0 4
    (λ k s t. lt-ltb (total r h k) 18446744073709551616 (omega (arith, total-in-year r h k (omega arith), e k (omega arith))))))
    (every-counted (λ k. ltb (year r k) 18446744073709551616) 0 4 (λ k s t. lt-ltb (year r k) 18446744073709551616 (e k (omega arith))))

pub year-held : (r : List ℕ) (k : ℕ) → held r ≡ true → k < 4 → year r k < 18446744073709551616
unfolding held hours columns in64
year-held r k e q =
    ltb-true _ _
    (every-at (λ j. ltb (year r j) 18446744073709551616) 0 4 k
    (and_right (every (λ h. every (λ j. ltb (total r h j) 18446744073709551616) (counted 0 4)) (counted 0 24)) _ e) (omega arith) (omega arith))

pub total-held : (r : List ℕ) (h k : ℕ) → held r ≡ true → h < 24 → k < 4 → total r h k < 18446744073709551616
total-held r h k e p q = omega (arith, total-in-year r h k p, year-held r k e q)

pub held-not : (r : List ℕ) (k : ℕ) → k < 4 → 18446744073709551616 ≤ year r k → held r ≡ false
held-not r k q e = by-test (held r) (λ t. absurd (omega (arith, year-held r k t q))) (λ t. t)

four : (P : ℕ → Type 0) → P 0 → P 1 → P 2 → P 3 → (k : ℕ) → k < 4 → P k
four P a b c d zero q = a
four P a b c d (suc zero) q = b
four P a b c d (suc (suc zero)) q = c
four P a b c d (suc (suc (suc zero))) q = d
four P a b c d (suc (suc (suc (suc k)))) q = absurd (omega arith)

pub held-four : (r : List ℕ) → year r 0 < 18446744073709551616 → year r 1 < 18446744073709551616 → year r 2 < 18446744073709551616
    → year r 3 < 18446744073709551616 → held r ≡ true
held-four r a b c d = held-if r (λ k q. four (λ (j : ℕ). year r j < 18446744073709551616) a b c d k q)
