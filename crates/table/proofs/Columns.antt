-- Fletcher-16 by columns: over plain sums the second is that of each byte as often as there are bytes from it on, and
-- rows of 32 may be added column by column.
use mathlib.Core.Path.{◌≡◌, refl, sym, ap, ◌∙◌}
use mathlib.Core.List.{List, [], ◌∷◌, ◌++◌}
use Prim.Native.Nat.{ℕ, zero, suc, ◌+◌, ◌-◌, ◌*◌, ◌/◌, ◌%◌, ◌≤◌, ◌<◌}
use native.Mathlib.Nat.{add-mul, mul-add, mul_assoc, mul_comm, mul-le-mul, mul-zero, suc-mul, zero-mul}
use native.Mathlib.Numerals.{add-one}
use native.Mathlib.Omega.{arith}
use lib.ListN.{length, get_or, take, drop, length-drop, length-append, drop_of_length-le, take-append-drop}
use lib.Seq.{drop-cons, drop-drop, get_or-drop}
use Rattle.octets.specs.Lists.{sum_of}
use Rattle.table.specs.Columns.{column_first, column_before}
use Rattle.table.specs.TheTable.{block_length, sums_from}

-- PLAIN SUMS

-- each byte as often as there are bytes from it on
unfoldable pub weighted : List ℕ → ℕ
weighted [] = 0
weighted (x ∷ s) = suc (length s) * x + weighted s

-- whether the remainder is taken before or after a sum is the same
later_first : (a w : ℕ) → (a % 255 + w) % 255 ≡ (a + w) % 255
later_first a w = omega arith

later_second : (a b w : ℕ) → (b % 255 + (a % 255 + w) % 255) % 255 ≡ (b + (a + w)) % 255
later_second a b w = omega arith

shift : (n a b x w : ℕ) → b + (a + x) + n * (a + x) + w ≡ b + suc n * a + (suc n * x + w)
shift n a b x w = omega (arith, mul-add n a x, suc-mul n a, suc-mul n x)

pub sums-plain : (a b : ℕ) (s : List ℕ) → sums_from (a % 255) (b % 255) s ≡ (b + length s * a + weighted s) % 255 ∷ (a + sum_of s) % 255 ∷ []
unfolding sums_from sum_of weighted
sums-plain a b [] =
    let p : b + 0 * a + 0 ≡ b = omega (arith, zero-mul a) in
    let q : a + 0 ≡ a = omega arith in
    rw (p, q)
sums-plain a b (x ∷ s) =
    let step : sums_from (a % 255) (b % 255) (x ∷ s) ≡ sums_from ((a + x) % 255) ((b + (a + x)) % 255) s =
    ap (λ (second : ℕ). sums_from ((a % 255 + x) % 255) second s) (later_second a b x) ∙ ap (λ (first : ℕ). sums_from first ((b + (a + x)) % 255) s) (later_first a x) in
    let q : a + x + sum_of s ≡ a + (x + sum_of s) = omega arith in
    step ∙ sums-plain (a + x) (b + (a + x)) s ∙ rw (shift (length s) a b x (weighted s), q)

-- SUMS OVER THE FIRST NUMBERS

unfoldable pub total : (ℕ → ℕ) → ℕ → ℕ
total f zero = 0
total f (suc m) = total f m + f m

pub total-more : (f : ℕ → ℕ) (m : ℕ) → total f (m + 1) ≡ total f m + f m
unfolding total
total-more f m = rw add-one

total-cong : (f g : ℕ → ℕ) (m : ℕ) → ((j : ℕ) → j < m → f j ≡ g j) → total f m ≡ total g m
unfolding total
total-cong f g zero h = refl
total-cong f g (suc m) h = rw (total-cong f g m (λ j l. h j (omega arith)), h m (omega arith))

total-add : (f g : ℕ → ℕ) (m : ℕ) → total (λ j. f j + g j) m ≡ total f m + total g m
unfolding total
total-add f g zero = refl
total-add f g (suc m) = omega (arith, total-add f g m)

total-mul : (k : ℕ) (f : ℕ → ℕ) (m : ℕ) → total (λ j. k * f j) m ≡ k * total f m
unfolding total
total-mul k f zero = sym (mul-zero k)
total-mul k f (suc m) = omega (arith, total-mul k f m, mul-add k (total f m) (f m))

-- the first m bytes and the rest
sum-front : (t : List ℕ) (m : ℕ) → m ≤ length t → sum_of t ≡ total (λ j. get_or t j 0) m + sum_of (drop m t)
unfolding total sum_of
sum-front t zero h = omega arith
sum-front t (suc m) h =
    let d : sum_of (drop m t) ≡ get_or t m 0 + sum_of (drop (suc m) t) = ap sum_of (drop-cons t m 0 h) in
    omega (arith, sum-front t m (omega arith))

weighted-front : (t : List ℕ) (m : ℕ) → m ≤ length t → weighted t ≡ total (λ j. (length t - j) * get_or t j 0) m + weighted (drop m t)
unfolding total weighted
weighted-front t zero h = omega arith
weighted-front t (suc m) h =
    let l : suc (length (drop (suc m) t)) ≡ length t - m = omega (arith, length-drop (suc m) t) in
    let d : weighted (drop m t) ≡ suc (length (drop (suc m) t)) * get_or t m 0 + weighted (drop (suc m) t) = ap weighted (drop-cons t m 0 h) in
    let e : suc (length (drop (suc m) t)) * get_or t m 0 ≡ (length t - m) * get_or t m 0 = ap (λ (k : ℕ). k * get_or t m 0) l in
    omega (arith, weighted-front t m (omega arith))

-- THE COLUMNS OF n ROWS

length_rest : (n : ℕ) (t : List ℕ) → length t ≡ 32 * suc n → length (drop 32 t) ≡ 32 * n
length_rest n t h = omega (arith, length-drop 32 t)

total-none : (f : ℕ → ℕ) (m : ℕ) → ((j : ℕ) → f j ≡ 0) → total f m ≡ 0
unfolding total
total-none f zero h = refl
total-none f (suc m) h = omega (arith, total-none f m h, h m)

columns-first : (n : ℕ) (t : List ℕ) → length t ≡ 32 * n → total (column_first n t) 32 ≡ sum_of t
unfolding column_first sum_of
columns-first zero [] h = total-none (column_first 0 []) 32 (λ j. refl)
columns-first zero (x ∷ t) h = absurd (omega arith)
columns-first (suc n) t h =
    let step : total (column_first (suc n) t) 32 ≡ total (λ j. get_or t j 0) 32 + total (column_first n (drop 32 t)) 32 =
    total-cong (column_first (suc n) t) (λ j. get_or t j 0 + column_first n (drop 32 t) j) 32 (λ j l. refl) ∙ total-add (λ j. get_or t j 0) (column_first n (drop 32 t)) 32 in
    omega (arith, sum-front t 32 (omega arith), columns-first n (drop 32 t) (length_rest n t h))

-- how often byte j of the first of n + 1 rows counts
weight_is : (n j l x : ℕ) → j < 32 → l ≡ 32 * suc n → (l - j) * x ≡ 32 * (n * x) + (32 - j) * x
weight_is n j l x h e =
    let q : l - j ≡ 32 * n + (32 - j) = omega arith in
    ap (λ (k : ℕ). k * x) q ∙ add-mul (32 * n) (32 - j) x ∙ ap (λ (k : ℕ). k + (32 - j) * x) (mul_assoc 32 n x)

-- what the code adds up for column j of n rows
unfoldable pub column_share : ℕ → List ℕ → ℕ → ℕ
column_share n s j = 32 * column_before n s j + (32 - j) * column_first n s j

share-step : (n : ℕ) (t : List ℕ) (j : ℕ) → j < 32 → length t ≡ 32 * suc n
    → column_share (suc n) t j ≡ (length t - j) * get_or t j 0 + column_share n (drop 32 t) j
unfolding column_share column_first column_before
share-step n t j h e =
    omega (arith, weight_is n j (length t) (get_or t j 0) h e, mul-add 32 (n * get_or t j 0) (column_before n (drop 32 t) j), mul-add (32 - j) (get_or t j 0) (column_first n (drop 32 t) j))

columns-second : (n : ℕ) (t : List ℕ) → length t ≡ 32 * n → total (column_share n t) 32 ≡ weighted t
unfolding column_first column_before column_share weighted
columns-second zero [] h = total-none (column_share 0 []) 32 (λ j. omega (arith, mul-zero (32 - j)))
columns-second zero (x ∷ t) h = absurd (omega arith)
columns-second (suc n) t h =
    let step : total (column_share (suc n) t) 32 ≡ total (λ j. (length t - j) * get_or t j 0) 32 + total (column_share n (drop 32 t)) 32 =
    total-cong (column_share (suc n) t) (λ j. (length t - j) * get_or t j 0 + column_share n (drop 32 t) j) 32 (λ j l. share-step n t j l h)
    ∙ total-add (λ j. (length t - j) * get_or t j 0) (column_share n (drop 32 t)) 32 in
    omega (arith, step, weighted-front t 32 (omega arith), columns-second n (drop 32 t) (length_rest n t h))

-- THE LAST TWO BYTES TAKEN OUT

sum-two : (s : List ℕ) (p q : ℕ) → sum_of (s ++ (p ∷ q ∷ [])) ≡ sum_of s + p + q
unfolding sum_of
sum-two [] p q = omega arith
sum-two (x ∷ s) p q = omega (arith, sum-two s p q)

weighted-two : (s : List ℕ) (p q : ℕ) → weighted (s ++ (p ∷ q ∷ [])) ≡ weighted s + 2 * sum_of s + 2 * p + q
unfolding weighted sum_of
weighted-two [] p q = omega arith
weighted-two (x ∷ s) p q =
    let k : suc (length (s ++ (p ∷ q ∷ []))) ≡ suc (length s) + 2 = omega (arith, length-append s (p ∷ q ∷ [])) in
    let m : suc (length (s ++ (p ∷ q ∷ []))) * x ≡ suc (length s) * x + 2 * x = ap (λ (i : ℕ). i * x) k ∙ add-mul (suc (length s)) 2 x in
    omega (arith, m, weighted-two s p q)

last-two : (b : List ℕ) → length b ≡ block_length → b ≡ take 510 b ++ (get_or b 510 0 ∷ get_or b 511 0 ∷ [])
last-two b h =
    let e : drop block_length b ≡ [] = drop_of_length-le b {i = block_length} (omega arith) in
    sym (take-append-drop 510 b) ∙ ap (λ (r : List ℕ). take 510 b ++ r) (drop-cons b 510 0 (omega arith) ∙ ap (λ (r : List ℕ). get_or b 510 0 ∷ r) (drop-cons b 511 0 (omega arith) ∙ ap (λ (r : List ℕ). get_or b 511 0 ∷ r) e))

pub more : (a k : ℕ) → (a + 255 * k) % 255 ≡ a % 255
more a k = omega arith

with-both : (x t d : ℕ) → x % 255 ≡ t % 255 → (x + d) % 255 ≡ (t + d) % 255
with-both x t d h = omega arith

pub both : (x f t g n : ℕ) → x % 255 ≡ t % 255 → f % 255 ≡ g % 255 → n ≡ t + g → (x + f) % 255 ≡ n % 255
both x f t g n h k e = with-both x t f h ∙ ap (λ (i : ℕ). i % 255) (omega arith) ∙ with-both f g t k ∙ ap (λ (i : ℕ). i % 255) (omega arith)

-- the sums of 512 bytes with the last two, p and q, taken out again. Differences are kept above 0 by multiples of 255
first-left : (x s p q : ℕ) → x % 255 ≡ (s + p + q) % 255 → p < 256 → q < 256 → (x + 510 - p - q) % 255 ≡ s % 255
first-left x s p q h bp bq =
    let e : x + 510 - p - q ≡ x + (510 - p - q) = omega arith in
    let d : s + p + q + (510 - p - q) ≡ s + 255 * 2 = omega arith in
    ap (λ (k : ℕ). k % 255) e ∙ with-both x (s + p + q) (510 - p - q) h ∙ ap (λ (k : ℕ). k % 255) d ∙ more s 2

second-left : (y w s p q f : ℕ) → y % 255 ≡ (w + 2 * s + 2 * p + q) % 255 → p < 256 → q < 256 → f ≡ s % 255
    → (y + 1530 - 2 * f - 2 * p - q) % 255 ≡ w % 255
second-left y w s p q f h bp bq hf =
    let small : f < 255 = omega arith in
    let whole : s ≡ f + 255 * (s / 255) = omega arith in
    let e : y + 1530 - 2 * f - 2 * p - q ≡ y + (1530 - 2 * f - 2 * p - q) = omega arith in
    let d : w + 2 * s + 2 * p + q + (1530 - 2 * f - 2 * p - q) ≡ w + 255 * (2 * (s / 255) + 6) = omega arith in
    ap (λ (k : ℕ). k % 255) e ∙ with-both y (w + 2 * s + 2 * p + q) (1530 - 2 * f - 2 * p - q) h ∙ ap (λ (k : ℕ). k % 255) d ∙ more w (2 * (s / 255) + 6)

-- the sums by columns of a block are the paper's
pub columns-right : (b : List ℕ) (x y p q : ℕ) → length b ≡ block_length
    → x % 255 ≡ total (column_first 16 b) 32 % 255 → y % 255 ≡ total (column_share 16 b) 32 % 255
    → p ≡ get_or b 510 0 → q ≡ get_or b 511 0 → p < 256 → q < 256
    → (y + 1530 - 2 * ((x + 510 - p - q) % 255) - 2 * p - q) % 255 ∷ (x + 510 - p - q) % 255 ∷ [] ≡ sums_from 0 0 (take 510 b)
columns-right b x y p q h hx hy hp hq bp bq =
    let s : List ℕ = take 510 b in
    let parts : b ≡ s ++ (p ∷ q ∷ []) = last-two b h ∙ ap (λ (i : ℕ). s ++ (i ∷ get_or b 511 0 ∷ [])) (sym hp) ∙ ap (λ (i : ℕ). s ++ (p ∷ i ∷ [])) (sym hq) in
    let one : total (column_first 16 b) 32 ≡ sum_of s + p + q = columns-first 16 b h ∙ ap sum_of parts ∙ sum-two s p q in
    let two : total (column_share 16 b) 32 ≡ weighted s + 2 * sum_of s + 2 * p + q = columns-second 16 b h ∙ ap weighted parts ∙ weighted-two s p q in
    let first : (x + 510 - p - q) % 255 ≡ sum_of s % 255 = first-left x (sum_of s) p q (hx ∙ ap (λ (k : ℕ). k % 255) one) bp bq in
    let second : (y + 1530 - 2 * ((x + 510 - p - q) % 255) - 2 * p - q) % 255 ≡ weighted s % 255 = second-left y (weighted s) (sum_of s) p q ((x + 510 - p - q) % 255) (hy ∙ ap (λ (k : ℕ). k % 255) two) bp bq first in
    let none : 0 + length s * 0 + weighted s ≡ weighted s = omega (arith, mul-zero (length s)) in
    let alone : 0 + sum_of s ≡ sum_of s = omega arith in
    let plain : sums_from 0 0 s ≡ weighted s % 255 ∷ sum_of s % 255 ∷ [] = sums-plain 0 0 s ∙ rw (none, alone) in
    ap (λ (k : ℕ). k ∷ (x + 510 - p - q) % 255 ∷ []) second ∙ ap (λ (k : ℕ). weighted s % 255 ∷ k ∷ []) first ∙ sym plain

-- ONE COLUMN, row by row

shift-before : (n a b x w : ℕ) → b + a + n * (a + x) + w ≡ b + suc n * a + (n * x + w)
shift-before n a b x w = omega (arith, mul-add n a x, suc-mul n a)

pub column-turn : (s : List ℕ) (j k a x : ℕ) → k < 16 → x ≡ get_or s (j + 32 * k) 0
    → a + x + column_first (16 - (k + 1)) (drop (32 * (k + 1)) s) j ≡ a + column_first (16 - k) (drop (32 * k) s) j
unfolding column_first
column-turn s j k a x h e =
    let q : 16 - k ≡ suc (16 - (k + 1)) = omega arith in
    let p : 32 * k + 32 ≡ 32 * (k + 1) = omega arith in
    let i : 32 * k + j ≡ j + 32 * k = omega arith in
    rw (q, get_or-drop (32 * k) s j 0, drop-drop 32 (32 * k) s, p, i, ← e) (omega arith)

pub column-turn2 : (s : List ℕ) (j k a b x : ℕ) → k < 16 → x ≡ get_or s (j + 32 * k) 0
    → b + a + (16 - (k + 1)) * (a + x) + column_before (16 - (k + 1)) (drop (32 * (k + 1)) s) j ≡ b + (16 - k) * a + column_before (16 - k) (drop (32 * k) s) j
unfolding column_before
column-turn2 s j k a b x h e =
    let q : 16 - k ≡ suc (16 - (k + 1)) = omega arith in
    let p : 32 * k + 32 ≡ 32 * (k + 1) = omega arith in
    let i : 32 * k + j ≡ j + 32 * k = omega arith in
    rw (q, get_or-drop (32 * k) s j 0, drop-drop 32 (32 * k) s, p, i, ← e) (shift-before (16 - (k + 1)) a b x _)

pub column-end : (s : List ℕ) (j k : ℕ) → 16 ≤ k → column_first (16 - k) (drop (32 * k) s) j ≡ 0
unfolding column_first
column-end s j k h = let q : 16 - k ≡ 0 = omega arith in rw q

pub column-end2 : (s : List ℕ) (j k a : ℕ) → 16 ≤ k → (16 - k) * a + column_before (16 - k) (drop (32 * k) s) j ≡ 0
unfolding column_before
column-end2 s j k a h = let q : 16 - k ≡ 0 = omega arith in rw q (omega (arith, zero-mul a))

-- FOLDING

pub product : (w f : ℕ) → w ≤ 32 → f ≤ 270 → w * f ≤ 8640
product w f p q = mul-le-mul p q

-- what is added for a column leaves the remainder of its share
pub share-is : (s : List ℕ) (j w f g u v x y : ℕ) → f ≡ column_first 16 s j → g ≡ column_before 16 s j → w + j ≡ 32
    → f ≡ x + 255 * u → g ≡ y + 255 * v → (32 * y + w * x) % 255 ≡ column_share 16 s j % 255
unfolding column_share
share-is s j w f g u v x y p q e hx hy =
    let n : w ≡ 32 - j = omega arith in
    let m : w * f ≡ w * x + 255 * (w * u) = ap (λ (k : ℕ). w * k) hx ∙ mul-add w x (255 * u) ∙ ap (λ (k : ℕ). w * x + k) (sym (mul_assoc w 255 u) ∙ ap (λ (k : ℕ). k * u) (mul_comm w 255) ∙ mul_assoc 255 w u) in
    let r : 32 * column_before 16 s j + (32 - j) * column_first 16 s j ≡ 32 * g + w * f = rw (← p, ← q, ← n) in
    let t : 32 * g + w * f ≡ 32 * y + w * x + 255 * (32 * v + w * u) = omega (arith, m) in
    sym (ap (λ (k : ℕ). k % 255) (r ∙ t) ∙ more (32 * y + w * x) (32 * v + w * u))
