-- Another byte in a block whose sums agree: the sums follow it.
use mathlib.Core.Path.{◌≡◌, sym, ap, ◌∙◌}
use mathlib.Core.List.{List, [], ◌∷◌, ◌++◌}
use Prim.Native.Nat.{ℕ, zero, suc, ◌+◌, ◌-◌, ◌*◌, ◌≤◌, ◌<◌, ◌%◌}
use native.Mathlib.Nat.{mul-add, mul-le-mul, mul-zero}
use native.Mathlib.Omega.{arith}
use lib.ListN.{length, take, drop, get_or, set, length-set, take-append-drop}
use lib.Seq.{get_or-take, length-take-le, set-append_left, take_at}
use Rattle.octets.specs.Lists.{sum_of}
use Rattle.octets.specs.Texts.{part, put}
use Rattle.octets.proofs.Texts.{length-put}
use Rattle.table.specs.TheTable.{block_length, sealed, sums}
use Rattle.table.proofs.Bytes.{length-sealed}
use Rattle.table.proofs.Columns.{sums-plain, weighted}
use Rattle.changes.specs.Writes.{head_with}
use Rattle.changes.proofs.Blocks.{line-put, line_set, put_first, sealed-by}
use Rattle.octets.proofs.Pieces.{get_or_past}

-- the plain sums with one byte exchanged

sum-set : (s : List ℕ) (i y : ℕ) → i < length s → sum_of (set s i y) + get_or s i 0 ≡ sum_of s + y
unfolding sum_of
sum-set [] i y h = absurd (omega arith)
sum-set (x ∷ s) zero y h = omega arith
sum-set (x ∷ s) (suc i) y h = omega (arith, sum-set s i y (omega arith))

weighted-set : (s : List ℕ) (i y : ℕ) → i < length s → weighted (set s i y) + (length s - i) * get_or s i 0 ≡ weighted s + (length s - i) * y
unfolding weighted
weighted-set [] i y h = absurd (omega arith)
weighted-set (x ∷ s) zero y h = let q : suc (length s) - 0 ≡ suc (length s) = omega arith in rw q (omega arith)
weighted-set (x ∷ s) (suc i) y h =
    let q : suc (length s) - suc i ≡ length s - i = omega arith in
    rw (q, length-set s i y) (omega (arith, weighted-set s i y (omega arith)))

sums-are : (s : List ℕ) → sums s ≡ weighted s % 255 ∷ sum_of s % 255 ∷ []
sums-are s =
    let w : 0 + length s * 0 + weighted s ≡ weighted s = omega (arith, mul-zero (length s)) in
    let a : 0 + sum_of s ≡ sum_of s = omega arith in
    sums-plain 0 0 s ∙ rw (w, a)

-- the sums after a byte x became y. The gain is taken as y + 255 - x: it is never negative, and 255 more changes no remainder
first-follows : (a b x y gain : ℕ) → b + x ≡ a + y → x < 256 → gain ≡ y + 255 - x → (a % 255 + gain) % 255 ≡ b % 255
first-follows a b x y gain e lx eg = omega arith

second-follows : (k a b x y gain : ℕ) → b + k * x ≡ a + k * y → x < 256 → gain ≡ y + 255 - x → (a % 255 + k * gain) % 255 ≡ b % 255
second-follows k a b x y gain e lx eg =
    let g : gain + x ≡ y + 255 = omega arith in
    let p : k * gain + k * x ≡ k * y + k * 255 = sym (mul-add k gain x) ∙ ap (λ (n : ℕ). k * n) g ∙ mul-add k y 255 in
    omega (arith, p)

sums-follow : (s : List ℕ) (i x y gain k : ℕ) → i < length s → x ≡ get_or s i 0 → x < 256 → gain ≡ y + 255 - x → k ≡ length s - i
    → (weighted s % 255 + k * gain) % 255 ∷ (sum_of s % 255 + gain) % 255 ∷ [] ≡ sums (set s i y)
sums-follow s i x y gain k h ex lx eg ek =
    let one : sum_of (set s i y) + x ≡ sum_of s + y = ap (λ (n : ℕ). sum_of (set s i y) + n) ex ∙ sum-set s i y h in
    let two : weighted (set s i y) + k * x ≡ weighted s + k * y =
    (λ j. weighted (set s i y) + ek j * ex j) ∙ weighted-set s i y h ∙ ap (λ (n : ℕ). weighted s + n * y) (sym ek) in
    let first = first-follows (sum_of s) (sum_of (set s i y)) x y gain one lx eg in
    let second = second-follows k (weighted s) (weighted (set s i y)) x y gain two lx eg in
    (λ j. second j ∷ first j ∷ []) ∙ sym (sums-are (set s i y))

pub gain-bound : (k gain : ℕ) → k ≤ 510 → gain ≤ 510 → k * gain ≤ 260100
gain-bound k gain p q = mul-le-mul p q

-- a byte exchanged among the first n
take-set : (b : List ℕ) (n i y : ℕ) → i < n → n ≤ length b → take n (set b i y) ≡ set (take n b) i y
take-set b n i y h l =
    let size : length (take n b) ≡ n = length-take-le n b l in
    ap (λ (t : List ℕ). take n (set t i y)) (sym (take-append-drop n b))
    ∙ ap (take n) (set-append_left (take n b) (drop n b) i y (omega arith))
    ∙ take_at (set (take n b) i y) (drop n b) n (length-set (take n b) i y ∙ size)

set_self : (s : List ℕ) (i y : ℕ) → i < length s → get_or s i 0 ≡ y → set s i y ≡ s
set_self [] i y h e = absurd (omega arith)
set_self (x ∷ s) zero y h e = ap (λ (n : ℕ). n ∷ s) (sym e)
set_self (x ∷ s) (suc i) y h e = ap (λ (t : List ℕ). x ∷ t) (set_self s i y (omega arith) e)

module _ (b : List ℕ) (size : length b ≡ block_length) (agree : b ≡ sealed (take 510 b)) (at : ℕ) (h : at < 510) where
  body-long : length (take 510 b) ≡ 510
  body-long = length-take-le 510 b (omega arith)

  body-byte : get_or b at 0 ≡ get_or (take 510 b) at 0
  body-byte = sym (get_or-take 510 b at 0 h)

  whole : b ≡ take 510 b ++ (weighted (take 510 b) % 255 ∷ sum_of (take 510 b) % 255 ∷ [])
  unfolding sealed
  whole = agree ∙ ap (λ (t : List ℕ). take 510 b ++ t) (sums-are (take 510 b))

  stored-second : get_or b 510 0 ≡ weighted (take 510 b) % 255
  stored-second = ap (λ (t : List ℕ). get_or t 510 0) whole ∙ get_or_past 510 0 (take 510 b) _ body-long

  stored-first : get_or b 511 0 ≡ sum_of (take 510 b) % 255
  stored-first = ap (λ (t : List ℕ). get_or t 511 0) whole ∙ get_or_past 510 1 (take 510 b) _ body-long

  -- where y stands there already, nothing changes
  pub byte-stays : (y : ℕ) → get_or b at 0 ≡ y → b ≡ sealed (set (take 510 b) at y)
  byte-stays y e = agree ∙ ap sealed (sym (set_self (take 510 b) at y (omega (arith, body-long)) (sym body-byte ∙ e)))

  pub byte_put : (y gain first second : ℕ) → get_or b at 0 < 256 → gain ≡ y + 255 - get_or b at 0
      → first ≡ (get_or b 511 0 + gain) % 255 → second ≡ (get_or b 510 0 + (510 - at) * gain) % 255
      → set (set (set b at y) 510 second) 511 first ≡ sealed (set (take 510 b) at y)
  byte_put y gain first second lx eg ef es =
      let s : List ℕ = take 510 b in
      let k : 510 - at ≡ length s - at = omega (arith, body-long) in
      let e : second ∷ first ∷ [] ≡ sums (set s at y) =
      (λ j. es j ∷ ef j ∷ [])
      ∙ (λ j. (stored-second j + (510 - at) * gain) % 255 ∷ (stored-first j + gain) % 255 ∷ [])
      ∙ sums-follow s at (get_or b at 0) y gain (510 - at) (omega (arith, body-long)) body-byte lx eg k in
      let t : take 510 (set b at y) ≡ set s at y = take-set b 510 at y h (omega arith) in
      sealed-by (set b at y) first second (length-set b at y ∙ size) (e ∙ ap (λ (u : List ℕ). sums u) (sym t)) ∙ ap sealed t

-- BLOCK 0 WITH ANOTHER LINE

module _ (s : List ℕ) (h : length s ≡ 510) where
  pub body_of : take 510 (sealed s) ≡ s
  unfolding sealed
  body_of = take_at s (sums s) 510 h

  pub sealed-agrees : (u : List ℕ) → u ≡ sealed s → u ≡ sealed (take 510 u)
  sealed-agrees u e = e ∙ ap sealed (sym (ap (take 510) e ∙ body_of))

  pub sealed-long : (u : List ℕ) → u ≡ sealed s → length u ≡ block_length
  sealed-long u e = ap length e ∙ length-sealed s ∙ omega arith

  -- one byte more exchanged in a block whose sums agree
  pub sealed-set : (u v : List ℕ) (i y : ℕ) → u ≡ sealed s → v ≡ sealed (set (take 510 u) i y) → v ≡ sealed (set s i y)
  sealed-set u v i y e f = f ∙ ap (λ (t : List ℕ). sealed (set t i y)) (ap (take 510) e ∙ body_of)

pub block-agrees : (s u : List ℕ) → length (sealed s) ≡ block_length → u ≡ sealed s → u ≡ sealed (take 510 u)
block-agrees s u h e = sealed-agrees s (omega (arith, length-sealed s)) u e

module _ (b : List ℕ) (size : length b ≡ block_length) (x : ℕ) where
  pub marked-long : length (set (take 510 b) 17 x) ≡ 510
  marked-long = length-set (take 510 b) 17 x ∙ length-take-le 510 b (omega arith)

  pub listed : (n p : ℕ) → n < 8 → sealed (set (set (take 510 b) 17 x) (20 + n) p) ≡ head_with b x (set (part b 20 8) n p)
  listed n p l =
      ap (λ (t : List ℕ). sealed (set t (20 + n) p)) (sym (take-set b 510 17 x (omega arith) (omega arith)))
      ∙ ap sealed (sym (take-set (set b 17 x) 510 (20 + n) p (omega arith) (omega (arith, length-set b 17 x))))
      ∙ line_set b x n p size l

  pub relined : (l : List ℕ) → length l ≡ 8 → sealed (put (set (take 510 b) 17 x) 20 l) ≡ head_with b x l
  relined l hl =
      let t : List ℕ = set (take 510 b) 17 x in
      let whole : set b 17 x ≡ t ++ drop 510 b =
      ap (λ (u : List ℕ). set u 17 x) (sym (take-append-drop 510 b)) ∙ set-append_left (take 510 b) (drop 510 b) 17 x (omega (arith, length-take-le 510 b (omega arith))) in
      let front : take 510 (put (set b 17 x) 20 l) ≡ put t 20 l =
      ap (λ (u : List ℕ). take 510 (put u 20 l)) whole
      ∙ ap (take 510) (put_first t (drop 510 b) l 20 (omega (arith, marked-long)))
      ∙ take_at (put t 20 l) (drop 510 b) 510 (length-put t 20 l (omega (arith, marked-long)) ∙ marked-long) in
      ap sealed (sym front) ∙ line-put b x l size hl
