-- The order line, place by place, and the bits of byte 17.
use mathlib.Core.Path.{◌≡◌, refl, sym, ap, ◌∙◌}
use mathlib.Core.Bool.{Bool, true, false, not, ◌&&◌, and-false}
use mathlib.Core.List.{List, [], ◌∷◌, ◌++◌, map}
use Prim.Native.Nat.{ℕ, zero, suc, ◌+◌, ◌-◌, ◌/◌, ◌%◌, ◌^◌, ◌≤◌, ◌<◌}
use native.Mathlib.Nat.{pow-suc}
use native.Mathlib.Numerals.{add-one}
use native.Mathlib.Omega.{arith}
use borrow.Author.Tests.{eqb-true, eqb-false, leb-true, leb-false, ne_eqb}
use lib.Count.{ones, ones_in}
use lib.Dec.{eqb, leb}
use lib.ListN.{length, get_or, take, drop, length-take}
use lib.Seq.{get_or-take, take_all, take-suc}
use Rattle.octets.specs.Choice.{pick, within}
use Rattle.octets.specs.Lists.{counted, distinct, every, is_on, up_to0}
use Rattle.octets.proofs.Lists.{and_left, and_right, by-test, distinct_snoc, eqb_comm, every_append, every-imp, every_one, in_within, on-cons, on-first, within-high, within_low}
use Rattle.soundness.proofs.Bits.{ones-adds}
use Rattle.table.proofs.Form.{up-to-length, up-to-part}
use Rattle.table.proofs.Sound.{at-counted, bit-of}
use Rattle.table.proofs.Tests.{clash}
use Rattle.table.specs.Soundness.{in_use, line_exact}
use Rattle.table.specs.TheTable.{from_bits, head, line_room, order_line, places, used_bits}

-- THE LINE

pub line-most : (r : List ℕ) → length (order_line r) ≤ 8
unfolding order_line
line-most r = omega (arith, up-to-length (line_room r), length-take 8 (drop 20 (head r)))

up-to-at : (l : List ℕ) (i : ℕ) → i < length (up_to0 l) → get_or (up_to0 l) i 0 ≡ get_or l i 0
up-to-at l i h = ap (λ (t : List ℕ). get_or t i 0) (up-to-part l) ∙ get_or-take (length (up_to0 l)) l i 0 h

up-to-low : (l : List ℕ) (i : ℕ) → i < length (up_to0 l) → 1 ≤ get_or (up_to0 l) i 0
unfolding up_to0 pick
up-to-low [] i h = absurd (omega arith)
up-to-low (x ∷ l) zero h =
    by-test (eqb x 0) (λ e. absurd (omega (arith, rw e at h))) (λ e. rw e (omega (arith, eqb-false x 0 e)))
up-to-low (x ∷ l) (suc i) h =
    by-test (eqb x 0) (λ e. absurd (omega (arith, rw e at h))) (λ e. rw e (up-to-low l i (omega (arith, rw e at h))))

pub line_at : (r : List ℕ) (i : ℕ) → i < length (order_line r) → get_or (order_line r) i 0 ≡ get_or (line_room r) i 0
unfolding order_line
line_at r i l = up-to-at (line_room r) i l

pub line_low : (r : List ℕ) (i : ℕ) → i < length (order_line r) → 1 ≤ get_or (line_room r) i 0
unfolding order_line
line_low r i l = omega (arith, up-to-low (line_room r) i l, line_at r i l)

-- THE BITS OF A LINE

pub used-none : 0 ≡ used_bits []
unfolding used_bits places counted from_bits is_on every pick
used-none = refl

pub used-bit : (l : List ℕ) (k : ℕ) → 1 ≤ k → k ≤ 8 → eqb (used_bits l / 2 ^ (k - 1) % 2) 1 ≡ is_on l k
unfolding used_bits places
used-bit l k lo hi =
    let q : 1 + (k - 1) ≡ k = omega arith in
    rw (bit-of (map (is_on l) (counted 1 8)) (k - 1), at-counted (is_on l) 1 8 (k - 1) (omega arith), q)

every-snoc : (f : ℕ → Bool) (l : List ℕ) (p : ℕ) → every f (l ++ (p ∷ [])) ≡ f p && every f l
unfolding every
every-snoc f [] p = refl
every-snoc f (x ∷ l) p = rw (every-snoc f l p) (by-test (f x) (λ e. rw e) (λ e. rw e (sym (and-false (f p)))))

on-snoc : (l : List ℕ) (p : ℕ) (ks : List ℕ) → map (is_on (l ++ (p ∷ []))) ks ≡ map (is_on (p ∷ l)) ks
unfolding is_on every
on-snoc l p [] = refl
on-snoc l p (k ∷ ks) = rw (every-snoc (λ x. not (eqb x k)) l p, on-snoc l p ks)

bits_below : (p : ℕ) (l : List ℕ) (b n : ℕ) → p < b → map (is_on (p ∷ l)) (counted b n) ≡ map (is_on l) (counted b n)
unfolding counted
bits_below p l b zero h = refl
bits_below p l b (suc n) h = rw (on-cons p l b (ne_eqb b p (omega arith)), bits_below p l (suc b) n (omega arith))

bits-cons : (p : ℕ) (l : List ℕ) (b n : ℕ) → b ≤ p → p < b + n → is_on l p ≡ false
    → from_bits (map (is_on (p ∷ l)) (counted b n)) ≡ from_bits (map (is_on l) (counted b n)) + 2 ^ (p - b)
unfolding counted from_bits pick
bits-cons p l b zero lo hi o = absurd (omega arith)
bits-cons p l b (suc n) lo hi o =
    by-test (eqb p b)
    (λ e. let q : p ≡ b = eqb-true p b e in
    let z : p - b ≡ 0 = omega arith in
    let ob : is_on l b ≡ false = rw q at o in
    rw (on-first p l b q, ob, bits_below p l (suc b) n (omega arith), z) (omega arith))
    (λ e. let ne : p ≡ b → ⊥ = eqb-false p b e in
    let z : p - b ≡ suc (p - suc b) = omega arith in
    let r : from_bits (map (is_on (p ∷ l)) (counted (suc b) n)) ≡ from_bits (map (is_on l) (counted (suc b) n)) + 2 ^ (p - suc b) =
    bits-cons p l (suc b) n (omega arith) (omega arith) o in
    rw (on-cons p l b (ne_eqb b p (λ w. ne (sym w))), r, z, pow-suc 2 (p - suc b)) (omega arith))

used-cons : (p : ℕ) (l : List ℕ) → 1 ≤ p → p ≤ 8 → is_on l p ≡ false → used_bits (p ∷ l) ≡ used_bits l + 2 ^ (p - 1)
unfolding used_bits places
used-cons p l lo hi o = bits-cons p l 1 8 lo (omega arith) o

used-snoc : (l : List ℕ) (p : ℕ) → used_bits (l ++ (p ∷ [])) ≡ used_bits (p ∷ l)
unfolding used_bits
used-snoc l p = ap from_bits (on-snoc l p places)

bits-bound : (bs : List Bool) → from_bits bs < 2 ^ length bs
unfolding from_bits pick
bits-bound [] = omega arith
bits-bound (true ∷ bs) = rw (pow-suc 2 (length bs)) (omega (arith, bits-bound bs))
bits-bound (false ∷ bs) = rw (pow-suc 2 (length bs)) (omega (arith, bits-bound bs))

used-small : (l : List ℕ) → used_bits l < 256
unfolding used_bits places counted
used-small l = bits-bound (map (is_on l) (counted 1 8))

-- ONE PLACE MORE

module _ {A : Type 0} (d : A) where
  pub every-fails : (f : A → Bool) (xs : List A) (i : ℕ) → i < length xs → f (get_or xs i d) ≡ false → every f xs ≡ false
  unfolding every
  every-fails f [] i h e = absurd (omega arith)
  every-fails f (x ∷ xs) zero h e = rw e
  every-fails f (x ∷ xs) (suc i) h e = rw (every-fails f xs i (omega arith) e) (and-false (f x))

twice : (l : List ℕ) (i : ℕ) → i < length l → is_on (take i l) (get_or l i 0) ≡ true → distinct eqb l ≡ false
unfolding distinct is_on every
twice [] i h o = absurd (omega arith)
twice (x ∷ l) zero h o = cc
twice (x ∷ l) (suc i) h o =
    by-test (eqb x (get_or l i 0))
    (λ e. rw (every-fails 0 (λ y. not (eqb x y)) l i (omega arith) (ap not e)))
    (λ e. rw (twice l i (omega arith) (rw e at o)) (and-false (every (λ y. not (eqb x y)) l)))

pub line-high : (r : List ℕ) (i : ℕ) → i < length (order_line r) → 8 < get_or (order_line r) i 0 → false ≡ line_exact r
unfolding line_exact
line-high r i h k =
    rw (every-fails 0 (within 1 8) (order_line r) i h
    (by-test (within 1 8 (get_or (order_line r) i 0)) (λ e. absurd (omega (arith, within-high 1 8 _ e))) (λ e. e)))

pub line-twice : (r : List ℕ) (i : ℕ) → i < length (order_line r) → is_on (take i (order_line r)) (get_or (order_line r) i 0) ≡ true → false ≡ line_exact r
unfolding line_exact
line-twice r i h o = rw (twice (order_line r) i h o) (sym (and-false (every (within 1 8) (order_line r))))

pub line-end : (r : List ℕ) (i used : ℕ) → length (order_line r) ≤ i → used ≡ used_bits (take i (order_line r))
    → every (within 1 8) (take i (order_line r)) ≡ true → distinct eqb (take i (order_line r)) ≡ true → eqb (get_or (head r) 17 0) used ≡ line_exact r
unfolding line_exact
line-end r i used h u e d =
    let all : take i (order_line r) ≡ order_line r = take_all i (order_line r) h in
    let e' : every (within 1 8) (order_line r) ≡ true = rw all at e in
    let d' : distinct eqb (order_line r) ≡ true = rw all at d in
    let u' : used ≡ used_bits (order_line r) = rw all at u in
    rw (e', d', u')

not_on : (l : List ℕ) (p : ℕ) → is_on l p ≡ false → every (λ x. not (eqb x p)) l ≡ true
unfolding is_on
not_on l p o = by-test (every (λ x. not (eqb x p)) l) (λ e. e) (λ e. absurd (clash {x = true} refl (rw e at o)))

pub line-turn : (l : List ℕ) (i used used' : ℕ) → i < length l → 1 ≤ get_or l i 0 → get_or l i 0 ≤ 8 → used ≡ used_bits (take i l)
    → eqb (used / 2 ^ (get_or l i 0 - 1) % 2) 1 ≡ false → used' ≡ used + 2 ^ (get_or l i 0 - 1)
    → every (within 1 8) (take i l) ≡ true → distinct eqb (take i l) ≡ true
    → (used' ≡ used_bits (take (i + 1) l)) × (every (within 1 8) (take (i + 1) l) ≡ true) × (distinct eqb (take (i + 1) l) ≡ true)
line-turn l i used used' h lo hi u f u' e d =
    let p : ℕ = get_or l i 0 in
    let more : take (i + 1) l ≡ take i l ++ (p ∷ []) = rw add-one (take-suc l i 0 h) in
    let off : is_on (take i l) p ≡ false = sym (used-bit (take i l) p lo hi) ∙ (rw u at f) in
    rw more (
      u' ∙ ap (λ (x : ℕ). x + 2 ^ (p - 1)) u ∙ sym (used-cons p (take i l) lo hi off) ∙ sym (used-snoc (take i l) p),
      every_append (within 1 8) (take i l) (p ∷ []) e (every_one (within 1 8) p (in_within 1 8 p lo hi)),
      distinct_snoc eqb (take i l) p d (not_on (take i l) p off),
    )

off-line : (l : List ℕ) (p : ℕ) → every (λ y. not (eqb p y)) l ≡ true → is_on l p ≡ false
unfolding is_on
off-line l p h = ap not (every-imp (λ y. not (eqb p y)) (λ x. not (eqb x p)) (λ x t. ap not (eqb_comm x p) ∙ t) l h)

ones_none : ones 0 ≡ 0
unfolding ones ones_in
ones_none = refl

-- the ones of byte 17 are as many as the places on an exact line
ones-of : (l : List ℕ) → every (within 1 8) l ≡ true → distinct eqb l ≡ true → ones (used_bits l) ≡ length l
unfolding every distinct
ones-of [] e d = rw (← used-none) ones_none
ones-of (p ∷ l) e d =
    let w : within 1 8 p ≡ true = and_left (within 1 8 p) _ e in
    let lo : 1 ≤ p = within_low 1 8 p w in
    let hi : p ≤ 8 = within-high 1 8 p w in
    let off : is_on l p ≡ false = off-line l p (and_left _ (distinct eqb l) d) in
    rw (used-cons p l lo hi off, ones-adds (used_bits l) (p - 1) (used-small l) (omega arith) (used-bit l p lo hi ∙ off))
    (ap suc (ones-of l (and_right (within 1 8 p) _ e) (and_right (every (λ y. not (eqb p y)) l) _ d)))

pub record Exact (r : List ℕ) : Type 0 where
  pub in-range : every (within 1 8) (order_line r) ≡ true
  pub once : distinct eqb (order_line r) ≡ true
  pub bits : get_or (head r) 17 0 ≡ used_bits (order_line r)

pub exact : (r : List ℕ) → line_exact r ≡ true → Exact r
unfolding line_exact
exact r h =
    let h1 = and_right (every (within 1 8) (order_line r)) _ h in
    record {
      in-range = and_left (every (within 1 8) (order_line r)) _ h;
      once = and_left (distinct eqb (order_line r)) _ h1;
      bits = eqb-true (get_or (head r) 17 0) (used_bits (order_line r)) (and_right (distinct eqb (order_line r)) _ h1);
    }

pub ones-line : (r : List ℕ) → line_exact r ≡ true → ones (get_or (head r) 17 0) ≡ length (order_line r)
ones-line r h =
    let x : Exact r = exact r h in
    ap ones x.bits ∙ ones-of (order_line r) x.in-range x.once

-- each place on an exact line
pub line-high-at : (r : List ℕ) (i : ℕ) → line_exact r ≡ true → i < length (order_line r) → get_or (order_line r) i 0 ≤ 8
line-high-at r i h l =
    by-test (leb (get_or (order_line r) i 0) 8)
    (λ e. leb-true _ 8 e)
    (λ e. absurd (clash h (sym (line-high r i l (leb-false _ 8 e)))))

-- THE PLACES, ONE BY ONE

pub places-turn : (f : ℕ → Bool) (k : ℕ) → k < 9 → every f (counted k (9 - k)) ≡ f k && every f (counted (k + 1) (9 - (k + 1)))
unfolding every counted
places-turn f k h = let q : 9 - k ≡ suc (9 - (k + 1)) = omega arith in rw (q, add-one)

pub places-end : (f : ℕ → Bool) (k : ℕ) → 9 ≤ k → every f (counted k (9 - k)) ≡ true
unfolding every counted
places-end f k h = let q : 9 - k ≡ 0 = omega arith in rw q

pub places-all : (f : ℕ → Bool) → every f (counted 1 (9 - 1)) ≡ every f places
unfolding places
places-all f = refl

pub place-high : (r : List ℕ) (i : ℕ) → line_exact r ≡ true → i < length (order_line r) → get_or (line_room r) i 0 ≤ 8
place-high r i x l = omega (arith, line-high-at r i x l, line_at r i l)

-- whether place k is in use, by byte 17
pub used-by : (r : List ℕ) (k x : ℕ) → x ≡ get_or (head r) 17 0 → eqb (x / 2 ^ (k - 1) % 2) 1 ≡ in_use r k
unfolding in_use
used-by r k x e = ap (λ (y : ℕ). eqb (y / 2 ^ (k - 1) % 2) 1) e
