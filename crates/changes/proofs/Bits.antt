-- Byte 17: its ones are the accesses, and the zeros that its complement ends in lead to the lowest free place.
use mathlib.Core.Path.{◌≡◌, refl, sym, ap, ◌∙◌}
use mathlib.Core.Bool.{Bool, true, false, not, ◌&&◌}
use mathlib.Core.List.{List, [], ◌∷◌, map}
use Prim.Native.Nat.{ℕ, zero, suc, ◌+◌, ◌-◌, ◌*◌, ◌≤◌, ◌<◌, ◌%◌, ◌/◌, ◌^◌}
use native.Mathlib.Omega.{arith}
use native.Mathlib.Nat.{pow-suc}
use borrow.Author.Tests.{eqb-true}
use lib.Dec.{eqb}
use lib.Count.{ones, ones_step, count_trailing_zeros}
use lib.ListN.{length}
use Rattle.octets.specs.Choice.{pick, within}
use Rattle.octets.specs.Lists.{counted, distinct, every, first_or, is_on, keep}
use Rattle.table.specs.TheTable.{Access, from_bits, line, places, used_bits}
use Rattle.changes.specs.Changes.{lowest_free, vacant}
use Rattle.changes.specs.Writes.{is_clear, lowest_clear}
use Rattle.octets.proofs.Lists.{and_left, and_right, by-test, eqb_comm, every-imp, every_map, every_of, in-counted, keep_all, keep-and, keep-split, on-cons, on_none, within-high, within_low}
use Rattle.table.proofs.Bytes.{each-place}
use Rattle.table.proofs.Form.{every-on}
use Rattle.table.proofs.Good.{good_access, places-eight}

unfoldable pub trues : List Bool → ℕ
trues [] = 0
trues (b ∷ bs) = pick b 1 0 + trues bs

-- how many are true before the first that is false
unfoldable pub leading : List Bool → ℕ
leading [] = 0
leading (b ∷ bs) = pick b (suc (leading bs)) 0

pub bits-bound : (bs : List Bool) → from_bits bs < 2 ^ length bs
unfolding from_bits pick
bits-bound [] = omega arith
bits-bound (true ∷ bs) = rw (pow-suc 2 (length bs)) (omega (arith, bits-bound bs))
bits-bound (false ∷ bs) = rw (pow-suc 2 (length bs)) (omega (arith, bits-bound bs))

pub ones-bits : (bs : List Bool) → ones (from_bits bs) ≡ trues bs
unfolding from_bits trues pick
ones-bits [] = unfold ones lib.Count.ones_in in refl
ones-bits (true ∷ bs) =
    let q : (1 + 2 * from_bits bs) / 2 ≡ from_bits bs = omega arith in
    let m : (1 + 2 * from_bits bs) % 2 ≡ 1 = omega arith in
    rw (ones_step (1 + 2 * from_bits bs), q, m, ones-bits bs)
ones-bits (false ∷ bs) =
    let q : (0 + 2 * from_bits bs) / 2 ≡ from_bits bs = omega arith in
    let m : (0 + 2 * from_bits bs) % 2 ≡ 0 = omega arith in
    rw (ones_step (0 + 2 * from_bits bs), q, m, ones-bits bs)

pub trailing-bits : (bs : List Bool) → count_trailing_zeros (length bs) (2 ^ length bs - 1 - from_bits bs) ≡ leading bs
unfolding from_bits leading pick count_trailing_zeros
trailing-bits [] = refl
trailing-bits (true ∷ bs) =
    let p : 2 ^ suc (length bs) - 1 - (1 + 2 * from_bits bs) ≡ 2 * (2 ^ length bs - 1 - from_bits bs) = omega (arith, pow-suc 2 (length bs), bits-bound bs) in
    let q : (2 * (2 ^ length bs - 1 - from_bits bs)) / 2 ≡ 2 ^ length bs - 1 - from_bits bs = omega arith in
    let m : (2 * (2 ^ length bs - 1 - from_bits bs)) % 2 ≡ 0 = omega arith in
    rw (p, q, m, trailing-bits bs)
trailing-bits (false ∷ bs) =
    let p : 2 ^ suc (length bs) - 1 - (0 + 2 * from_bits bs) ≡ 1 + 2 * (2 ^ length bs - 1 - from_bits bs) = omega (arith, pow-suc 2 (length bs), bits-bound bs) in
    let m : (1 + 2 * (2 ^ length bs - 1 - from_bits bs)) % 2 ≡ 1 = omega arith in
    rw (p, m)

-- the lowest free place

pub is-vacant : (a : List Access) (k : ℕ) → is_on (line a) k ≡ not (vacant a k)
unfolding is_on line vacant
is-vacant a k = rw every_map

first-vacant : (a : List Access) (b n : ℕ) → 1 ≤ length (keep (vacant a) (counted b n)) → first_or 0 (keep (vacant a) (counted b n)) ≡ b + leading (map (is_on (line a)) (counted b n))
unfolding keep counted leading first_or pick
first-vacant a b zero h = absurd (omega arith)
first-vacant a b (suc n) h =
    by-test (vacant a b)
    (λ e. rw (e, is-vacant a b, e) (omega arith))
    (λ e. rw (e, is-vacant a b, e) (omega (arith, first-vacant a (suc b) n (rw e at h))))

pub lowest-free : (a : List Access) → 1 ≤ length (keep (vacant a) places) → lowest_free a ≡ 1 + count_trailing_zeros 8 (255 - used_bits (line a))
unfolding lowest_free places used_bits counted
lowest-free a h = first-vacant a 1 8 h ∙ ap (λ (z : ℕ). 1 + z) (sym (trailing-bits (map (is_on (line a)) places)))

-- of each of the 255 bytes with a clear bit: the lowest clear bit is the lowest set bit of its complement, which the zeros at the end of that count
unfoldable leads : (x : ℕ) → Bool
leads x = eqb (1 + count_trailing_zeros 8 (255 - x)) (lowest_clear x) && within 1 8 (lowest_clear x)

all-lead : every leads (counted 0 255) ≡ true
unfolding leads every counted within lowest_clear is_clear first_or keep pick places count_trailing_zeros
all-lead = refl

module _ (x : ℕ) (h : x < 255) where
  each-leads : eqb (1 + count_trailing_zeros 8 (255 - x)) (lowest_clear x) && within 1 8 (lowest_clear x) ≡ true
  unfolding leads
  each-leads = every-on leads (counted 0 255) x all-lead (in-counted 0 255 x (omega arith) (omega arith))

  pub lowest-clear : count_trailing_zeros 8 (255 - x) + 1 ≡ lowest_clear x
  lowest-clear = omega (arith, eqb-true (1 + count_trailing_zeros 8 (255 - x)) (lowest_clear x) (and_left (eqb (1 + count_trailing_zeros 8 (255 - x)) (lowest_clear x)) _ each-leads))

  pub clear_in : (1 ≤ lowest_clear x) × (lowest_clear x ≤ 8)
  clear_in =
      let w : within 1 8 (lowest_clear x) ≡ true = and_right (eqb (1 + count_trailing_zeros 8 (255 - x)) (lowest_clear x)) _ each-leads in
      (within_low 1 8 _ w, within-high 1 8 _ w)

-- as many ones as accesses

-- among numbers that all differ, the test "not p" takes exactly p out, if p is one of them
keep-just-one : (f : ℕ → Bool) (p : ℕ) (ks : List ℕ) → distinct eqb ks ≡ true → is_on ks p ≡ true → f p ≡ true
    → length (keep f ks) ≡ suc (length (keep (λ k. not (eqb p k) && f k) ks))
unfolding keep distinct pick
keep-just-one f p [] d o t = let z : true ≡ false = sym o ∙ on_none p in cc
keep-just-one f p (k ∷ ks) d o t =
    by-test (eqb p k)
    (λ e. let q : p ≡ k = eqb-true p k e in
    let r : keep (λ j. not (eqb p j) && f j) ks ≡ keep f ks = rw q (keep-and f (λ j. not (eqb k j)) ks (and_left _ (distinct eqb ks) d)) in
    let tk : f k ≡ true = rw q at t in
    rw (e, tk, r))
    (λ e. let r : length (keep f ks) ≡ suc (length (keep (λ k. not (eqb p k) && f k) ks)) =
    keep-just-one f p ks (and_right (every (λ y. not (eqb k y)) ks) _ d) (sym (on-cons k ks p e) ∙ o) t in
    by-test (f k) (λ u. rw (e, u) (ap suc r)) (λ u. rw (e, u) r))

others-vacant : (p : ℕ) (a : List Access) → every (λ y. not (eqb p y)) (line a) ≡ true → vacant a p ≡ true
unfolding line vacant
others-vacant p a h = every-imp _ _ (λ (x : Access) t. ap not (eqb_comm x.place p) ∙ t) a (rw every_map at h)

vacant-exact : (a : List Access) (ks : List ℕ) → distinct eqb ks ≡ true → distinct eqb (line a) ≡ true → every (is_on ks) (line a) ≡ true
    → length ks ≡ length (keep (vacant a) ks) + length a
unfolding vacant every line distinct
vacant-exact [] ks d l o = omega (arith, ap length (keep_all (λ (k : ℕ). true) ks (every_of _ (λ k. refl) ks)))
vacant-exact (x ∷ a) ks d l o =
    let v : vacant a x.place ≡ true = others-vacant x.place a (and_left _ (distinct eqb (line a)) l) in
    omega (arith, vacant-exact a ks d (and_right (every (λ y. not (eqb x.place y)) (line a)) _ l) (and_right (is_on ks x.place) _ o), keep-just-one (vacant a) x.place ks d (and_left (is_on ks x.place) _ o) v)

trues-keep : (a : List Access) (ks : List ℕ) → trues (map (is_on (line a)) ks) ≡ length (keep (λ k. not (vacant a k)) ks)
unfolding trues keep pick
trues-keep a [] = refl
trues-keep a (k ∷ ks) = rw (is-vacant a k, trues-keep a ks) (by-test (vacant a k) (λ e. rw e (omega arith)) (λ e. rw e (omega arith)))

on-places : (l : List ℕ) → every (within 1 8) l ≡ true → every (is_on places) l ≡ true
unfolding places
on-places l h = every-imp (within 1 8) _ (λ x w. in-counted 1 8 x (within_low 1 8 x w) (omega (arith, within-high 1 8 x w))) l h

pub ones-accesses : (fm : ℕ) (a : List Access) (n : ℕ) → every (good_access fm n) a ≡ true → distinct eqb (line a) ≡ true → ones (used_bits (line a)) ≡ length a
unfolding used_bits
ones-accesses fm a n g d =
    let on : every (is_on places) (line a) ≡ true = on-places (line a) (each-place fm n a g) in
    omega (arith, ones-bits (map (is_on (line a)) places), trues-keep a places, keep-split (vacant a) places, vacant-exact a places places-eight.0 d on)
