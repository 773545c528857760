-- The paper's clauses and the form that the theorems use are the same test: `sound-is`.
use mathlib.Core.Path.{◌≡◌, refl, sym, ap, ◌∙◌}
use mathlib.Core.Bool.{Bool, true, false, ◌&&◌, and_assoc, and-false, and-true}
use mathlib.Core.List.{List, [], ◌∷◌, ◌++◌, map}
use Prim.Native.Nat.{ℕ, zero, suc, ◌+◌, ◌-◌, ◌*◌, ◌/◌, ◌%◌, ◌^◌, ◌≤◌, ◌<◌}
use native.Mathlib.Nat.{pow-zero, pow-succ', div-one, div-div-eq-div-mul, zero-div}
use native.Mathlib.Omega.{arith}
use borrow.Author.Tests.{leb-true, leb-false, le-leb, lt-leb, eqb-true, eq-eqb, ne_eqb}
use lib.Dec.{eqb, leb}
use lib.ListN.{length, get_or, take, drop, length-take, length-drop, take-append-drop}
use lib.Seq.{drop-cons, take_all}
use Rattle.octets.specs.Choice.{pick, within}
use Rattle.octets.specs.Lists.{counted, distinct, every, is_on, sum_of, up_to0}
use Rattle.octets.specs.Texts.{all_zero, part, same, zeros}
use Rattle.octets.proofs.Lists.{and_left, and_right, both, by-test, every-imp, every_map, in-counted, on-first, same-eq, within-high, within_low}
use Rattle.octets.proofs.Texts.{length_part, zero-cons, zero-end}
use Rattle.table.proofs.Bytes.{length-row, read_place, said-good, said-is, said_row}
use Rattle.table.proofs.Form.{Sized, access_tests, block_tests, entries_tests, entry_tests, every-on, head_tests, is-sized, length-head-of, length-place-of, length-read, line_read, place_tests, said-tests, second_tests, sized, sum_ok, tests}
use Rattle.table.proofs.Good.{Entered, Fits, Good, Standing, by_form, each-entry, good-is, good_access, good_entry, places-eight, said_sound, spare, stand, standing}
use Rattle.table.specs.Soundness.{access_form, entries_form, entry_form, has_form, head_form, in_use, is_name, is_row, labels, limits, line_exact, of_blocks, only_behind, place_form, place_sums, policies_in_order, policy_marked, same_label, second_form, sessions, sound, sums_agree, under_limits, zero_behind}
use Rattle.table.specs.TheTable.{block_length, Access, Entry, Subscriber, access_at, first_block, form_of, from_bits, head, is_form, order_line, place, place_length, places, second_block, read_access, read_entries, read_entry, read_row, row_bytes, sums_from, used_bits}

-- BITS

-- bit i of a number made from bits
pub bit-of : (bs : List Bool) (i : ℕ) → eqb (from_bits bs / 2 ^ i % 2) 1 ≡ get_or bs i false
unfolding from_bits pick
bit-of [] i = rw (zero-div (2 ^ i))
bit-of (true ∷ bs) zero = rw (pow-zero 2, div-one (1 + 2 * from_bits bs)) (eq-eqb ((1 + 2 * from_bits bs) % 2) 1 (omega arith))
bit-of (false ∷ bs) zero = rw (pow-zero 2, div-one (0 + 2 * from_bits bs)) (ne_eqb ((0 + 2 * from_bits bs) % 2) 1 (omega arith))
bit-of (b ∷ bs) (suc i) =
    rw (pow-succ' 2 i, ← div-div-eq-div-mul (pick b 1 0 + 2 * from_bits bs) 2 (2 ^ i), half b (from_bits bs)) (bit-of bs i)
  where
    half : (b : Bool) (n : ℕ) → (pick b 1 0 + 2 * n) / 2 ≡ n
    half true n = omega arith
    half false n = omega arith

pub at-counted : (f : ℕ → Bool) (b n i : ℕ) → i < n → get_or (map f (counted b n)) i false ≡ f (b + i)
unfolding counted
at-counted f b zero i h = absurd (omega arith)
at-counted f b (suc n) zero h = let q : b + 0 ≡ b = omega arith in rw q
at-counted f b (suc n) (suc i) h = let q : b + suc i ≡ suc b + i = omega arith in rw q (at-counted f (suc b) n i (omega arith))

-- where byte 17 has the line's bits, a place is in use exactly if it is on the line
pub in_use_lem : (r : List ℕ) (k : ℕ) → get_or (head r) 17 0 ≡ used_bits (order_line r) → within 1 8 k ≡ true → in_use r k ≡ is_on (order_line r) k
unfolding in_use used_bits places
in_use_lem r k h w =
    let lo : 1 ≤ k = within_low 1 8 k w in
    let hi : k ≤ 8 = within-high 1 8 k w in
    let q : 1 + (k - 1) ≡ k = omega arith in
    rw (h, bit-of (map (is_on (order_line r)) (counted 1 8)) (k - 1), at-counted (is_on (order_line r)) 1 8 (k - 1) (omega arith), q)

-- LENGTHS

-- a text's length is what its length byte says, or both are too large
pub text-leb : (b : List ℕ) (i n hi : ℕ) → i + hi < length b → leb (length (part b i n)) hi ≡ leb n hi
text-leb b i n hi h =
    by-test (leb n hi)
    (λ e. let le : n ≤ hi = leb-true n hi e in rw e (le-leb (length (part b i n)) hi (simp (length-take, length-drop) (omega arith))))
    (λ e. let gt : hi < n = leb-false n hi e in rw e (lt-leb (length (part b i n)) hi (simp (length-take, length-drop) (omega arith))))

pub text-within : (b : List ℕ) (i n lo hi : ℕ) → i + hi < length b → within lo hi (length (part b i n)) ≡ within lo hi n
unfolding within
text-within b i n lo hi h =
    let t : leb (length (part b i n)) hi ≡ leb n hi = text-leb b i n hi h in
    by-test (leb n hi)
    (λ e. let le : n ≤ hi = leb-true n hi e in
    let q : length (part b i n) ≡ n = simp (length-take, length-drop) (omega arith) in rw q)
    (λ e. rw (t, e) (and-false (leb lo (length (part b i n))) ∙ sym (and-false (leb lo n))))

-- ENTRIES

shuffle5 : (a b c d e : Bool) → a && (b && (c && (d && e))) ≡ (a && (c && d)) && (b && e)
shuffle5 false b c d e = refl
shuffle5 true false c d e = sym (and-false (c && d))
shuffle5 true true c d e = sym (and_assoc c d e)

shuffle4 : (a b c d : Bool) → (a && b) && (c && d) ≡ (a && c) && (b && d)
shuffle4 false b c d = refl
shuffle4 true b false d = and-false b
shuffle4 true b true d = refl

entry-form : (t : List ℕ) → length t ≡ 104 → entry_form t ≡ good_entry (read_entry t) && entry_tests t
unfolding entry_form good_entry read_entry entry_tests
entry-form t h =
    rw (text-within t 1 (get_or t 0 0) 1 100 (omega arith))
    (shuffle5 (within 1 100 (get_or t 0 0)) (zero_behind (get_or t 0 0) (part t 1 100)) (leb (get_or t 101 0) 3) (within 1 8 (get_or t 102 0)) (eqb (get_or t 103 0) 0))

entries-form : (n m : ℕ) (t : List ℕ) → length t ≡ 104 * m → n ≤ m → entries_form n t ≡ every good_entry (read_entries n t) && entries_tests n t
unfolding entries_form read_entries entries_tests every
entries-form zero m t h le = refl
entries-form (suc n) zero t h le = absurd (omega arith)
entries-form (suc n) (suc m) t h le =
    let lt : length (take 104 t) ≡ 104 = rw length-take (omega arith) in
    let ld : length (drop 104 t) ≡ 104 * m = rw length-drop (omega arith) in
    rw (entry-form (take 104 t) lt, entries-form n m (drop 104 t) ld (omega arith))
    (shuffle4 (good_entry (read_entry (take 104 t))) (entry_tests (take 104 t)) (every good_entry (read_entries n (drop 104 t))) (entries_tests n (drop 104 t)))

-- WHAT STANDS ON A LINE

pub on-more : (x : ℕ) (l : List ℕ) (k : ℕ) → is_on l k ≡ true → is_on (x ∷ l) k ≡ true
unfolding is_on every
on-more x l k o = by-test (eqb x k) (λ e. rw e) (λ e. rw e o)

each-self : (l : List ℕ) → every (is_on l) l ≡ true
unfolding every
each-self [] = refl
each-self (x ∷ l) = both (on-first x l x refl) (every-imp (is_on l) (is_on (x ∷ l)) (on-more x l) l (each-self l))

-- what holds of each place on the line, and of each place
pub each_on : (l : List ℕ) (f : ℕ → Bool) → ((k : ℕ) → is_on l k ≡ true → f k ≡ true) → every f l ≡ true
each_on l f h = every-imp (is_on l) f h l (each-self l)

pub each-place-of : (f : ℕ → Bool) → ((k : ℕ) → within 1 8 k ≡ true → f k ≡ true) → every f places ≡ true
each-place-of f h = every-imp (within 1 8) f h places places-eight.1

pub at_place : (f : ℕ → Bool) (k : ℕ) → every f places ≡ true → within 1 8 k ≡ true → f k ≡ true
unfolding places
at_place f k h w = every-on f (counted 1 8) k h (in-counted 1 8 k (within_low 1 8 k w) (omega (arith, within-high 1 8 k w)))

-- ONE PLACE

zero-pair : (b : List ℕ) (i : ℕ) → suc i < length b → all_zero (part b i 2) ≡ eqb (get_or b i 0) 0 && eqb (get_or b (suc i) 0) 0
unfolding all_zero same zeros
zero-pair b i h =
    rw (drop-cons b i 0 (omega arith), drop-cons b (suc i) 0 h)
    (ap (λ (t : Bool). eqb (get_or b i 0) 0 && t) (and-true (eqb (get_or b (suc i) 0) 0)))

mark-is : (n : ℕ) → pick {A = ℕ} (leb 1 n) 1 0 ≡ pick (eqb n 0) 0 1
unfolding pick
mark-is zero = refl
mark-is (suc n) = rw (le-leb 1 (suc n) (omega arith), ne_eqb (suc n) 0 (omega arith))

mark-small : (m n : ℕ) → eqb m (pick (eqb n 0) 0 1) ≡ true → leb m 1 ≡ true
unfolding pick
mark-small m n h =
    by-test (eqb n 0)
    (λ e. le-leb m 1 (omega (arith, eqb-true m 0 (rw e at h))))
    (λ e. le-leb m 1 (omega (arith, eqb-true m 1 (rw e at h))))

pub sums-tail : (b : List ℕ) → length b ≡ block_length → sums_agree b ≡ sum_ok b
unfolding sum_ok sums_agree
sums-tail b h = rw (take_all 2 (drop 510 b) (rw length-drop (omega arith)))

zero-three : (b : List ℕ) (i : ℕ) → suc (suc i) < length b → all_zero (part b i 3) ≡ eqb (get_or b i 0) 0 && (eqb (get_or b (suc i) 0) 0 && eqb (get_or b (suc (suc i)) 0) 0)
unfolding all_zero same zeros
zero-three b i h =
    rw (drop-cons b i 0 (omega arith), drop-cons b (suc i) 0 (omega arith), drop-cons b (suc (suc i)) 0 h)
    (ap (λ (t : Bool). eqb (get_or b i 0) 0 && (eqb (get_or b (suc i) 0) 0 && t)) (and-true (eqb (get_or b (suc (suc i)) 0) 0)))

sums-of-zeros : sum_ok (zeros block_length) ≡ true
unfolding sum_ok zeros sums_from same
sums-of-zeros = refl

pub sums-zero : (b : List ℕ) → length b ≡ block_length → all_zero b ≡ true → sum_ok b ≡ true
unfolding all_zero
sums-zero b h z = rw (same-eq b (zeros (length b)) z, h) sums-of-zeros

-- the parts of a place that is wholly zero
zero-part : (s t : List ℕ) → all_zero (s ++ t) ≡ true → (all_zero s ≡ true) × (all_zero t ≡ true)
zero-part [] t h = (zero-end [] 0 (omega arith), h)
zero-part (x ∷ s) t h =
    let w : eqb x 0 && all_zero (s ++ t) ≡ true = sym (zero-cons x (s ++ t)) ∙ h in
    let i = zero-part s t (and_right (eqb x 0) _ w) in
    (zero-cons x s ∙ both (and_left (eqb x 0) _ w) i.0, i.1)

zero-take : (n : ℕ) (p : List ℕ) → all_zero p ≡ true → all_zero (take n p) ≡ true
zero-take n p h = (zero-part (take n p) (drop n p) (ap all_zero (take-append-drop n p) ∙ h)).0

zero-drop : (n : ℕ) (p : List ℕ) → all_zero p ≡ true → all_zero (drop n p) ≡ true
zero-drop n p h = (zero-part (take n p) (drop n p) (ap all_zero (take-append-drop n p) ∙ h)).1

-- the first block of a place in use, by the paper's clauses and by the tests
pub record Formed (b : List ℕ) : Type 0 where
  pub two : eqb (get_or b 0 0) 2 ≡ true
  pub session-in : within 1 128 (get_or b 2 0) ≡ true
  pub host-in : within 1 128 (get_or b 3 0) ≡ true
  pub policy-in : leb (get_or b 5 0) 128 ≡ true
  pub six : eqb (get_or b 6 0) 0 ≡ true
  pub seven : eqb (get_or b 7 0) 0 ≡ true
  pub session-end : zero_behind (get_or b 2 0) (part b 8 128) ≡ true
  pub host-end : zero_behind (get_or b 3 0) (part b 136 128) ≡ true
  pub policy-end : zero_behind (get_or b 5 0) (part b 264 128) ≡ true
  pub end : all_zero (part b 392 118) ≡ true

form-of : (b : List ℕ) → length b ≡ block_length → access_form b ≡ true → Formed b
unfolding access_form
form-of b h f =
    let f1 = and_right (eqb (get_or b 0 0) 2) _ f in
    let f2 = and_right (within 1 128 (get_or b 2 0)) _ f1 in
    let f3 = and_right (within 1 128 (get_or b 3 0)) _ f2 in
    let f4 = and_right (leb (get_or b 5 0) 128) _ f3 in
    let f5 = and_right (leb (get_or b 4 0) 1) _ f4 in
    let f6 = and_right (all_zero (part b 6 2)) _ f5 in
    let f7 = and_right (zero_behind (get_or b 2 0) (part b 8 128)) _ f6 in
    let f8 = and_right (zero_behind (get_or b 3 0) (part b 136 128)) _ f7 in
    let z : eqb (get_or b 6 0) 0 && eqb (get_or b 7 0) 0 ≡ true = sym (zero-pair b 6 (omega arith)) ∙ and_left (all_zero (part b 6 2)) _ f5 in
    record {
      two = and_left (eqb (get_or b 0 0) 2) _ f;
      session-in = and_left (within 1 128 (get_or b 2 0)) _ f1;
      host-in = and_left (within 1 128 (get_or b 3 0)) _ f2;
      policy-in = and_left (leb (get_or b 5 0) 128) _ f3;
      six = and_left (eqb (get_or b 6 0) 0) _ z;
      seven = and_right (eqb (get_or b 6 0) 0) _ z;
      session-end = and_left (zero_behind (get_or b 2 0) (part b 8 128)) _ f6;
      host-end = and_left (zero_behind (get_or b 3 0) (part b 136 128)) _ f7;
      policy-end = and_left (zero_behind (get_or b 5 0) (part b 264 128)) _ f8;
      end = and_right (zero_behind (get_or b 5 0) (part b 264 128)) _ f8;
    }

of-form : (b : List ℕ) → length b ≡ block_length → leb (get_or b 4 0) 1 ≡ true → Formed b → access_form b ≡ true
unfolding access_form
of-form b h m f =
    let z : all_zero (part b 6 2) ≡ true = zero-pair b 6 (omega arith) ∙ both f.six f.seven in
    rw (f.two, f.session-in, f.host-in, f.policy-in, m, z, f.session-end, f.host-end, f.policy-end, f.end)

tests-of : (b : List ℕ) → eqb (get_or b 4 0) (pick (eqb (get_or b 5 0) 0) 0 1) ≡ true → sum_ok b ≡ true → Formed b → access_tests b ≡ true
unfolding access_tests
tests-of b m s f = rw (f.two, m, f.six, f.seven, f.session-end, f.host-end, f.policy-end, f.end, s)

-- the second block, by the paper's clauses and by the tests
pub record Formed2 (c : List ℕ) : Type 0 where
  pub three : eqb (get_or c 0 0) 3 ≡ true
  pub realm-in : leb (get_or c 1 0) 128 ≡ true
  pub second-in : leb (get_or c 3 0) 128 ≡ true
  pub third-in : leb (get_or c 4 0) 128 ≡ true
  pub two : eqb (get_or c 2 0) 0 ≡ true
  pub five : eqb (get_or c 5 0) 0 ≡ true
  pub six : eqb (get_or c 6 0) 0 ≡ true
  pub seven : eqb (get_or c 7 0) 0 ≡ true
  pub realm-end : zero_behind (get_or c 1 0) (part c 8 128) ≡ true
  pub second-end : zero_behind (get_or c 3 0) (part c 136 128) ≡ true
  pub third-end : zero_behind (get_or c 4 0) (part c 264 128) ≡ true
  pub end : all_zero (part c 392 118) ≡ true

form-of2 : (c : List ℕ) → length c ≡ block_length → second_form c ≡ true → Formed2 c
unfolding second_form
form-of2 c h f =
    let f1 = and_right (eqb (get_or c 0 0) 3) _ f in
    let f2 = and_right (leb (get_or c 1 0) 128) _ f1 in
    let f3 = and_right (leb (get_or c 3 0) 128) _ f2 in
    let f4 = and_right (leb (get_or c 4 0) 128) _ f3 in
    let f5 = and_right (eqb (get_or c 2 0) 0) _ f4 in
    let f6 = and_right (all_zero (part c 5 3)) _ f5 in
    let f7 = and_right (zero_behind (get_or c 1 0) (part c 8 128)) _ f6 in
    let f8 = and_right (zero_behind (get_or c 3 0) (part c 136 128)) _ f7 in
    let z : eqb (get_or c 5 0) 0 && (eqb (get_or c 6 0) 0 && eqb (get_or c 7 0) 0) ≡ true = sym (zero-three c 5 (omega arith)) ∙ and_left (all_zero (part c 5 3)) _ f5 in
    let z1 = and_right (eqb (get_or c 5 0) 0) _ z in
    record {
      three = and_left (eqb (get_or c 0 0) 3) _ f;
      realm-in = and_left (leb (get_or c 1 0) 128) _ f1;
      second-in = and_left (leb (get_or c 3 0) 128) _ f2;
      third-in = and_left (leb (get_or c 4 0) 128) _ f3;
      two = and_left (eqb (get_or c 2 0) 0) _ f4;
      five = and_left (eqb (get_or c 5 0) 0) _ z;
      six = and_left (eqb (get_or c 6 0) 0) _ z1;
      seven = and_right (eqb (get_or c 6 0) 0) _ z1;
      realm-end = and_left (zero_behind (get_or c 1 0) (part c 8 128)) _ f6;
      second-end = and_left (zero_behind (get_or c 3 0) (part c 136 128)) _ f7;
      third-end = and_left (zero_behind (get_or c 4 0) (part c 264 128)) _ f8;
      end = and_right (zero_behind (get_or c 4 0) (part c 264 128)) _ f8;
    }

of-form2 : (c : List ℕ) → length c ≡ block_length → Formed2 c → second_form c ≡ true
unfolding second_form
of-form2 c h f =
    let z : all_zero (part c 5 3) ≡ true = zero-three c 5 (omega arith) ∙ both f.five (both f.six f.seven) in
    rw (f.three, f.realm-in, f.second-in, f.third-in, f.two, z, f.realm-end, f.second-end, f.third-end, f.end)

tests-of2 : (c : List ℕ) → sum_ok c ≡ true → Formed2 c → second_tests c ≡ true
unfolding second_tests
tests-of2 c s f = rw (f.three, f.two, f.five, f.six, f.seven, f.realm-end, f.second-end, f.third-end, f.end, s)

-- the blocks of a place by the paper's clauses; form 1 has no second
pub record Blocks (fm : ℕ) (p : List ℕ) : Type 0 where
  pub first : Formed (first_block p)
  pub first-sum : sum_ok (first_block p) ≡ true
  pub marked : eqb (get_or (first_block p) 4 0) (pick (eqb (get_or (first_block p) 5 0) 0) 0 1) ≡ true
  pub second : fm ≡ 2 → Formed2 (second_block p)
  pub second-sum : fm ≡ 2 → sum_ok (second_block p) ≡ true
  pub second-behind : only_behind (get_or (second_block p) 3 0) (get_or (first_block p) 5 0) ≡ true
  pub third-behind : only_behind (get_or (second_block p) 4 0) (get_or (second_block p) 3 0) ≡ true

-- what is asked of both blocks, apart
of-both : (fm : ℕ) (x y : Bool) → of_blocks fm x y ≡ true → (x ≡ true) × (fm ≡ 2 → y ≡ true)
unfolding of_blocks pick
of-both fm x y h =
    (and_left x _ h, λ e. let t : pick (eqb fm 2) y true ≡ true = and_right x _ h in rw (eq-eqb fm 2 e) at t)

both_of : (fm : ℕ) (x y : Bool) → x ≡ true → (fm ≡ 2 → y ≡ true) → of_blocks fm x y ≡ true
unfolding of_blocks pick
both_of fm x y a b = by-test (eqb fm 2) (λ e. rw (a, e, b (eqb-true fm 2 e))) (λ e. rw (a, e))

-- a place that has no second block says nothing of it
none-second : (c : List ℕ) → length c ≡ 0 → c ≡ []
none-second [] h = refl
none-second (x ∷ c) h = absurd (omega arith)

-- the lengths of the texts, as their length bytes say
module _ (fm : ℕ) (p : List ℕ) (f : is_form fm ≡ true) (size : length p ≡ place_length fm) where
  first-size : length (first_block p) ≡ block_length
  unfolding is_form
  first-size = rw length-take (omega (arith, within_low 1 2 fm f))

  second-size : fm ≡ 2 → length (second_block p) ≡ block_length
  second-size e = rw length-drop (omega arith)

  second_none : fm ≡ 1 → second_block p ≡ []
  second_none e = none-second (second_block p) (rw length-drop (omega arith))

  -- a length byte of the second block, which form 1 has not
  second_short : (j : ℕ) → ◌≡◌ {A = ℕ} (get_or [] j 0) 0 → (fm ≡ 2 → get_or (second_block p) j 0 ≤ 128) → get_or (second_block p) j 0 ≤ 128
  second_short j none h =
      by_form (λ g. (g ≡ 1 → second_block p ≡ []) → (g ≡ 2 → get_or (second_block p) j 0 ≤ 128) → get_or (second_block p) j 0 ≤ 128) fm f
      (λ o t. rw (o refl) (omega (arith, none)))
      (λ o t. t refl)
      second_none h

  -- a text of the second block is as long as its length byte says, and fits
  second-text : (i j : ℕ) → i ≤ 264 → ◌≡◌ {A = ℕ} (get_or [] j 0) 0 → get_or (second_block p) j 0 ≤ 128
      → (length (part (second_block p) i (get_or (second_block p) j 0)) ≡ get_or (second_block p) j 0) × (leb (length (part (second_block p) i (get_or (second_block p) j 0))) (spare fm) ≡ true)
  unfolding spare
  second-text i j h none le =
      by_form (λ g. (g ≡ 1 → second_block p ≡ []) → (g ≡ 2 → length (second_block p) ≡ block_length)
      → (length (part (second_block p) i (get_or (second_block p) j 0)) ≡ get_or (second_block p) j 0) × (leb (length (part (second_block p) i (get_or (second_block p) j 0))) (128 * (g - 1)) ≡ true)) fm f
      (λ o t. rw (o refl, none) (refl, refl))
      (λ o t. let l : length (part (second_block p) i (get_or (second_block p) j 0)) ≡ get_or (second_block p) j 0 = length_part (second_block p) i _ (omega (arith, t refl)) in (l, rw l (le-leb _ 128 le)))
      second_none second-size

  -- and its length byte is short where it fits
  second-byte : (i j : ℕ) → i ≤ 264 → fm ≡ 2 → leb (length (part (second_block p) i (get_or (second_block p) j 0))) (spare fm) ≡ true → leb (get_or (second_block p) j 0) 128 ≡ true
  unfolding spare
  second-byte i j h e t =
      let t' : leb (length (part (second_block p) i (get_or (second_block p) j 0))) 128 ≡ true = ap (λ (g : ℕ). leb (length (part (second_block p) i (get_or (second_block p) j 0))) (128 * (g - 1))) (sym e) ∙ t in
      sym (text-leb (second_block p) i (get_or (second_block p) j 0) 128 (omega (arith, second-size e))) ∙ t'

-- what a place on the line says is good exactly by the same lengths
good_of : (fm n k : ℕ) (p : List ℕ) → is_form fm ≡ true → length p ≡ place_length fm → within 1 8 k ≡ true → within 1 n (get_or (first_block p) 1 0) ≡ true → Blocks fm p
    → good_access fm n (read_place k p) ≡ true
unfolding read_access
good_of fm n k p f h w e b =
    let lb : length (first_block p) ≡ block_length = first-size fm p f h in
    let u : Formed (first_block p) = b.first in
    let l5 : length (part (first_block p) 264 (get_or (first_block p) 5 0)) ≡ get_or (first_block p) 5 0 = length_part (first_block p) 264 (get_or (first_block p) 5 0) (omega (arith, leb-true (get_or (first_block p) 5 0) 128 u.policy-in)) in
    let s1 : get_or (second_block p) 1 0 ≤ 128 = second_short fm p f h 1 refl (λ q. leb-true _ 128 (b.second q).realm-in) in
    let s3 : get_or (second_block p) 3 0 ≤ 128 = second_short fm p f h 3 refl (λ q. leb-true _ 128 (b.second q).second-in) in
    let s4 : get_or (second_block p) 4 0 ≤ 128 = second_short fm p f h 4 refl (λ q. leb-true _ 128 (b.second q).third-in) in
    let t1 = second-text fm p f h 8 1 (omega arith) refl s1 in
    let t3 = second-text fm p f h 136 3 (omega arith) refl s3 in
    let t4 = second-text fm p f h 264 4 (omega arith) refl s4 in
    stand n (read_place k p) (record {
      place_in = w;
      entry_in = e;
      sid-fits = text-within (first_block p) 8 (get_or (first_block p) 2 0) 1 128 (omega arith) ∙ u.session-in;
      host-fits = text-within (first_block p) 136 (get_or (first_block p) 3 0) 1 128 (omega arith) ∙ u.host-in;
      first_fits = text-leb (first_block p) 264 (get_or (first_block p) 5 0) 128 (omega arith) ∙ u.policy-in;
      realm-fits = t1.1;
      second_fits = t3.1;
      third-fits = t4.1;
      second-behind = (λ i. only_behind (t3.0 i) (l5 i)) ∙ b.second-behind;
      third-behind = (λ i. only_behind (t4.0 i) (t3.0 i)) ∙ b.third-behind;
    })

-- and back, from the tests
formed-first : (b : List ℕ) → length b ≡ block_length → within 1 128 (length (part b 8 (get_or b 2 0))) ≡ true → within 1 128 (length (part b 136 (get_or b 3 0))) ≡ true
    → leb (length (part b 264 (get_or b 5 0))) 128 ≡ true → access_tests b ≡ true
    → Formed b × (eqb (get_or b 4 0) (pick (eqb (get_or b 5 0) 0) 0 1) ≡ true) × (sum_ok b ≡ true)
unfolding access_tests
formed-first b h sid host policy t =
    let t1 = and_right (eqb (get_or b 0 0) 2) _ t in
    let t2 = and_right (eqb (get_or b 4 0) (pick (eqb (get_or b 5 0) 0) 0 1)) _ t1 in
    let t3 = and_right (eqb (get_or b 6 0) 0) _ t2 in
    let t4 = and_right (eqb (get_or b 7 0) 0) _ t3 in
    let t5 = and_right (zero_behind (get_or b 2 0) (part b 8 128)) _ t4 in
    let t6 = and_right (zero_behind (get_or b 3 0) (part b 136 128)) _ t5 in
    let t7 = and_right (zero_behind (get_or b 5 0) (part b 264 128)) _ t6 in
    let f : Formed b = record {
      two = and_left (eqb (get_or b 0 0) 2) _ t;
      session-in = sym (text-within b 8 (get_or b 2 0) 1 128 (omega arith)) ∙ sid;
      host-in = sym (text-within b 136 (get_or b 3 0) 1 128 (omega arith)) ∙ host;
      policy-in = sym (text-leb b 264 (get_or b 5 0) 128 (omega arith)) ∙ policy;
      six = and_left (eqb (get_or b 6 0) 0) _ t2;
      seven = and_left (eqb (get_or b 7 0) 0) _ t3;
      session-end = and_left (zero_behind (get_or b 2 0) (part b 8 128)) _ t4;
      host-end = and_left (zero_behind (get_or b 3 0) (part b 136 128)) _ t5;
      policy-end = and_left (zero_behind (get_or b 5 0) (part b 264 128)) _ t6;
      end = and_left (all_zero (part b 392 118)) _ t7;
    } in
    (f, and_left (eqb (get_or b 4 0) (pick (eqb (get_or b 5 0) 0) 0 1)) _ t1, and_right (all_zero (part b 392 118)) _ t7)

formed-second : (c : List ℕ) → leb (get_or c 1 0) 128 ≡ true → leb (get_or c 3 0) 128 ≡ true → leb (get_or c 4 0) 128 ≡ true → second_tests c ≡ true → Formed2 c × (sum_ok c ≡ true)
unfolding second_tests
formed-second c realm second third t =
    let t1 = and_right (eqb (get_or c 0 0) 3) _ t in
    let t2 = and_right (eqb (get_or c 2 0) 0) _ t1 in
    let t3 = and_right (eqb (get_or c 5 0) 0) _ t2 in
    let t4 = and_right (eqb (get_or c 6 0) 0) _ t3 in
    let t5 = and_right (eqb (get_or c 7 0) 0) _ t4 in
    let t6 = and_right (zero_behind (get_or c 1 0) (part c 8 128)) _ t5 in
    let t7 = and_right (zero_behind (get_or c 3 0) (part c 136 128)) _ t6 in
    let t8 = and_right (zero_behind (get_or c 4 0) (part c 264 128)) _ t7 in
    let f : Formed2 c = record {
      three = and_left (eqb (get_or c 0 0) 3) _ t;
      realm-in = realm;
      second-in = second;
      third-in = third;
      two = and_left (eqb (get_or c 2 0) 0) _ t1;
      five = and_left (eqb (get_or c 5 0) 0) _ t2;
      six = and_left (eqb (get_or c 6 0) 0) _ t3;
      seven = and_left (eqb (get_or c 7 0) 0) _ t4;
      realm-end = and_left (zero_behind (get_or c 1 0) (part c 8 128)) _ t5;
      second-end = and_left (zero_behind (get_or c 3 0) (part c 136 128)) _ t6;
      third-end = and_left (zero_behind (get_or c 4 0) (part c 264 128)) _ t7;
      end = and_left (all_zero (part c 392 118)) _ t8;
    } in
    (f, and_right (all_zero (part c 392 118)) _ t8)

formed-by : (fm n k : ℕ) (p : List ℕ) → is_form fm ≡ true → length p ≡ place_length fm → good_access fm n (read_place k p) ≡ true → block_tests fm p ≡ true → Blocks fm p
unfolding block_tests read_access
formed-by fm n k p f h g t =
    let s : Standing fm n (read_place k p) = standing n (read_place k p) g in
    let lb : length (first_block p) ≡ block_length = first-size fm p f h in
    let w : (access_tests (first_block p) ≡ true) × (fm ≡ 2 → second_tests (second_block p) ≡ true) = of-both fm _ _ t in
    let u : Formed (first_block p) × (eqb (get_or (first_block p) 4 0) (pick (eqb (get_or (first_block p) 5 0) 0) 0 1) ≡ true) × (sum_ok (first_block p) ≡ true) =
    formed-first (first_block p) lb s.sid-fits s.host-fits s.first_fits w.0 in
    let v : fm ≡ 2 → Formed2 (second_block p) × (sum_ok (second_block p) ≡ true) =
    λ e. formed-second (second_block p) (second-byte fm p f h 8 1 (omega arith) e s.realm-fits) (second-byte fm p f h 136 3 (omega arith) e s.second_fits) (second-byte fm p f h 264 4 (omega arith) e s.third-fits) (w.1 e) in
    let l5 : length (part (first_block p) 264 (get_or (first_block p) 5 0)) ≡ get_or (first_block p) 5 0 = length_part (first_block p) 264 (get_or (first_block p) 5 0) (omega (arith, leb-true (get_or (first_block p) 5 0) 128 u.0.policy-in)) in
    let s3 : get_or (second_block p) 3 0 ≤ 128 = second_short fm p f h 3 refl (λ q. leb-true _ 128 (v q).0.second-in) in
    let s4 : get_or (second_block p) 4 0 ≤ 128 = second_short fm p f h 4 refl (λ q. leb-true _ 128 (v q).0.third-in) in
    let t3 = second-text fm p f h 136 3 (omega arith) refl s3 in
    let t4 = second-text fm p f h 264 4 (omega arith) refl s4 in
    record {
      first = u.0;
      first-sum = u.2;
      marked = u.1;
      second = λ e. (v e).0;
      second-sum = λ e. (v e).1;
      second-behind = sym (λ i. only_behind (t3.0 i) (l5 i)) ∙ s.second-behind;
      third-behind = sym (λ i. only_behind (t4.0 i) (t3.0 i)) ∙ s.third-behind;
    }

-- THE WHOLE ROW

-- the paper's clauses by name
pub record Clauses (r : List ℕ) : Type 0 where
  pub row : Sized r
  pub head-form : head_form (head r) ≡ true
  pub entries-form : entries_form (get_or (head r) 18 0) (part (head r) 32 416) ≡ true
  pub places-form : every (place_form r) places ≡ true
  pub sum-zero : sums_agree (head r) ≡ true
  pub sum-each : every (place_sums r) places ≡ true
  pub line-in : every (within 1 8) (order_line r) ≡ true
  pub line-once : distinct eqb (order_line r) ≡ true
  pub bits : get_or (head r) 17 0 ≡ used_bits (order_line r)
  pub labels-once : distinct same_label (labels (read_row r).entries) ≡ true
  pub eight : leb (sum_of (limits (read_row r).entries)) 8 ≡ true
  pub sessions-once : distinct same (sessions (read_row r).accesses) ≡ true
  pub entry_in : every (λ (x : Access). within 1 (length (read_row r).entries) x.entry) (read_row r).accesses ≡ true
  pub under : under_limits 1 (limits (read_row r).entries) (read_row r).accesses ≡ true
  pub marked : every (policy_marked r) (order_line r) ≡ true
  pub ordered : every (policies_in_order r) (order_line r) ≡ true

pub clauses : (r : List ℕ) → sound r ≡ true → Clauses r
unfolding sound has_form line_exact every
clauses r s =
    let form = and_left (has_form r) _ s in
    let form1 = and_right (is_row r) _ form in
    let form2 = and_right (head_form (head r)) _ form1 in
    let s1 = and_right (has_form r) _ s in
    let sm = and_left (sums_agree (head r) && every (place_sums r) places) _ s1 in
    let s2 = and_right (sums_agree (head r) && every (place_sums r) places) _ s1 in
    let ln = and_left (line_exact r) _ s2 in
    let ln1 = and_right (every (within 1 8) (order_line r)) _ ln in
    let s3 = and_right (line_exact r) _ s2 in
    let s4 = and_right (distinct same_label (labels (read_row r).entries)) _ s3 in
    let s5 = and_right (leb (sum_of (limits (read_row r).entries)) 8) _ s4 in
    let s6 = and_right (distinct same (sessions (read_row r).accesses)) _ s5 in
    let s7 = and_right (every (λ (x : Access). within 1 (length (read_row r).entries) x.entry) (read_row r).accesses) _ s6 in
    let s8 = and_right (under_limits 1 (limits (read_row r).entries) (read_row r).accesses) _ s7 in
    record {
      row = sized r (and_left (is_row r) _ form);
      head-form = and_left (head_form (head r)) _ form1;
      entries-form = and_left (entries_form (get_or (head r) 18 0) (part (head r) 32 416)) _ form2;
      places-form = and_right (entries_form (get_or (head r) 18 0) (part (head r) 32 416)) _ form2;
      sum-zero = and_left (sums_agree (head r)) _ sm;
      sum-each = and_right (sums_agree (head r)) _ sm;
      line-in = and_left (every (within 1 8) (order_line r)) _ ln;
      line-once = and_left (distinct eqb (order_line r)) _ ln1;
      bits = eqb-true (get_or (head r) 17 0) (used_bits (order_line r)) (and_right (distinct eqb (order_line r)) _ ln1);
      labels-once = and_left (distinct same_label (labels (read_row r).entries)) _ s3;
      eight = and_left (leb (sum_of (limits (read_row r).entries)) 8) _ s4;
      sessions-once = and_left (distinct same (sessions (read_row r).accesses)) _ s5;
      entry_in = and_left (every (λ (x : Access). within 1 (length (read_row r).entries) x.entry) (read_row r).accesses) _ s6;
      under = and_left (under_limits 1 (limits (read_row r).entries) (read_row r).accesses) _ s7;
      marked = and_left (every (policy_marked r) (order_line r)) _ s8;
      ordered = and_right (every (policy_marked r) (order_line r)) _ s8;
    }

pub clauses-sound : (r : List ℕ) → Clauses r → sound r ≡ true
unfolding sound has_form line_exact every
clauses-sound r c =
    rw (
      is-sized r c.row,
      c.head-form,
      c.entries-form,
      c.places-form,
      c.sum-zero,
      c.sum-each,
      c.line-in,
      c.line-once,
      eq-eqb (get_or (head r) 17 0) (used_bits (order_line r)) c.bits,
      c.labels-once,
      c.eight,
      c.sessions-once,
      c.entry_in,
      c.under,
      c.marked,
      c.ordered,
    )

-- block 0 by the paper's clauses and by the tests
pub record Headed (b : List ℕ) : Type 0 where
  pub one : eqb (get_or b 0 0) 1 ≡ true
  pub name-end : zero_behind (get_or b 1 0) (part b 2 15) ≡ true
  pub nineteen : leb (get_or b 19 0) 15 ≡ true
  pub line-end : zero_behind (length (up_to0 (part b 20 8))) (part b 20 8) ≡ true
  pub gap : all_zero (part b 28 4) ≡ true
  pub end : all_zero (part b 448 62) ≡ true

pub head_of : (b : List ℕ) → head_form b ≡ true → Headed b × (is_name (part b 2 (get_or b 1 0)) ≡ true) × (get_or b 18 0 ≤ 4)
unfolding head_form
head_of b f =
    let f1 = and_right (eqb (get_or b 0 0) 1) _ f in
    let f2 = and_right (is_name (part b 2 (get_or b 1 0))) _ f1 in
    let f3 = and_right (zero_behind (get_or b 1 0) (part b 2 15)) _ f2 in
    let f4 = and_right (leb (get_or b 18 0) 4) _ f3 in
    let f5 = and_right (leb (get_or b 19 0) 15) _ f4 in
    let f6 = and_right (zero_behind (length (up_to0 (part b 20 8))) (part b 20 8)) _ f5 in
    let h : Headed b = record {
      one = and_left (eqb (get_or b 0 0) 1) _ f;
      name-end = and_left (zero_behind (get_or b 1 0) (part b 2 15)) _ f2;
      nineteen = and_left (leb (get_or b 19 0) 15) _ f4;
      line-end = and_left (zero_behind (length (up_to0 (part b 20 8))) (part b 20 8)) _ f5;
      gap = and_left (all_zero (part b 28 4)) _ f6;
      end = and_right (all_zero (part b 28 4)) _ f6;
    } in
    (h, and_left (is_name (part b 2 (get_or b 1 0))) _ f1, leb-true (get_or b 18 0) 4 (and_left (leb (get_or b 18 0) 4) _ f3))

of-head : (b : List ℕ) → Headed b → is_name (part b 2 (get_or b 1 0)) ≡ true → get_or b 18 0 ≤ 4 → head_form b ≡ true
unfolding head_form
of-head b h n e = rw (h.one, n, h.name-end, le-leb (get_or b 18 0) 4 e, h.nineteen, h.line-end, h.gap, h.end)

-- the tests of block 0, its entries and sums aside
head-tests : (b : List ℕ) → Headed b → get_or b 17 0 ≡ used_bits (up_to0 (part b 20 8)) → entries_tests (get_or b 18 0) (part b 32 416) ≡ true → sum_ok b ≡ true
    → head_tests b ≡ true
unfolding head_tests
head-tests b h u e s =
    rw (h.one, h.name-end, eq-eqb (get_or b 17 0) (used_bits (up_to0 (part b 20 8))) u, h.line-end, h.gap, e, h.end, s)

tests-head : (b : List ℕ) → leb (get_or b 19 0) 15 ≡ true → head_tests b ≡ true
    → Headed b × (get_or b 17 0 ≡ used_bits (up_to0 (part b 20 8))) × (entries_tests (get_or b 18 0) (part b 32 416) ≡ true) × (sum_ok b ≡ true)
unfolding head_tests
tests-head b o f =
    let f1 = and_right (eqb (get_or b 0 0) 1) _ f in
    let f2 = and_right (zero_behind (get_or b 1 0) (part b 2 15)) _ f1 in
    let f3 = and_right (eqb (get_or b 17 0) (used_bits (up_to0 (part b 20 8)))) _ f2 in
    let f4 = and_right (zero_behind (length (up_to0 (part b 20 8))) (part b 20 8)) _ f3 in
    let f5 = and_right (all_zero (part b 28 4)) _ f4 in
    let f6 = and_right (entries_tests (get_or b 18 0) (part b 32 416)) _ f5 in
    let h : Headed b = record {
      one = and_left (eqb (get_or b 0 0) 1) _ f;
      name-end = and_left (zero_behind (get_or b 1 0) (part b 2 15)) _ f1;
      nineteen = o;
      line-end = and_left (zero_behind (length (up_to0 (part b 20 8))) (part b 20 8)) _ f3;
      gap = and_left (all_zero (part b 28 4)) _ f4;
      end = and_left (all_zero (part b 448 62)) _ f6;
    } in (
      h,
      eqb-true (get_or b 17 0) _ (and_left (eqb (get_or b 17 0) (used_bits (up_to0 (part b 20 8)))) _ f2),
      and_left (entries_tests (get_or b 18 0) (part b 32 416)) _ f5,
      and_right (all_zero (part b 448 62)) _ f6,
    )

-- THE TWO ARE ONE

-- from the clauses
module _ (r : List ℕ) (c : Clauses r) where
  head-size : length (head r) ≡ block_length
  head-size = length-head-of r c.row

  count_of : get_or (head r) 18 0 ≤ 4
  count_of = (head_of (head r) c.head-form).2

  entries-of : every good_entry (read_entries (get_or (head r) 18 0) (part (head r) 32 416)) && entries_tests (get_or (head r) 18 0) (part (head r) 32 416) ≡ true
  entries-of =
      let z : length (head r) ≡ block_length = head-size in
      sym (entries-form (get_or (head r) 18 0) 4 (part (head r) 32 416) (length_part (head r) 32 416 (omega arith)) count_of) ∙ c.entries-form

  -- a place on the line has the form of an access
  pub blocks-on : (k : ℕ) → within 1 8 k ≡ true → is_on (order_line r) k ≡ true → Blocks (form_of r) (place r k)
  unfolding place_form place_sums policy_marked policies_in_order pick
  blocks-on k w o =
      let fm : ℕ = form_of r in
      let p : List ℕ = place r k in
      let lp : length p ≡ place_length fm = length-place-of r k c.row (within_low 1 8 k w) (within-high 1 8 k w) in
      let lb : length (first_block p) ≡ block_length = first-size fm p c.row.form lp in
      let u : in_use r k ≡ true = in_use_lem r k c.bits w ∙ o in
      let f : place_form r k ≡ true = at_place (place_form r) k c.places-form w in
      let fo : (access_form (first_block p) ≡ true) × (fm ≡ 2 → second_form (second_block p) ≡ true) = of-both fm _ _ (rw u at f) in
      let su : (sums_agree (first_block p) ≡ true) × (fm ≡ 2 → sums_agree (second_block p) ≡ true) = of-both fm _ _ (at_place (place_sums r) k c.sum-each w) in
      let m : eqb (get_or (first_block p) 4 0) (pick (leb 1 (get_or (first_block p) 5 0)) 1 0) ≡ true = every-on (policy_marked r) (order_line r) k c.marked o in
      let q : only_behind (get_or (second_block p) 3 0) (get_or (first_block p) 5 0) && only_behind (get_or (second_block p) 4 0) (get_or (second_block p) 3 0) ≡ true = every-on (policies_in_order r) (order_line r) k c.ordered o in
      record {
        first = form-of (first_block p) lb fo.0;
        first-sum = sym (sums-tail (first_block p) lb) ∙ su.0;
        marked = rw (mark-is (get_or (first_block p) 5 0)) at m;
        second = λ e. form-of2 (second_block p) (second-size fm p c.row.form lp e) (fo.1 e);
        second-sum = λ e. sym (sums-tail (second_block p) (second-size fm p c.row.form lp e)) ∙ su.1 e;
        second-behind = and_left (only_behind (get_or (second_block p) 3 0) (get_or (first_block p) 5 0)) _ q;
        third-behind = and_right (only_behind (get_or (second_block p) 3 0) (get_or (first_block p) 5 0)) _ q;
      }

  good-on : (k : ℕ) → is_on (order_line r) k ≡ true → good_access (form_of r) (length (read_row r).entries) (access_at r k) ≡ true
  unfolding read_row access_at read_access
  good-on k o =
      let w : within 1 8 k ≡ true = every-on (within 1 8) (order_line r) k c.line-in o in
      let e : within 1 (length (read_row r).entries) (get_or (first_block (place r k)) 1 0) ≡ true =
      every-on (λ j. within 1 (length (read_row r).entries) (access_at r j).entry) (order_line r) k (rw every_map at c.entry_in) o in
      good_of (form_of r) (length (read_row r).entries) k (place r k) c.row.form (length-place-of r k c.row (within_low 1 8 k w) (within-high 1 8 k w)) w e (blocks-on k w o)

  says-may : Good (form_of r) (read_row r)
  unfolding read_row
  says-may =
      let es : List Entry = read_entries (get_or (head r) 18 0) (part (head r) 32 416) in
      let n : length es ≡ get_or (head r) 18 0 = length-read (get_or (head r) 18 0) (part (head r) 32 416) in
      let a : Fits (form_of r) es (map (access_at r) (order_line r)) = record {
        each = rw every_map (each_on (order_line r) _ good-on);
        places-once = rw (line_read r (order_line r)) c.line-once;
        sids-once = c.sessions-once;
        under = c.under;
      } in
      let e : Entered es = record {
        four = le-leb (length es) 4 (omega (arith, count_of));
        each = and_left (every good_entry es) _ entries-of;
        labels-once = c.labels-once;
        eight = c.eight;
      } in
      record { form-good = c.row.form; name-good = (head_of (head r) c.head-form).1; operator-good = (head_of (head r) c.head-form).0.nineteen; entries-good = e; accesses-good = a }

  place-tests : (k : ℕ) → within 1 8 k ≡ true → place_tests r k ≡ true
  unfolding place_tests place_form block_tests pick
  place-tests k w =
      let f : place_form r k ≡ true = at_place (place_form r) k c.places-form w in
      by-test (is_on (order_line r) k)
      (λ o. let b : Blocks (form_of r) (place r k) = blocks-on k w o in
      rw o (both_of (form_of r) _ _ (tests-of (first_block (place r k)) b.marked b.first-sum b.first) (λ e. tests-of2 (second_block (place r k)) (b.second-sum e) (b.second e))))
      (λ o. let u : in_use r k ≡ false = in_use_lem r k c.bits w ∙ o in rw o (rw u at f))

  passes : tests r ≡ true
  unfolding tests order_line
  passes =
      let z : length (head r) ≡ block_length = head-size in
      let h : head_tests (head r) ≡ true =
      head-tests (head r) (head_of (head r) c.head-form).0 c.bits (and_right (every good_entry (read_entries (get_or (head r) 18 0) (part (head r) 32 416))) _ entries-of)
      (sym (sums-tail (head r) z) ∙ c.sum-zero) in
      both (both h (each-place-of (place_tests r) place-tests)) (good-is (read_row r) says-may)

-- from the tests
module _ (r : List ℕ) (z : Sized r) (g : Good (form_of r) (read_row r)) (h : head_tests (head r) ≡ true) (p : every (place_tests r) places ≡ true) where
  few : get_or (head r) 18 0 ≤ 4
  unfolding read_row
  few = omega (arith, leb-true (length (read_entries (get_or (head r) 18 0) (part (head r) 32 416))) 4 g.entries-good.four, length-read (get_or (head r) 18 0) (part (head r) 32 416))

  good-at : every (λ k. good_access (form_of r) (length (read_row r).entries) (access_at r k)) (order_line r) ≡ true
  unfolding read_row
  good-at = rw every_map at g.accesses-good.each

  all_in : every (within 1 8) (order_line r) ≡ true
  unfolding access_at read_access
  all_in = every-imp _ (within 1 8) (λ k t. (standing (length (read_row r).entries) (access_at r k) t).place_in) (order_line r) good-at

  long : (k : ℕ) → within 1 8 k ≡ true → length (place r k) ≡ place_length (form_of r)
  long k w = length-place-of r k z (within_low 1 8 k w) (within-high 1 8 k w)

  blocks_at : (k : ℕ) → within 1 8 k ≡ true → is_on (order_line r) k ≡ true → Blocks (form_of r) (place r k)
  unfolding place_tests access_at pick
  blocks_at k w o =
      let t : place_tests r k ≡ true = at_place (place_tests r) k p w in
      formed-by (form_of r) (length (read_row r).entries) k (place r k) z.form (long k w)
      (every-on (λ j. good_access (form_of r) (length (read_row r).entries) (access_at r j)) (order_line r) k good-at o) (rw o at t)

  the-bits : get_or (head r) 17 0 ≡ used_bits (order_line r)
  unfolding order_line read_row
  the-bits = (tests-head (head r) g.operator-good h).1

  zero-at : (k : ℕ) → within 1 8 k ≡ true → is_on (order_line r) k ≡ false → all_zero (place r k) ≡ true
  unfolding place_tests pick
  zero-at k w o = let t : place_tests r k ≡ true = at_place (place_tests r) k p w in rw o at t

  form-at : (k : ℕ) → within 1 8 k ≡ true → place_form r k ≡ true
  unfolding place_form pick
  form-at k w =
      let fm : ℕ = form_of r in
      by-test (is_on (order_line r) k)
      (λ o. let u : in_use r k ≡ true = in_use_lem r k the-bits w ∙ o in
      let b : Blocks fm (place r k) = blocks_at k w o in
      let first : access_form (first_block (place r k)) ≡ true =
      of-form (first_block (place r k)) (first-size fm (place r k) z.form (long k w)) (mark-small (get_or (first_block (place r k)) 4 0) (get_or (first_block (place r k)) 5 0) b.marked) b.first in
      rw u (both_of fm _ _ first (λ e. of-form2 (second_block (place r k)) (second-size fm (place r k) z.form (long k w) e) (b.second e))))
      (λ o. let u : in_use r k ≡ false = in_use_lem r k the-bits w ∙ o in rw u (zero-at k w o))

  sum-at : (k : ℕ) → within 1 8 k ≡ true → place_sums r k ≡ true
  unfolding place_sums
  sum-at k w =
      let fm : ℕ = form_of r in
      let lb : length (first_block (place r k)) ≡ block_length = first-size fm (place r k) z.form (long k w) in
      let lc : fm ≡ 2 → length (second_block (place r k)) ≡ block_length = second-size fm (place r k) z.form (long k w) in
      both_of fm _ _
      (sums-tail (first_block (place r k)) lb ∙ by-test (is_on (order_line r) k)
      (λ o. (blocks_at k w o).first-sum)
      (λ o. sums-zero (first_block (place r k)) lb (zero-take block_length (place r k) (zero-at k w o))))
      (λ e. sums-tail (second_block (place r k)) (lc e) ∙ by-test (is_on (order_line r) k)
      (λ o. (blocks_at k w o).second-sum e)
      (λ o. sums-zero (second_block (place r k)) (lc e) (zero-drop block_length (place r k) (zero-at k w o))))

  marked-at : (k : ℕ) → is_on (order_line r) k ≡ true → policy_marked r k ≡ true
  unfolding policy_marked
  marked-at k o = rw (mark-is (get_or (first_block (place r k)) 5 0)) (blocks_at k (every-on (within 1 8) (order_line r) k all_in o) o).marked

  ordered_at : (k : ℕ) → is_on (order_line r) k ≡ true → policies_in_order r k ≡ true
  unfolding policies_in_order
  ordered_at k o =
      let b : Blocks (form_of r) (place r k) = blocks_at k (every-on (within 1 8) (order_line r) k all_in o) o in
      both b.second-behind b.third-behind

  entry-at : every (λ (x : Access). within 1 (length (read_row r).entries) x.entry) (read_row r).accesses ≡ true
  entry-at = each-entry (form_of r) (read_row r).entries (read_row r).accesses g.accesses-good.each

  holds : Clauses r
  unfolding read_row sums_agree
  holds =
      let b : List ℕ = head r in
      let lb : length b ≡ block_length = length-head-of r z in
      let e : entries_tests (get_or b 18 0) (part b 32 416) ≡ true = (tests-head b g.operator-good h).2 in
      record {
        row = z;
        head-form = of-head b (tests-head b g.operator-good h).0 g.name-good few;
        entries-form = entries-form (get_or b 18 0) 4 (part b 32 416) (length_part b 32 416 (omega arith)) few ∙ both g.entries-good.each e;
        places-form = each-place-of (place_form r) form-at;
        sum-zero = sums-tail b lb ∙ (tests-head b g.operator-good h).3;
        sum-each = each-place-of (place_sums r) sum-at;
        line-in = all_in;
        line-once = rw (line_read r (order_line r)) at g.accesses-good.places-once;
        bits = the-bits;
        labels-once = g.entries-good.labels-once;
        eight = g.entries-good.eight;
        sessions-once = g.accesses-good.sids-once;
        entry_in = entry-at;
        under = g.accesses-good.under;
        marked = each_on (order_line r) (policy_marked r) marked-at;
        ordered = each_on (order_line r) (policies_in_order r) ordered_at;
      }

-- a row that is the bytes of what it says has the length of a row
said-size : (r : List ℕ) → said_sound r ≡ true → Sized r
said-size r s = record { form = (said-good r s).form-good; size = ap length (said-is r s) ∙ length-row (form_of r) (read_row r) }

pub sound-is : (r : List ℕ) → sound r ≡ said_sound r
unfolding tests
sound-is r =
    by-test (said_sound r)
    (λ s. let z : Sized r = said-size r s in
    let t : tests r ≡ true = sym (said-tests r z) ∙ s in
    let ht : head_tests (head r) && every (place_tests r) places ≡ true = and_left (head_tests (head r) && every (place_tests r) places) _ t in
    clauses-sound r (holds r z (said-good r s) (and_left (head_tests (head r)) _ ht) (and_right (head_tests (head r)) _ ht)) ∙ sym s)
    (λ s. by-test (sound r)
    (λ w. let c : Clauses r = clauses r w in
    let y : said_sound r ≡ true = said-tests r c.row ∙ passes r c in cc)
    (λ w. w ∙ sym s))

-- WHAT FOLLOWS

-- the bytes of a good subscriber are sound
pub sound-row : (fm : ℕ) (s : Subscriber) → Good fm s → sound (row_bytes fm s) ≡ true
sound-row fm s g = sound-is (row_bytes fm s) ∙ said_row fm s g

-- a sound row is the bytes of what it says, and that is good
pub row_is : (r : List ℕ) → sound r ≡ true → r ≡ row_bytes (form_of r) (read_row r)
row_is r h = said-is r (sym (sound-is r) ∙ h)

pub says-good : (r : List ℕ) → sound r ≡ true → Good (form_of r) (read_row r)
says-good r h = said-good r (sym (sound-is r) ∙ h)
