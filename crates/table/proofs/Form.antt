-- When a row is the bytes of what it says, byte by byte.
use mathlib.Core.Path.{◌≡◌, refl, sym, ap, ◌∙◌}
use mathlib.Core.Bool.{Bool, true, ◌&&◌, and_assoc, and-false, and-true}
use mathlib.Core.List.{List, [], ◌∷◌, ◌++◌, map, append_assoc}
use Prim.Native.Nat.{ℕ, zero, suc, ◌+◌, ◌-◌, ◌*◌, ◌≤◌, ◌<◌}
use native.Mathlib.Omega.{arith}
use borrow.Author.Tests.{leb-true, eqb-true, eq-eqb, ne_eqb}
use lib.Dec.{eqb}
use lib.ListN.{length, take, drop, get_or, length-take, length-drop, length-append}
use lib.Seq.{take_all, take-take, drop-drop, drop-cons, get_or-take}
use Rattle.octets.specs.Choice.{pick, within}
use Rattle.octets.specs.Lists.{counted, every, is_on, up_to0}
use Rattle.octets.specs.Texts.{all_zero, filled, part, same, zeros}
use Rattle.octets.proofs.Lists.{and_left, and_right, by-test, every_map, same-eq, same_refl, within-high, within_low}
use Rattle.octets.proofs.Texts.{length-filled, length_part, length-zeros}
use Rattle.octets.proofs.Pieces.{drop-take, part-take, take-zeros}
use Rattle.table.proofs.Bytes.{access-one, access-two, fill, length-entry, length-first, length-head, length-place, name-length, read_place}
use Rattle.table.proofs.Good.{Good, Standing, by_form, good, good_access, good_entry, is-good, places-eight, said_sound, spare, standing}
use Rattle.table.specs.Soundness.{is_row, of_blocks, zero_behind}
use Rattle.table.specs.TheTable.{block_length, Access, Subscriber, access_at, access_bytes, first_block, first_bytes, form_of, head, is_form, place, place_length, place_start, second_block, second_bytes, entries_bytes, entry_bytes, head_bytes, held, line, order_line, place_bytes, places, places_bytes, read_access, read_entries, read_entry, read_row, row_bytes, row_length, sealed, sums_from, used_bits}

-- bytes 510 and 511 are the sums
unfoldable pub sum_ok : List ℕ → Bool
sum_ok b = same (drop 510 b) (sums_from 0 0 (take 510 b))

unfoldable pub access_tests : List ℕ → Bool
access_tests b =
    eqb (get_or b 0 0) 2 && (eqb (get_or b 4 0) (pick (eqb (get_or b 5 0) 0) 0 1) && (eqb (get_or b 6 0) 0 && (eqb (get_or b 7 0) 0
    && (zero_behind (get_or b 2 0) (part b 8 128) && (zero_behind (get_or b 3 0) (part b 136 128) && (zero_behind (get_or b 5 0) (part b 264 128)
    && (all_zero (part b 392 118) && sum_ok b)))))))

unfoldable pub second_tests : List ℕ → Bool
second_tests b =
    eqb (get_or b 0 0) 3 && (eqb (get_or b 2 0) 0 && (eqb (get_or b 5 0) 0 && (eqb (get_or b 6 0) 0 && (eqb (get_or b 7 0) 0
    && (zero_behind (get_or b 1 0) (part b 8 128) && (zero_behind (get_or b 3 0) (part b 136 128) && (zero_behind (get_or b 4 0) (part b 264 128)
    && (all_zero (part b 392 118) && sum_ok b))))))))

-- the lengths that a place says are those of texts
pub record Short (fm : ℕ) (p : List ℕ) : Type 0 where
  pub two : get_or (first_block p) 2 0 ≤ 128
  pub three : get_or (first_block p) 3 0 ≤ 128
  pub five : get_or (first_block p) 5 0 ≤ 128
  pub one' : fm ≡ 2 → get_or (second_block p) 1 0 ≤ 128
  pub three' : fm ≡ 2 → get_or (second_block p) 3 0 ≤ 128
  pub four' : fm ≡ 2 → get_or (second_block p) 4 0 ≤ 128

-- laws

same-append : (x y r : List ℕ) → same r (x ++ y) ≡ same (take (length x) r) x && same (drop (length x) r) y
unfolding same
same-append [] y r = refl
same-append (c ∷ x) y [] = refl
same-append (c ∷ x) y (d ∷ r) = rw (same-append x y r, and_assoc)

-- compared with x and then y, where x has n bytes: the first n are x, and those behind are y
same-past : (n : ℕ) (x y r : List ℕ) → length x ≡ n → same r (x ++ y) ≡ same (take n r) x && same (drop n r) y
same-past n x y r h = rw (← h) (same-append x y r)

same-sealed : (x b : List ℕ) → length x ≡ 510 → same b (sealed x) ≡ same (take 510 b) x && sum_ok b
unfolding sealed sum_ok
same-sealed x b h =
    same-past 510 x (sums_from 0 0 x) b h
    ∙ by-test (same (take 510 b) x)
    (λ e. rw (e, same-eq (take 510 b) x e))
    (λ e. rw e)

-- A room is filled with the text that is read from it exactly if zeros stand behind that text.
same-room : (room : List ℕ) (m n : ℕ) → length room ≡ m → n ≤ m → same room (filled (take n room) m) ≡ zero_behind n room
unfolding zero_behind all_zero
same-room room m n h le =
    let t : length (take n room) ≡ n = rw length-take (omega arith) in
    let d : length (drop n room) ≡ m - n = rw length-drop (omega arith) in
    rw (fill (take n room) m (omega arith), t, take-zeros (m - n) m (omega arith), same-past n (take n room) (zeros (m - n)) room t, same_refl, d)

same_at : (b : List ℕ) (i c : ℕ) (y : List ℕ) → length b ≡ block_length → i < 510
    → same (drop i (take 510 b)) (c ∷ y) ≡ eqb (get_or b i 0) c && same (drop (suc i) (take 510 b)) y
unfolding same
same_at b i c y h lt =
    let l : i < length (take 510 b) = rw length-take (omega arith) in
    rw (drop-cons (take 510 b) i 0 l, get_or-take 510 b i 0 lt)

room_at : (b : List ℕ) (i m n : ℕ) → i + m ≤ length b → n ≤ m → same (part b i m) (filled (part b i n) m) ≡ zero_behind n (part b i m)
room_at b i m n h le = rw (← take-take n m (drop i b) le) (same-room (part b i m) m n (length_part b i m h) le)

zero_room : (b : List ℕ) (i m : ℕ) → i + m ≤ length b → all_zero (part b i m) ≡ same (part b i m) (zeros m)
unfolding all_zero
zero_room b i m h = rw (length_part b i m h)

eqb-self : (n : ℕ) → eqb n n ≡ true
eqb-self n = eq-eqb n n refl

held-pick : (p : List ℕ) → held p ≡ pick (eqb (length p) 0) 0 1
unfolding held pick
held-pick [] = refl
held-pick (x ∷ p) = rw (ne_eqb (suc (length p)) 0 (omega arith))

-- a body of eight bytes, three rooms of 128 and 118 more
same-rooms : (t s h p z : List ℕ) → length s ≡ 128 → length h ≡ 128 → length p ≡ 128
    → same t (s ++ (h ++ (p ++ z))) ≡ same (take 128 t) s && (same (part t 128 128) h && (same (part t 256 128) p && same (drop 384 t) z))
same-rooms t s h p z hs hh hp =
    rw (same-past 128 s (h ++ (p ++ z)) t hs, same-past 128 h (p ++ z) (drop 128 t) hh, same-past 128 p z (drop 128 (drop 128 t)) hp, drop-drop 128 128 t, drop-drop 128 256 t)

same_body : (b : List ℕ) (m e ls lh g lp x y : ℕ) (s h p : List ℕ) → length b ≡ block_length
    → same (take 510 b) (m ∷ e ∷ ls ∷ lh ∷ g ∷ lp ∷ x ∷ y ∷ filled s 128 ++ (filled h 128 ++ (filled p 128 ++ zeros 118)))
    ≡ eqb (get_or b 0 0) m && (eqb (get_or b 1 0) e && (eqb (get_or b 2 0) ls && (eqb (get_or b 3 0) lh && (eqb (get_or b 4 0) g && (eqb (get_or b 5 0) lp
    && (eqb (get_or b 6 0) x && (eqb (get_or b 7 0) y
    && (same (part b 8 128) (filled s 128) && (same (part b 136 128) (filled h 128) && (same (part b 264 128) (filled p 128)
    && same (part b 392 118) (zeros 118)))))))))))
same_body b m e ls lh g lp x y s h p lb =
    let last : drop 384 (drop 8 (take 510 b)) ≡ part b 392 118 = drop-drop 384 8 (take 510 b) ∙ drop-take 392 118 510 b (omega arith) in
    let one : take 128 (drop 8 (take 510 b)) ≡ part b 8 128 = part-take 510 8 128 b (omega arith) in
    let two : part (drop 8 (take 510 b)) 128 128 ≡ part b 136 128 = ap (take 128) (drop-drop 128 8 (take 510 b)) ∙ part-take 510 136 128 b (omega arith) in
    let three : part (drop 8 (take 510 b)) 256 128 ≡ part b 264 128 = ap (take 128) (drop-drop 256 8 (take 510 b)) ∙ part-take 510 264 128 b (omega arith) in
    rw (
      same_at b 0 m _ lb (omega arith),
      same_at b 1 e _ lb (omega arith),
      same_at b 2 ls _ lb (omega arith),
      same_at b 3 lh _ lb (omega arith),
      same_at b 4 g _ lb (omega arith),
      same_at b 5 lp _ lb (omega arith),
      same_at b 6 x _ lb (omega arith),
      same_at b 7 y _ lb (omega arith),
      same-rooms (drop 8 (take 510 b)) (filled s 128) (filled h 128) (filled p 128) (zeros 118) (length-filled s 128) (length-filled h 128) (length-filled p 128),
      one,
      two,
      three,
      last,
    )

-- the blocks of a place are the bytes of what they say exactly if they pass the tests
pub first-form : (k : ℕ) (b c : List ℕ) → length b ≡ block_length → get_or b 2 0 ≤ 128 → get_or b 3 0 ≤ 128 → get_or b 5 0 ≤ 128
    → same b (first_bytes (read_access k b c)) ≡ access_tests b
unfolding first_bytes read_access access_tests
first-form k b c h h2 h3 h5 =
    let l2 : length (part b 8 (get_or b 2 0)) ≡ get_or b 2 0 = length_part b 8 _ (omega arith) in
    let l3 : length (part b 136 (get_or b 3 0)) ≡ get_or b 3 0 = length_part b 136 _ (omega arith) in
    let l5 : length (part b 264 (get_or b 5 0)) ≡ get_or b 5 0 = length_part b 264 _ (omega arith) in
    let r2 : same (part b 8 128) (filled (part b 8 (get_or b 2 0)) 128) ≡ zero_behind (get_or b 2 0) (part b 8 128) = room_at b 8 128 (get_or b 2 0) (omega arith) h2 in
    let r3 : same (part b 136 128) (filled (part b 136 (get_or b 3 0)) 128) ≡ zero_behind (get_or b 3 0) (part b 136 128) = room_at b 136 128 (get_or b 3 0) (omega arith) h3 in
    let r5 : same (part b 264 128) (filled (part b 264 (get_or b 5 0)) 128) ≡ zero_behind (get_or b 5 0) (part b 264 128) = room_at b 264 128 (get_or b 5 0) (omega arith) h5 in
    let z : all_zero (part b 392 118) ≡ same (part b 392 118) (zeros 118) = zero_room b 392 118 (omega arith) in
    same-sealed _ b (simp (length-append, length-filled, length-zeros))
    ∙ rw (
      same_body b 2 (get_or b 1 0) (length (part b 8 (get_or b 2 0))) (length (part b 136 (get_or b 3 0))) (held (part b 264 (get_or b 5 0))) (length (part b 264 (get_or b 5 0))) 0 0 (part b 8 (get_or b 2 0)) (part b 136 (get_or b 3 0)) (part b 264 (get_or b 5 0)) h,
      r2,
      r3,
      r5,
      z,
      l2,
      l3,
      held-pick,
      l5,
    )
    (simp (eqb-self, and_assoc))

pub second-form : (k : ℕ) (b c : List ℕ) → length c ≡ block_length → get_or c 1 0 ≤ 128 → get_or c 3 0 ≤ 128 → get_or c 4 0 ≤ 128
    → same c (second_bytes (read_access k b c)) ≡ second_tests c
unfolding second_bytes read_access second_tests
second-form k b c h h1 h3 h4 =
    let l1 : length (part c 8 (get_or c 1 0)) ≡ get_or c 1 0 = length_part c 8 _ (omega arith) in
    let l3 : length (part c 136 (get_or c 3 0)) ≡ get_or c 3 0 = length_part c 136 _ (omega arith) in
    let l4 : length (part c 264 (get_or c 4 0)) ≡ get_or c 4 0 = length_part c 264 _ (omega arith) in
    let r1 : same (part c 8 128) (filled (part c 8 (get_or c 1 0)) 128) ≡ zero_behind (get_or c 1 0) (part c 8 128) = room_at c 8 128 (get_or c 1 0) (omega arith) h1 in
    let r3 : same (part c 136 128) (filled (part c 136 (get_or c 3 0)) 128) ≡ zero_behind (get_or c 3 0) (part c 136 128) = room_at c 136 128 (get_or c 3 0) (omega arith) h3 in
    let r4 : same (part c 264 128) (filled (part c 264 (get_or c 4 0)) 128) ≡ zero_behind (get_or c 4 0) (part c 264 128) = room_at c 264 128 (get_or c 4 0) (omega arith) h4 in
    let z : all_zero (part c 392 118) ≡ same (part c 392 118) (zeros 118) = zero_room c 392 118 (omega arith) in
    same-sealed _ c (simp (length-append, length-filled, length-zeros))
    ∙ rw (
      same_body c 3 (length (part c 8 (get_or c 1 0))) 0 (length (part c 136 (get_or c 3 0))) (length (part c 264 (get_or c 4 0))) 0 0 0 (part c 8 (get_or c 1 0)) (part c 136 (get_or c 3 0)) (part c 264 (get_or c 4 0)) h,
      r1,
      r3,
      r4,
      z,
      l1,
      l3,
      l4,
    )
    (simp (eqb-self, and_assoc))

-- so the place: of the form's blocks
unfoldable pub block_tests : (form : ℕ) → List ℕ → Bool
block_tests fm p = of_blocks fm (access_tests (first_block p)) (second_tests (second_block p))

same-one : (k : ℕ) (p : List ℕ) → length p ≡ block_length → Short 1 p → same p (access_bytes 1 (read_place k p)) ≡ block_tests 1 p
unfolding block_tests of_blocks pick
same-one k p h s =
    rw (access-one, and-true)
    (ap (λ (b : List ℕ). same b (first_bytes (read_place k p))) (sym (take_all block_length p (omega arith)))
    ∙ first-form k (first_block p) (second_block p) (rw length-take (omega arith)) s.two s.three s.five)

same-two : (k : ℕ) (p : List ℕ) → length p ≡ place_length 2 → Short 2 p → same p (access_bytes 2 (read_place k p)) ≡ block_tests 2 p
unfolding block_tests of_blocks pick
same-two k p h s =
    rw (
      access-two,
      same-past block_length (first_bytes (read_place k p)) (second_bytes (read_place k p)) p (length-first _),
      first-form k (first_block p) (second_block p) (rw length-take (omega arith)) s.two s.three s.five,
      second-form k (first_block p) (second_block p) (rw length-drop (omega arith)) (s.one' refl) (s.three' refl) (s.four' refl),
    )

pub place-form-of : (fm k : ℕ) (p : List ℕ) → is_form fm ≡ true → length p ≡ place_length fm → Short fm p → same p (access_bytes fm (read_place k p)) ≡ block_tests fm p
place-form-of fm k p f h s =
    by_form (λ f. length p ≡ place_length f → Short f p → same p (access_bytes f (read_place k p)) ≡ block_tests f p) fm f
    (same-one k p)
    (same-two k p)
    h s

-- the row by places

same-places : (fm : ℕ) (r : List ℕ) (a : List Access) (b n : ℕ) → 1 ≤ b → length r ≡ block_length + place_length fm * (b - 1 + n)
    → same (drop (place_start fm b) r) (places_bytes fm a (counted b n)) ≡ every (λ k. same (part r (place_start fm k) (place_length fm)) (place_bytes fm a k)) (counted b n)
unfolding places_bytes counted every same
same-places fm r a b zero l h = rw (lib.ListN.drop_of_length-le r {i = block_length + block_length * fm * (b - 1)} (omega arith))
same-places fm r a b (suc n) l h =
    let q : block_length + block_length * fm * (b - 1) + block_length * fm ≡ block_length + block_length * fm * (suc b - 1) = next_start fm b l in
    let s : length r ≡ block_length + block_length * fm * (suc b - 1 + n) = h ∙ ap (λ (i : ℕ). block_length + block_length * fm * i) (omega arith) in
    rw (same-past (block_length * fm) (place_bytes fm a b) (places_bytes fm a (counted (suc b) n)) (drop (block_length + block_length * fm * (b - 1)) r) (length-place fm a b), drop-drop (block_length * fm) (block_length + block_length * fm * (b - 1)) r, q, same-places fm r a (suc b) n (omega arith) s)
  where
    next_start : (fm b : ℕ) → 1 ≤ b → block_length + block_length * fm * (b - 1) + block_length * fm ≡ block_length + block_length * fm * (suc b - 1)
    next_start fm zero l = absurd (omega arith)
    next_start fm (suc b) l =
        let p : suc b - 1 ≡ b = omega arith in
        let q : suc (suc b) - 1 ≡ suc b = omega arith in
        rw (p, q) (omega arith)

same_row : (r : List ℕ) (s : Subscriber) → length r ≡ row_length (form_of r)
    → same r (row_bytes (form_of r) s) ≡ same (head r) (head_bytes s) && every (λ k. same (place r k) (place_bytes (form_of r) s.accesses k)) places
unfolding row_bytes places place row_length
same_row r s h =
    let q : block_length ≡ block_length + block_length * form_of r * (1 - 1) = omega arith in
    let m : same (drop block_length r) (places_bytes (form_of r) s.accesses (counted 1 8))
    ≡ every (λ k. same (part r (place_start (form_of r) k) (place_length (form_of r))) (place_bytes (form_of r) s.accesses k)) (counted 1 8) =
    ap (λ (i : ℕ). same (drop i r) (places_bytes (form_of r) s.accesses (counted 1 8))) q ∙ same-places (form_of r) r s.accesses 1 8 (omega arith) (h ∙ omega arith) in
    same-past block_length (head_bytes s) (places_bytes (form_of r) s.accesses (counted 1 8)) r (length-head s) ∙ ap (λ (x : Bool). same (head r) (head_bytes s) && x) m

-- a place of the row

pub place_read : (fm : ℕ) (r : List ℕ) (l : List ℕ) (k : ℕ)
    → place_bytes fm (map (access_at r) l) k ≡ pick (is_on l k) (access_bytes fm (access_at r k)) (zeros (place_length fm))
unfolding place_bytes is_on every pick access_at read_access
place_read fm r [] k = refl
place_read fm r (j ∷ l) k =
    by-test (eqb j k)
    (λ e. rw e (ap (λ (i : ℕ). access_bytes fm (access_at r i)) (eqb-true j k e)))
    (λ e. rw e (place_read fm r l k))

unfoldable pub place_tests : List ℕ → ℕ → Bool
place_tests r k = pick (is_on (order_line r) k) (block_tests (form_of r) (place r k)) (all_zero (place r k))

pub every-on : (f : ℕ → Bool) (l : List ℕ) (k : ℕ) → every f l ≡ true → is_on l k ≡ true → f k ≡ true
unfolding every is_on
every-on f [] k h o = cc
every-on f (j ∷ l) k h o =
    by-test (eqb j k)
    (λ e. rw (← eqb-true j k e) (and_left (f j) (every f l) h))
    (λ e. every-on f l k (and_right (f j) _ h) (rw e at o))

every-cong : (f g : ℕ → Bool) (p : ℕ → Bool) (ks : List ℕ) → every p ks ≡ true → ((k : ℕ) → p k ≡ true → f k ≡ g k) → every f ks ≡ every g ks
unfolding every
every-cong f g p [] h c = refl
every-cong f g p (k ∷ ks) h c = rw (c k (and_left (p k) (every p ks) h), every-cong f g p ks (and_right (p k) _ h) c)

-- the sizes of a row's parts
pub record Sized (r : List ℕ) : Type 0 where
  pub form : is_form (form_of r) ≡ true
  pub size : length r ≡ row_length (form_of r)

pub sized : (r : List ℕ) → is_row r ≡ true → Sized r
unfolding is_row
sized r h =
    record {
      form = and_left (is_form (form_of r)) _ h;
      size = eqb-true (length r) _ (and_right (is_form (form_of r)) _ h);
    }

pub is-sized : (r : List ℕ) → Sized r → is_row r ≡ true
unfolding is_row
is-sized r s = rw (s.form, eq-eqb (length r) (row_length (form_of r)) s.size)

pub length-head-of : (r : List ℕ) → Sized r → length (head r) ≡ block_length
unfolding row_length
length-head-of r s = rw length-take (omega (arith, s.size))

-- a place ends within the row
pub place-ends : (fm k : ℕ) → 1 ≤ k → k ≤ 8 → place_start fm k + place_length fm ≤ row_length fm
unfolding row_length
place-ends fm k lo hi =
    let m : block_length * fm * (k - 1) ≤ block_length * fm * 7 = native.Mathlib.Nat.mul-le-mul_left (block_length * fm) (omega arith) in
    omega arith

pub length-place-of : (r : List ℕ) (k : ℕ) → Sized r → 1 ≤ k → k ≤ 8 → length (place r k) ≡ place_length (form_of r)
unfolding place
length-place-of r k s lo hi = length_part r (place_start (form_of r) k) (place_length (form_of r)) (omega (arith, s.size, place-ends (form_of r) k lo hi))

-- its blocks
pub length-first-of : (r : List ℕ) (k : ℕ) → Sized r → 1 ≤ k → k ≤ 8 → length (first_block (place r k)) ≡ block_length
unfolding is_form
length-first-of r k s lo hi = rw length-take (omega (arith, length-place-of r k s lo hi, within_low 1 2 _ s.form))

pub length-second-of : (r : List ℕ) (k : ℕ) → Sized r → 1 ≤ k → k ≤ 8 → length (second_block (place r k)) ≡ block_length * (form_of r - 1)
length-second-of r k s lo hi = rw length-drop (omega (arith, length-place-of r k s lo hi))

text-bound : (b : List ℕ) (i n : ℕ) → length b ≡ block_length → i ≤ 264 → length (part b i n) ≤ 128 → n ≤ 128
text-bound b i n h le t = omega (arith, simp (length-take, length-drop) at t)

zero-all : (b : List ℕ) (n : ℕ) → length b ≡ n → same b (zeros n) ≡ all_zero b
unfolding all_zero
zero-all b n h = rw h

-- the texts of an access that stands are no longer than their rooms
short : (fm k n : ℕ) (p : List ℕ) → is_form fm ≡ true → length p ≡ place_length fm → Standing fm n (read_place k p) → Short fm p
unfolding read_access is_form spare
short fm k n p f h t =
    let lo : 1 ≤ fm = within_low 1 2 fm f in
    let b : List ℕ = first_block p in
    let c : List ℕ = second_block p in
    let lb : length b ≡ block_length = rw length-take (omega arith) in
    let hi : fm ≤ 2 = within-high 1 2 fm f in
    let lc : fm ≡ 2 → length c ≡ block_length = λ e. rw length-drop (omega arith) in
    record {
      two = text-bound b 8 (get_or b 2 0) lb (omega arith) (within-high 1 128 _ t.sid-fits);
      three = text-bound b 136 (get_or b 3 0) lb (omega arith) (within-high 1 128 _ t.host-fits);
      five = text-bound b 264 (get_or b 5 0) lb (omega arith) (leb-true _ 128 t.first_fits);
      one' = λ e. text-bound c 8 (get_or c 1 0) (lc e) (omega arith) (omega (arith, leb-true _ (128 * (fm - 1)) t.realm-fits));
      three' = λ e. text-bound c 136 (get_or c 3 0) (lc e) (omega arith) (omega (arith, leb-true _ (128 * (fm - 1)) t.second_fits));
      four' = λ e. text-bound c 264 (get_or c 4 0) (lc e) (omega arith) (omega (arith, leb-true _ (128 * (fm - 1)) t.third-fits));
    }

place-said : (r : List ℕ) (n : ℕ) → Sized r → (k : ℕ) → Standing (form_of r) n (access_at r k) → length (place r k) ≡ place_length (form_of r)
    → same (place r k) (access_bytes (form_of r) (access_at r k)) ≡ block_tests (form_of r) (place r k)
unfolding access_at
place-said r n z k t lp = place-form-of (form_of r) k (place r k) z.form lp (short (form_of r) k n (place r k) z.form lp t)

place-form : (r : List ℕ) (n : ℕ) → Sized r → every (good_access (form_of r) n) (read_row r).accesses ≡ true → (k : ℕ) → within 1 8 k ≡ true
    → same (place r k) (place_bytes (form_of r) (read_row r).accesses k) ≡ place_tests r k
unfolding place_tests read_row pick
place-form r n z g k w =
    let lp : length (place r k) ≡ place_length (form_of r) = length-place-of r k z (within_low 1 8 k w) (within-high 1 8 k w) in
    by-test (is_on (order_line r) k)
    (λ e. let t : Standing (form_of r) n (access_at r k) = standing n _ (every-on (λ j. good_access (form_of r) n (access_at r j)) (order_line r) k (rw every_map at g) e) in
    rw (place_read (form_of r) r (order_line r) k, e) (place-said r n z k t lp))
    (λ e. rw (place_read (form_of r) r (order_line r) k, e) (zero-all (place r k) _ lp))

-- entries in a room

unfoldable pub entry_tests : List ℕ → Bool
entry_tests t = zero_behind (get_or t 0 0) (part t 1 100) && eqb (get_or t 103 0) 0

-- n entries, and zeros behind
unfoldable pub entries_tests : ℕ → List ℕ → Bool
entries_tests zero t = all_zero t
entries_tests (suc n) t = entry_tests (take 104 t) && entries_tests n (drop 104 t)

pub filled-append : (x y : List ℕ) (m n : ℕ) → length x ≡ m → length y ≤ n → filled (x ++ y) (m + n) ≡ x ++ filled y n
filled-append x y m n h le =
    let l : length (x ++ y) ≡ m + length y = rw (length-append, h) in
    let q : m + n - (m + length y) ≡ n - length y = omega arith in
    rw (fill (x ++ y) (m + n) (omega arith), l, q, take-zeros (n - length y) (m + n) (omega arith), fill y n le, take-zeros (n - length y) n (omega arith), append_assoc)

same_next : (t : List ℕ) (i c : ℕ) (y : List ℕ) → i < length t → same (drop i t) (c ∷ y) ≡ eqb (get_or t i 0) c && same (drop (suc i) t) y
unfolding same
same_next t i c y lt = rw (drop-cons t i 0 lt)

same-entry : (t : List ℕ) → length t ≡ 104 → get_or t 0 0 ≤ 100 → same t (entry_bytes (read_entry t)) ≡ entry_tests t
unfolding entry_bytes read_entry same entry_tests
same-entry t h le =
    let l : length (part t 1 (get_or t 0 0)) ≡ get_or t 0 0 = length_part t 1 _ (omega arith) in
    let e : drop 104 t ≡ [] = lib.ListN.drop_of_length-le t {i = 104} (omega arith) in
    rw (
      same_next t 0 (length (part t 1 (get_or t 0 0))) _ (omega arith),
      l,
      eqb-self (get_or t 0 0),
      same-past 100 (filled (part t 1 (get_or t 0 0)) 100) (get_or t 101 0 ∷ get_or t 102 0 ∷ 0 ∷ []) (drop 1 t) (length-filled _ 100),
      drop-drop 100 1 t,
      room_at t 1 100 (get_or t 0 0) (omega arith) le,
      same_next t 101 (get_or t 101 0) _ (omega arith),
      same_next t 102 (get_or t 102 0) _ (omega arith),
      same_next t 103 0 _ (omega arith),
      e,
    )
    (simp (eqb-self, and-true))

length-entries : (n : ℕ) (t : List ℕ) → length (entries_bytes (read_entries n t)) ≡ 104 * n
unfolding read_entries entries_bytes
length-entries zero t = refl
length-entries (suc n) t = rw (length-append, length-entry, length-entries n (drop 104 t)) (omega arith)

filled_none : (k : ℕ) → filled [] k ≡ zeros k
unfolding filled
filled_none k = take-zeros k k (omega arith)

label-bound : (t : List ℕ) → length t ≡ 104 → good_entry (read_entry t) ≡ true → get_or t 0 0 ≤ 100
unfolding good_entry read_entry
label-bound t h g =
    let w : length (part t 1 (get_or t 0 0)) ≤ 100 = within-high 1 100 _ (and_left (within 1 100 (length (part t 1 (get_or t 0 0)))) _ g) in
    omega (arith, simp (length-take, length-drop) at w)

entry-forms : (n m : ℕ) (t : List ℕ) → length t ≡ 104 * m → n ≤ m → every good_entry (read_entries n t) ≡ true
    → same t (filled (entries_bytes (read_entries n t)) (104 * m)) ≡ entries_tests n t
unfolding read_entries entries_bytes entries_tests every
entry-forms zero m t h le g = rw (filled_none (104 * m)) (zero-all t (104 * m) h)
entry-forms (suc n) zero t h le g = absurd (omega arith)
entry-forms (suc n) (suc m) t h le g =
    let q : 104 * suc m ≡ 104 + 104 * m = omega arith in
    let lt : length (take 104 t) ≡ 104 = rw length-take (omega arith) in
    let ld : length (drop 104 t) ≡ 104 * m = rw length-drop (omega arith) in
    let le' : n ≤ m = omega arith in
    let lab : get_or (take 104 t) 0 0 ≤ 100 = label-bound (take 104 t) lt (and_left (good_entry (read_entry (take 104 t))) _ g) in
    rw (
      q,
      filled-append (entry_bytes (read_entry (take 104 t))) (entries_bytes (read_entries n (drop 104 t))) 104 (104 * m) (length-entry _) (omega (arith, length-entries n (drop 104 t))),
      same-past 104 (entry_bytes (read_entry (take 104 t))) (filled (entries_bytes (read_entries n (drop 104 t))) (104 * m)) t (length-entry _),
      same-entry (take 104 t) lt lab,
      entry-forms n m (drop 104 t) ld le' (and_right (good_entry (read_entry (take 104 t))) _ g),
    )

-- block 0

unfoldable pub head_tests : List ℕ → Bool
head_tests b =
    let l : List ℕ = part b 20 8 in
    eqb (get_or b 0 0) 1 && (zero_behind (get_or b 1 0) (part b 2 15) && (eqb (get_or b 17 0) (used_bits (up_to0 l))
    && (zero_behind (length (up_to0 l)) l && (all_zero (part b 28 4) && (entries_tests (get_or b 18 0) (part b 32 416) && (all_zero (part b 448 62) && sum_ok b))))))

pub up-to-part : (l : List ℕ) → up_to0 l ≡ take (length (up_to0 l)) l
unfolding up_to0 pick
up-to-part [] = refl
up-to-part (x ∷ l) = by-test (eqb x 0) (λ e. rw e) (λ e. rw e (ap (λ (t : List ℕ). x ∷ t) (up-to-part l)))

pub up-to-length : (l : List ℕ) → length (up_to0 l) ≤ length l
unfolding up_to0 pick
up-to-length [] = omega arith
up-to-length (x ∷ l) = by-test (eqb x 0) (λ e. rw e (omega arith)) (λ e. rw e (omega (arith, up-to-length l)))

same_head : (b : List ℕ) (n bits c o : ℕ) (nm l es : List ℕ) → length b ≡ block_length
    → same (take 510 b) (1 ∷ n ∷ filled nm 15 ++ (bits ∷ c ∷ o ∷ filled l 8 ++ (zeros 4 ++ (filled es 416 ++ zeros 62))))
    ≡ eqb (get_or b 0 0) 1 && (eqb (get_or b 1 0) n && (same (part b 2 15) (filled nm 15) && (eqb (get_or b 17 0) bits && (eqb (get_or b 18 0) c && (eqb (get_or b 19 0) o
    && (same (part b 20 8) (filled l 8) && (same (part b 28 4) (zeros 4) && (same (part b 32 416) (filled es 416) && same (part b 448 62) (zeros 62)))))))))
same_head b n bits c o nm l es lb =
    let t : List ℕ = take 510 b in
    rw (
      same_at b 0 1 (n ∷ filled nm 15 ++ (bits ∷ c ∷ o ∷ filled l 8 ++ (zeros 4 ++ (filled es 416 ++ zeros 62)))) lb (omega arith),
      same_at b 1 n (filled nm 15 ++ (bits ∷ c ∷ o ∷ filled l 8 ++ (zeros 4 ++ (filled es 416 ++ zeros 62)))) lb (omega arith),
      same-past 15 (filled nm 15) (bits ∷ c ∷ o ∷ filled l 8 ++ (zeros 4 ++ (filled es 416 ++ zeros 62))) (drop 2 (take 510 b)) (length-filled nm 15),
      drop-drop 15 2 (take 510 b),
      same_at b 17 bits (c ∷ o ∷ filled l 8 ++ (zeros 4 ++ (filled es 416 ++ zeros 62))) lb (omega arith),
      same_at b 18 c (o ∷ filled l 8 ++ (zeros 4 ++ (filled es 416 ++ zeros 62))) lb (omega arith),
      same_at b 19 o (filled l 8 ++ (zeros 4 ++ (filled es 416 ++ zeros 62))) lb (omega arith),
      same-past 8 (filled l 8) (zeros 4 ++ (filled es 416 ++ zeros 62)) (drop 20 (take 510 b)) (length-filled l 8),
      drop-drop 8 20 (take 510 b),
      same-past 4 (zeros 4) (filled es 416 ++ zeros 62) (drop 28 (take 510 b)) (length-zeros 4),
      drop-drop 4 28 (take 510 b),
      same-past 416 (filled es 416) (zeros 62) (drop 32 (take 510 b)) (length-filled es 416),
      drop-drop 416 32 (take 510 b),
      part-take 510 2 15 b (omega arith),
      part-take 510 20 8 b (omega arith),
      part-take 510 28 4 b (omega arith),
      part-take 510 32 416 b (omega arith),
      drop-take 448 62 510 b (omega arith),
    )

pub line_read : (r l : List ℕ) → line (map (access_at r) l) ≡ l
unfolding line access_at read_access
line_read r [] = refl
line_read r (k ∷ l) = rw (line_read r l)

pub length-read : (n : ℕ) (t : List ℕ) → length (read_entries n t) ≡ n
unfolding read_entries
length-read zero t = refl
length-read (suc n) t = ap suc (length-read n (drop 104 t))

room-line : (t : List ℕ) → length t ≡ 8 → same t (filled (up_to0 t) 8) ≡ zero_behind (length (up_to0 t)) t
room-line t h =
    ap (λ (l : List ℕ). same t (filled l 8)) (up-to-part t) ∙ same-room t 8 (length (up_to0 t)) h (omega (arith, up-to-length t))

head-form-of : (b : List ℕ) (a : List Access) → line a ≡ up_to0 (part b 20 8) → length b ≡ block_length → get_or b 1 0 ≤ 15 → get_or b 18 0 ≤ 4 → every good_entry (read_entries (get_or b 18 0) (part b 32 416)) ≡ true
    → same b (head_bytes (record { operator = get_or b 19 0; name = part b 2 (get_or b 1 0); entries = read_entries (get_or b 18 0) (part b 32 416); accesses = a }))
    ≡ head_tests b
unfolding head_bytes head_tests
head-form-of b a la lb n15 n4 g =
    let ln : length (part b 2 (get_or b 1 0)) ≡ get_or b 1 0 = length_part b 2 _ (omega arith) in
    let rn : same (part b 2 15) (filled (part b 2 (get_or b 1 0)) 15) ≡ zero_behind (get_or b 1 0) (part b 2 15) = room_at b 2 15 (get_or b 1 0) (omega arith) n15 in
    let rl : same (part b 20 8) (filled (up_to0 (part b 20 8)) 8) ≡ zero_behind (length (up_to0 (part b 20 8))) (part b 20 8) = room-line (part b 20 8) (length_part b 20 8 (omega arith)) in
    let z4 : same (part b 28 4) (zeros 4) ≡ all_zero (part b 28 4) = sym (zero_room b 28 4 (omega arith)) in
    let z62 : same (part b 448 62) (zeros 62) ≡ all_zero (part b 448 62) = sym (zero_room b 448 62 (omega arith)) in
    let ents : same (part b 32 416) (filled (entries_bytes (read_entries (get_or b 18 0) (part b 32 416))) 416) ≡ entries_tests (get_or b 18 0) (part b 32 416) =
    entry-forms (get_or b 18 0) 4 (part b 32 416) (length_part b 32 416 (omega arith)) n4 g in
    same-sealed _ b (simp (length-append, length-filled, length-zeros))
    ∙ rw (
      la,
      same_head b (length (part b 2 (get_or b 1 0))) (used_bits (up_to0 (part b 20 8))) (length (read_entries (get_or b 18 0) (part b 32 416))) (get_or b 19 0) (part b 2 (get_or b 1 0)) (up_to0 (part b 20 8)) (entries_bytes (read_entries (get_or b 18 0) (part b 32 416))) lb,
      rn,
      rl,
      z4,
      z62,
      ents,
      ln,
      length-read (get_or b 18 0) (part b 32 416),
    )
    (simp (eqb-self, and_assoc))

name-bound : (b : List ℕ) → length b ≡ block_length → length (part b 2 (get_or b 1 0)) ≤ 15 → get_or b 1 0 ≤ 15
name-bound b h t = omega (arith, simp (length-take, length-drop) at t)

head-form : (r : List ℕ) → Sized r → Good (form_of r) (read_row r) → same (head r) (head_bytes (read_row r)) ≡ head_tests (head r)
unfolding read_row order_line
head-form r z g =
    let lb : length (head r) ≡ block_length = length-head-of r z in
    let nl : length (part (head r) 2 (get_or (head r) 1 0)) ≤ 15 = name-length _ g.name-good in
    let es : length (read_entries (get_or (head r) 18 0) (part (head r) 32 416)) ≤ 4 = leb-true _ 4 g.entries-good.four in
    head-form-of (head r) _ (line_read r _) lb
    (name-bound (head r) lb nl)
    (omega (arith, length-read (get_or (head r) 18 0) (part (head r) 32 416)))
    g.entries-good.each

-- these tests pass exactly if the row is the bytes of the subscriber that it says, and that is a good one (`said-tests`)
unfoldable pub tests : List ℕ → Bool
tests r = (head_tests (head r) && every (place_tests r) places) && good (form_of r) (read_row r)

pub said-tests : (r : List ℕ) → Sized r → said_sound r ≡ tests r
unfolding said_sound tests
said-tests r z =
    by-test (good (form_of r) (read_row r))
    (λ e. let g : Good (form_of r) (read_row r) = is-good (read_row r) e in
    rw (same_row r (read_row r) z.size, head-form r z g, every-cong _ _ (within 1 8) places places-eight.1 (place-form r _ z g.accesses-good.each)))
    (λ e. simp (e, and-false))
