-- Where the bytes of a place and of an entry stand in the row, and in the room of the entries.
use mathlib.Core.Path.{◌≡◌, sym, ap, ◌∙◌}
use mathlib.Core.Bool.{true}
use mathlib.Core.List.{List, [], ◌∷◌}
use Prim.Native.Nat.{ℕ, ◌+◌, ◌-◌, ◌*◌, ◌/◌, ◌%◌, ◌≤◌, ◌<◌}
use native.Mathlib.Omega.{arith}
use lib.ListN.{length, get_or, take, drop, drop_of_length-le}
use lib.Seq.{drop-drop, get_or-drop, get_or-take, take-nil, take-take}
use Rattle.octets.specs.Texts.{part}
use Rattle.octets.proofs.Lists.{within-high, within_low}
use Rattle.octets.proofs.Pieces.{drop-take, part-take}
use Rattle.table.specs.Soundness.{is_row}
use Rattle.table.specs.TheTable.{block_length, first_block, form_of, head, is_form, line_room, place, place_length, place_start, row_length, second_block}
use Rattle.table.proofs.Form.{Sized, length-second-of, place-ends, sized}
use Rattle.table.proofs.Rows.{lent_at, lent-part}

-- THE SIZES OF A ROW

pub row-sizes : (r : List ℕ) → is_row r ≡ true → (length r ≡ block_length + 8 * place_length (form_of r)) × (1 ≤ form_of r) × (form_of r ≤ 2)
unfolding row_length is_form
row-sizes r h = let s : Sized r = sized r h in (omega (arith, s.size), within_low 1 2 _ s.form, within-high 1 2 _ s.form)

-- the places share what the row has behind block 0
pub stride-is : (r : List ℕ) → is_row r ≡ true → (length r - block_length) / 8 ≡ place_length (form_of r)
stride-is r h = omega (arith, (row-sizes r h).0)

-- where place k starts, as the code has it
pub start_is : (r : List ℕ) (k : ℕ) → is_row r ≡ true → block_length + (length r - block_length) / 8 * (k - 1) ≡ place_start (form_of r) k
start_is r k h = ap (λ (w : ℕ). block_length + w * (k - 1)) (stride-is r h)

-- place k ends within the row
pub place-within : (r : List ℕ) (k : ℕ) → is_row r ≡ true → 1 ≤ k → k ≤ 8 → place_start (form_of r) k + place_length (form_of r) ≤ length r
unfolding row_length
place-within r k h lo hi = omega (arith, (row-sizes r h).0, place-ends (form_of r) k lo hi)

-- a second block has 512 bytes, or none
pub second-whole : (r : List ℕ) (k : ℕ) → is_row r ≡ true → 1 ≤ k → k ≤ 8 → length (second_block (place r k)) % block_length ≡ 0
second-whole r k h lo hi = omega (arith, length-second-of r k (sized r h) lo hi)

-- by it the form is told
pub form-one : (r : List ℕ) (k : ℕ) → is_row r ≡ true → 1 ≤ k → k ≤ 8 → length (second_block (place r k)) ≡ 0 → form_of r ≡ 1
form-one r k h lo hi e = omega (arith, length-second-of r k (sized r h) lo hi, row-sizes r h)

pub form-two : (r : List ℕ) (k : ℕ) → is_row r ≡ true → 1 ≤ k → k ≤ 8 → (length (second_block (place r k)) ≡ 0 → ⊥)
    → (form_of r ≡ 2) × (length (second_block (place r k)) ≡ block_length)
form-two r k h lo hi n =
    let f : form_of r ≡ 2 = omega (arith, length-second-of r k (sized r h) lo hi, row-sizes r h) in
    (f, omega (arith, length-second-of r k (sized r h) lo hi))

-- THE BLOCKS OF A PLACE, in the row

pub first-is : (r : List ℕ) (k : ℕ) → is_row r ≡ true → first_block (place r k) ≡ part r (place_start (form_of r) k) block_length
unfolding place
first-is r k h = take-take block_length (place_length (form_of r)) (drop (place_start (form_of r) k) r) (omega (arith, (row-sizes r h).1))

pub second_is : (r : List ℕ) (k : ℕ) → is_row r ≡ true → second_block (place r k) ≡ part r (place_start (form_of r) k + block_length) (place_length (form_of r) - block_length)
unfolding place
second_is r k h =
    drop-take block_length (place_length (form_of r) - block_length) (place_length (form_of r)) (drop (place_start (form_of r) k) r) (omega (arith, (row-sizes r h).1))
    ∙ ap (take (place_length (form_of r) - block_length)) (drop-drop block_length (place_start (form_of r) k) r)

pub block-byte : (r : List ℕ) (k i : ℕ) → is_row r ≡ true → i < block_length → get_or (first_block (place r k)) i 0 ≡ get_or r (place_start (form_of r) k + i) 0
block-byte r k i h l =
    ap (λ (b : List ℕ). get_or b i 0) (first-is r k h) ∙ get_or-take block_length (drop (place_start (form_of r) k) r) i 0 l ∙ get_or-drop (place_start (form_of r) k) r i 0

pub block-part : (r : List ℕ) (k a n : ℕ) → is_row r ≡ true → a + n ≤ block_length → part (first_block (place r k)) a n ≡ part r (place_start (form_of r) k + a) n
block-part r k a n h l =
    ap (λ (b : List ℕ). part b a n) (first-is r k h) ∙ part-take block_length a n (drop (place_start (form_of r) k) r) l ∙ ap (take n) (drop-drop a (place_start (form_of r) k) r)

-- a byte, where the code has the place's start as s
pub byte_at : (r : List ℕ) (k s i : ℕ) → is_row r ≡ true → s ≡ place_start (form_of r) k → i < block_length → get_or r (s + i) 0 ≡ get_or (first_block (place r k)) i 0
byte_at r k s i h e l = ap (λ (x : ℕ). get_or r (x + i) 0) e ∙ sym (block-byte r k i h l)

-- BLOCK 0

pub head_byte : (r : List ℕ) (i : ℕ) → i < block_length → get_or (head r) i 0 ≡ get_or r i 0
head_byte r i h = get_or-take block_length r i 0 h

pub head-part : (r : List ℕ) (a n : ℕ) → a + n ≤ block_length → part (head r) a n ≡ part r a n
head-part r a n h = part-take block_length a n r h

-- the i-th byte of the order line's room
pub line-byte : (r : List ℕ) (i : ℕ) → i < 8 → get_or (line_room r) i 0 ≡ get_or r (20 + i) 0
line-byte r i h = ap (λ (t : List ℕ). get_or t i 0) (head-part r 20 8 (omega arith)) ∙ get_or-take 8 (drop 20 r) i 0 h ∙ get_or-drop 20 r i 0

-- PARTS THAT ARE LENT

-- for a text of the first block, by its length there
pub text-lent : (r : List ℕ) (k s a i m : ℕ) → is_row r ≡ true → s ≡ place_start (form_of r) k → m ≡ get_or r (s + i) 0 → i < block_length → a + m ≤ block_length
    → take (s + a + m - (s + a)) (drop (s + a) r) ≡ part (first_block (place r k)) a (get_or (first_block (place r k)) i 0)
text-lent r k s a i m h p e l f =
    let n : get_or (first_block (place r k)) i 0 ≡ m = sym (byte_at r k s i h p l) ∙ sym e in
    lent-part r (s + a) m m (omega arith) ∙ ap (λ (x : ℕ). part r (x + a) m) p ∙ sym (block-part r k a m h f) ∙ ap (part (first_block (place r k)) a) (sym n)

-- for the place and its blocks; s and w are its start and its length as the code has them
module _ (r : List ℕ) (k s : ℕ) (h : is_row r ≡ true) (p : s ≡ place_start (form_of r) k) where
  pub place-lent : (w : ℕ) → w ≡ place_length (form_of r) → take (s + w - s) (drop s r) ≡ place r k
  unfolding place
  place-lent w e = lent-part r s w (place_length (form_of r)) e ∙ ap (λ (x : ℕ). part r x (place_length (form_of r))) p

  pub first-lent : take (s + block_length - s) (drop s r) ≡ first_block (place r k)
  first-lent = lent_at r s (place_start (form_of r) k) block_length p ∙ sym (first-is r k h)

  pub second-lent : (w : ℕ) → w ≡ place_length (form_of r) → take (s + w - (s + block_length)) (drop (s + block_length) r) ≡ second_block (place r k)
  second-lent w e =
      let q : s + w - (s + block_length) ≡ place_length (form_of r) - block_length = omega arith in
      rw (q, p) (sym (second_is r k h))

-- of a block of no bytes
pub none_lent : (c : List ℕ) (a i : ℕ) → length c ≡ 0 → c ≡ part c a (get_or c i 0)
none_lent (x ∷ c) a i h = absurd (omega arith)
none_lent [] a i h = sym (nothing-in a (get_or [] i 0))
  where
    nothing-in : (a n : ℕ) → part [] a n ≡ []
    nothing-in a n = rw (drop_of_length-le {A = ℕ} [] {i = a} (omega arith), take-nil n)

-- IN THE ROOM OF THE ENTRIES

pub entry-byte : (room : List ℕ) (i j : ℕ) → j < 104 → get_or (part room (104 * i) 104) j 0 ≡ get_or room (104 * i + j) 0
entry-byte room i j h = get_or-take 104 (drop (104 * i) room) j 0 h ∙ get_or-drop (104 * i) room j 0

pub label-lent : (room : List ℕ) (i m : ℕ) → m ≡ get_or room (104 * i) 0 → m ≤ 100
    → take (104 * i + 1 + m - (104 * i + 1)) (drop (104 * i + 1) room) ≡ part (part room (104 * i) 104) 1 (get_or (part room (104 * i) 104) 0 0)
label-lent room i m e h =
    let q : 104 * i + 0 ≡ 104 * i = omega arith in
    let n : get_or (part room (104 * i) 104) 0 0 ≡ m = entry-byte room i 0 (omega arith) ∙ ap (λ (j : ℕ). get_or room j 0) q ∙ sym e in
    lent-part room (104 * i + 1) m m (omega arith)
    ∙ sym (part-take 104 1 m (drop (104 * i) room) (omega arith) ∙ ap (take m) (drop-drop 1 (104 * i) room))
    ∙ ap (part (part room (104 * i) 104) 1) (sym n)
