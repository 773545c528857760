-- What code reads in a sound row, and the row that each change leaves, as code leaves it.
use mathlib.Core.Path.{◌≡◌, refl, sym, ap, ◌∙◌}
use mathlib.Core.Bool.{true, false, not}
use mathlib.Core.List.{List, [], ◌∷◌, ◌++◌, map, append_assoc, append-nil}
use Prim.Native.Nat.{ℕ, zero, suc, ◌+◌, ◌-◌, ◌*◌, ◌/◌, ◌≤◌, ◌<◌, ◌^◌}
use native.Mathlib.Omega.{arith}
use lib.Dec.{eqb, ltb}
use lib.Pow.{pow_pos}
use lib.ListN.{length, take, drop, get_or, set, length-append, length-drop, length-map, drop_of_length-le, take-append-drop}
use lib.Seq.{drop-append-le, drop_at, drop-drop, take-append-le, take_all, take_at, take-take, length-take-le}
use Rattle.octets.specs.Choice.{pick, within}
use Rattle.octets.specs.Lists.{counted, every, is_on, keep}
use Rattle.octets.specs.Texts.{filled, part, put, zeros}
use Rattle.octets.proofs.Lists.{by-test, eqb_comm, keep-length, on-cons, on_none, within-high, within_low}
use Rattle.octets.proofs.Texts.{back-put, length-filled, length_part, length-zeros}
use Rattle.table.specs.Soundness.{sound}
use Rattle.table.specs.Answers.{lent}
use Rattle.table.specs.TheTable.{block_length, Access, Entry, Policies, Subscriber, access_bytes, first_bytes, form_of, is_form, place, place_length, place_start, second_block, second_bytes, entries_bytes, entry_bytes, from_bits, head_bytes, held, line, order_line, place_bytes, places, places_bytes, read_row, row_at, row_bytes, row_length, sealed, sums_from, used_bits, with_row}
use Rattle.table.proofs.Bytes.{access-one, access-two, first-of, form-of, length-access, length-first, length-entry, length-head, length-row, length-sealed, length-second, place_is, second-of}
use Rattle.table.proofs.Form.{Sized, every-on, line_read, place-ends}
use Rattle.table.proofs.Good.{at-most-eight, by_form}
use Rattle.table.proofs.Rows.{lent_length, lent_row}
use Rattle.table.proofs.Sound.{clauses, row_is, says-good}
use Rattle.changes.specs.Changes.{Opening, freed, hold, kept_in, leave, lowest_free, new_access, opened, routed, with_accesses, named, with_entry}
use Rattle.changes.specs.Writes.{closed_up, entries_with, fresh, head_with, lowest_clear, opened_bytes, others_with, policy_with, routed_bytes}
use Rattle.changes.proofs.Bits.{bits-bound, is-vacant, lowest-clear}
use Rattle.changes.proofs.Blocks.{bits-with, bits-without, closed-filled, filled_more, filled_none, put-over, put-room, zeros-split, zeros-two}
use Rattle.changes.proofs.Puts.{freed-puts, on_place, opened-puts, put_head, put_place, routed-puts}
use Rattle.changes.proofs.Stays.{free-place, line-snoc}
use Rattle.changes.proofs.Sums.{block-agrees}
use Rattle.changes.proofs.Steps.{first-policy, free-byte, head-line, keep-map, room-entry, row-bits, second-policies}
use Rattle.octets.proofs.Pieces.{drop_past, get_or_past, take_past}

-- THE FIRST BYTES OF A ROW

-- what stands behind the order line
abbrev behind : (form : ℕ) → Subscriber → List ℕ
behind fm s =
    (zeros 4 ++ (filled (entries_bytes s.entries) 416 ++ zeros 62))
    ++ (sums_from 0 0 (1 ∷ length s.name ∷ filled s.name 15
    ++ (used_bits (line s.accesses) ∷ length s.entries ∷ s.operator ∷ filled (line s.accesses) 8
    ++ (zeros 4 ++ (filled (entries_bytes s.entries) 416 ++ zeros 62))))
    ++ places_bytes fm s.accesses places)

row-shape : (fm : ℕ) (s : Subscriber)
    → row_bytes fm s ≡ 1 ∷ length s.name ∷ filled s.name 15
    ++ (used_bits (line s.accesses) ∷ length s.entries ∷ s.operator ∷ filled (line s.accesses) 8 ++ behind fm s)
unfolding row_bytes head_bytes sealed
row-shape fm s = simp append_assoc

row_count : (fm : ℕ) (s : Subscriber) → get_or (row_bytes fm s) 18 0 ≡ length s.entries
row_count fm s = ap (λ (t : List ℕ). get_or t 18 0) (row-shape fm s) ∙ get_or_past 15 1 (filled s.name 15) _ (length-filled _ 15)

row_line : (fm : ℕ) (s : Subscriber) → part (row_bytes fm s) 20 8 ≡ filled (line s.accesses) 8
row_line fm s =
    ap (λ (t : List ℕ). part t 20 8) (row-shape fm s)
    ∙ ap (take 8) (drop_past 15 3 (filled s.name 15) _ (length-filled _ 15))
    ∙ take_at (filled (line s.accesses) 8) (behind fm s) 8 (length-filled _ 8)

row-head : (fm : ℕ) (s : Subscriber) → take block_length (row_bytes fm s) ≡ head_bytes s
unfolding row_bytes
row-head fm s = take_at (head_bytes s) (places_bytes fm s.accesses places) block_length (length-head s)

-- the order line within block 0
part-first : (x y : List ℕ) → 28 ≤ length x → part (x ++ y) 20 8 ≡ part x 20 8
part-first x y h =
    ap (take 8) (drop-append-le 20 x y (omega arith)) ∙ take-append-le 8 (drop 20 x) y (simp length-drop (omega arith))

head-order : (s : Subscriber) → part (head_bytes s) 20 8 ≡ filled (line s.accesses) 8
unfolding row_bytes
head-order s = sym (part-first (head_bytes s) (places_bytes 1 s.accesses places) (rw length-head (omega arith))) ∙ row_line 1 s

row-rest : (fm : ℕ) (s : Subscriber) → drop block_length (row_bytes fm s) ≡ places_bytes fm s.accesses places
unfolding row_bytes
row-rest fm s = drop_at (head_bytes s) (places_bytes fm s.accesses places) block_length (length-head s)

pub row_sized : (r : List ℕ) → sound r ≡ true → Sized r
row_sized r h = (clauses r h).row

-- the size of a row as the code counts it
pub record Measured (r : List ℕ) : Type 0 where
  pub size : length r ≡ block_length + 8 * place_length (form_of r)
  pub least : 1 ≤ form_of r
  pub most : form_of r ≤ 2

pub measured : (r : List ℕ) → Sized r → Measured r
unfolding row_length is_form
measured r z = record { size = omega (arith, z.size); least = within_low 1 2 (form_of r) z.form; most = within-high 1 2 (form_of r) z.form }

pub row-size : (r : List ℕ) → sound r ≡ true → Measured r
row-size r h = measured r (row_sized r h)

-- where a place stands
pub place_inside : (r : List ℕ) (k : ℕ) → Measured r → 1 ≤ k → k ≤ 8 → place_start (form_of r) k + place_length (form_of r) ≤ length r
unfolding row_length
place_inside r k m lo hi = omega (arith, m.size, place-ends (form_of r) k lo hi)

module _ (r : List ℕ) (h : sound r ≡ true) where
  pub head_of : take block_length r ≡ head_bytes (read_row r)
  head_of = ap (take block_length) (row_is r h) ∙ row-head (form_of r) (read_row r)

  pub count_of : get_or r 18 0 ≡ length (read_row r).entries
  count_of = ap (λ (t : List ℕ). get_or t 18 0) (row_is r h) ∙ row_count (form_of r) (read_row r)

  pub line_of : part r 20 8 ≡ filled (line (read_row r).accesses) 8
  line_of = ap (λ (t : List ℕ). part t 20 8) (row_is r h) ∙ row_line (form_of r) (read_row r)

  pub bits_of : get_or r 17 0 ≡ used_bits (line (read_row r).accesses)
  bits_of = ap (λ (t : List ℕ). get_or t 17 0) (row_is r h) ∙ row-bits (form_of r) (read_row r)

  pub at_most : length (read_row r).accesses ≤ 8
  at_most = at-most-eight (read_row r).entries (read_row r).accesses (says-good r h).entries-good (says-good r h).accesses-good

  pub place_in : (k : ℕ) → is_on (order_line r) k ≡ true → (1 ≤ k) × (k ≤ 8)
  place_in k o =
      let w : within 1 8 k ≡ true = every-on (within 1 8) (order_line r) k (clauses r h).line-in o in
      (within_low 1 8 k w, within-high 1 8 k w)

pub order_is : (r : List ℕ) → line (read_row r).accesses ≡ order_line r
unfolding read_row
order_is r = line_read r (order_line r)

-- A PLACE OF A ROW

pub put-place : (fm : ℕ) (r : List ℕ) (k : ℕ) (b : List ℕ) → length b ≡ place_length fm → put r (place_start fm k) b ≡ put_place fm r k b
unfolding put
put-place fm r k b h = rw h

-- the length of a place as the code counts it, and the part that is lent for one: n bytes from a on
pub place-long : (r : List ℕ) → Measured r → (length r - block_length) / 8 ≡ place_length (form_of r)
place-long r m = omega (arith, m.size)

pub lent-place : (r : List ℕ) (k a n : ℕ) → a ≡ place_start (form_of r) k → n ≡ place_length (form_of r) → take (a + n - a) (drop a r) ≡ place r k
unfolding place
lent-place r k a n ea en = let q : a + n - a ≡ block_length * form_of r = omega arith in rw (q, ea)

-- its length tells the form
part-form : (s : List ℕ) (fm a n : ℕ) → a + n ≤ length s → n ≡ place_length fm → length (take (a + n - a) (drop a s)) / block_length ≡ fm
part-form s fm a n h e = omega (arith, lent_length s a n h)

pub room_of : (s : List ℕ) (fm a n : ℕ) → a + n ≤ length s → n ≡ place_length fm → 1 ≤ fm → fm ≤ 2
    → (length (take (a + n - a) (drop a s)) ≡ place_length (length (take (a + n - a) (drop a s)) / block_length)) × (1 ≤ length (take (a + n - a) (drop a s)) / block_length) × (length (take (a + n - a) (drop a s)) / block_length ≤ 2)
room_of s fm a n h e lo hi =
    let l : length (take (a + n - a) (drop a s)) ≡ n = lent_length s a n h in
    (omega arith, omega arith, omega arith)

-- block 0 stays as it is where a place is written
pub head-stays : (fm : ℕ) (r : List ℕ) (k : ℕ) (b : List ℕ) → place_start fm k ≤ length r → take block_length (put r (place_start fm k) b) ≡ take block_length r
unfolding put
head-stays fm r k b h =
    let l : length (take (block_length + block_length * fm * (k - 1)) r) ≡ block_length + block_length * fm * (k - 1) = length-take-le (block_length + block_length * fm * (k - 1)) r h in
    take-append-le block_length (take (block_length + block_length * fm * (k - 1)) r) (b ++ drop (block_length + block_length * fm * (k - 1) + length b) r) (omega arith) ∙ take-take block_length (block_length + block_length * fm * (k - 1)) r (omega arith)

-- the sums of block 0 agree, whatever was written behind it
head-sealed : (s : Subscriber) (u : List ℕ) → u ≡ head_bytes s → u ≡ sealed (take 510 u)
unfolding head_bytes
head-sealed s u e = block-agrees _ u (length-head s) e

pub head-agrees : (r z : List ℕ) → sound r ≡ true → take block_length z ≡ take block_length r → (length (take block_length z) ≡ block_length) × (take block_length z ≡ sealed (take 510 (take block_length z)))
head-agrees r z h e =
    let head : take block_length z ≡ head_bytes (read_row r) = e ∙ head_of r h in
    (ap length head ∙ length-head (read_row r), head-sealed (read_row r) (take block_length z) head)

-- A PLACE IS FREED

line-leave : (k : ℕ) (a : List Access) → line (leave k a) ≡ keep (λ p. not (eqb p k)) (line a)
unfolding line leave
line-leave k a = sym (keep-map (λ (x : Access). x.place) (λ p. not (eqb p k)) a)

length-line : (a : List Access) → length (line a) ≡ length a
unfolding line
length-line a = length-map a (λ (x : Access). x.place)

pub in-8 : (k : ℕ) → 1 ≤ k → k ≤ 8 → within 1 8 k ≡ true
in-8 k lo hi = Rattle.octets.proofs.Lists.in_within 1 8 k lo hi

-- the bit is set
pub bit_in : (r : List ℕ) (k : ℕ) → sound r ≡ true → is_on (order_line r) k ≡ true
    → get_or r 17 0 ≡ used_bits (line (leave k (read_row r).accesses)) + 2 ^ (k - 1)
bit_in r k h o =
    let a : List Access = (read_row r).accesses in
    let w : (1 ≤ k) × (k ≤ 8) = place_in r h k o in
    bits_of r h ∙ bits-without (line a) k w.0 w.1 (ap (λ (l : List ℕ). is_on l k) (order_is r) ∙ o) ∙ ap (λ (l : List ℕ). used_bits l + 2 ^ (k - 1)) (sym (line-leave k a))

-- the line closes up
pub closed_is : (r : List ℕ) (k : ℕ) → sound r ≡ true → is_on (order_line r) k ≡ true → closed_up (part r 20 8) k ≡ filled (line (leave k (read_row r).accesses)) 8
closed_is r k h o =
    let a : List Access = (read_row r).accesses in
    ap (λ (t : List ℕ). closed_up t k) (line_of r h)
    ∙ closed-filled (line a) k (place_in r h k o).0 (omega (arith, length-line a, at_most r h)) (keep-length (λ p. not (eqb p k)) (line a))
    ∙ ap (λ (t : List ℕ). filled t 8) (sym (line-leave k a))

pub free_law : (r : List ℕ) (k : ℕ) → sound r ≡ true → is_on (order_line r) k ≡ true
    → put_head (put r (place_start (form_of r) k) (zeros (place_length (form_of r)))) (head_with (take block_length (put r (place_start (form_of r) k) (zeros (place_length (form_of r))))) (get_or r 17 0 - 2 ^ (k - 1)) (closed_up (part r 20 8) k))
    ≡ row_bytes (form_of r) (freed k (read_row r))
unfolding freed head_with
free_law r k h o =
    let fm : ℕ = form_of r in
    let s : Subscriber = read_row r in
    let a : List Access = s.accesses in
    let w : (1 ≤ k) × (k ≤ 8) = place_in r h k o in
    let n : List ℕ = zeros (place_length fm) in
    let z : List ℕ = put r (place_start fm k) n in
    let e1 : take block_length z ≡ head_bytes s = head-stays fm r k n (omega (arith, place_inside r k (row-size r h) w.0 w.1)) ∙ head_of r h in
    let e2 : get_or r 17 0 - 2 ^ (k - 1) ≡ used_bits (line (leave k a)) = omega (arith, bit_in r k h o) in
    let e3 : closed_up (part r 20 8) k ≡ filled (line (leave k a)) 8 = closed_is r k h o in
    let ez : z ≡ put_place fm (row_bytes fm s) k n = put-place fm r k n (length-zeros (place_length fm)) ∙ ap (λ (t : List ℕ). put_place fm t k n) (row_is r h) in
    let head : head_with (take block_length z) (get_or r 17 0 - 2 ^ (k - 1)) (closed_up (part r 20 8) k) ≡ head_bytes (freed k s) =
    ap (λ (t : List ℕ). head_with t (get_or r 17 0 - 2 ^ (k - 1)) (closed_up (part r 20 8) k)) e1
    ∙ ap (λ (t : ℕ). head_with (head_bytes s) t (closed_up (part r 20 8) k)) e2
    ∙ ap (λ (t : List ℕ). head_with (head_bytes s) (used_bits (line (leave k a))) t) e3
    ∙ sym (head-line s (leave k a)) in
    ap (λ (t : List ℕ). put_head z t) head
    ∙ ap (λ (t : List ℕ). put_head t (head_bytes (freed k s))) ez
    ∙ sym (freed-puts fm k s (in-8 k w.0 w.1))

-- A NEW ACCESS

pub bits_fit : (l : List ℕ) → used_bits l < 256
unfolding used_bits places counted
bits_fit l = bits-bound (map (is_on l) places)

-- one place more at the end of the line
pub line-more : (a : List Access) (y : Access) (m p : ℕ) → length a < 8 → p ≡ y.place → m ≡ length a
    → set (filled (line a) 8) m p ≡ filled (line (a ++ (y ∷ []))) 8
line-more a y m p lt ep em =
    ap (λ (i : ℕ). set (filled (line a) 8) i p) (em ∙ sym (length-line a))
    ∙ filled_more (line a) 8 p (omega (arith, length-line a))
    ∙ ap (λ (i : ℕ). filled (line a ++ (i ∷ [])) 8) ep
    ∙ ap (λ (t : List ℕ). filled t 8) (sym (line-snoc a y))

-- the new access, and its bytes, which do not depend on its place
pub new-place : (a : List Access) (n : ℕ) (o : Opening) → (new_access a n o).place ≡ lowest_free a
unfolding new_access
new-place a n o = refl

pub line-new : (a : List Access) (n : ℕ) (o : Opening) → line (a ++ (new_access a n o ∷ [])) ≡ line a ++ (lowest_free a ∷ [])
unfolding new_access
line-new a n o = line-snoc a (new_access a n o)

pub opened-new : (fm : ℕ) (a : List Access) (n : ℕ) (o : Opening) → opened_bytes fm n o ≡ access_bytes fm (new_access a n o)
unfolding opened_bytes fresh new_access access_bytes first_bytes second_bytes
opened-new fm a n o = refl

pub length-opened : (fm n : ℕ) (o : Opening) → length (opened_bytes fm n o) ≡ place_length fm
unfolding opened_bytes
length-opened fm n o = length-access fm _

module _ (r : List ℕ) (h : sound r ≡ true) (lt : length (read_row r).accesses < 8) where
  pub lowest-in : (1 ≤ lowest_free (read_row r).accesses) × (lowest_free (read_row r).accesses ≤ 8)
  lowest-in =
      let w : within 1 8 (lowest_free (read_row r).accesses) ≡ true = (free-place (read_row r).accesses lt).1 in
      (within_low 1 8 _ w, within-high 1 8 _ w)

  -- the bit of that place is clear
  pub bit-out : get_or r 17 0 + 2 ^ (lowest_free (read_row r).accesses - 1) ≡ used_bits (line (read_row r).accesses ++ (lowest_free (read_row r).accesses ∷ []))
  bit-out =
      let a : List Access = (read_row r).accesses in
      let off : is_on (line a) (lowest_free a) ≡ false = is-vacant a (lowest_free a) ∙ ap not (free-place a lt).0 in
      ap (λ (b : ℕ). b + 2 ^ (lowest_free a - 1)) (bits_of r h) ∙ sym (bits-with (line a) (lowest_free a) lowest-in.0 lowest-in.1 off)

  pub bit-fits : get_or r 17 0 + 2 ^ (lowest_free (read_row r).accesses - 1) < 256
  bit-fits = rw bit-out (bits_fit _)

  pub some-clear : get_or r 17 0 < 255
  some-clear = omega (arith, bit-fits, pow_pos (lowest_free (read_row r).accesses - 1))

  pub lowest-is : lowest_clear (get_or r 17 0) ≡ lowest_free (read_row r).accesses
  lowest-is = omega (arith, lowest-clear (get_or r 17 0) some-clear, free-byte r h lt)

  pub open-law : (n : ℕ) (o : Opening) (p m : ℕ) → p ≡ lowest_free (read_row r).accesses → m ≡ length (read_row r).accesses
      → put_head (put r (place_start (form_of r) p) (opened_bytes (form_of r) n o))
      (head_with (take block_length (put r (place_start (form_of r) p) (opened_bytes (form_of r) n o))) (get_or r 17 0 + 2 ^ (p - 1)) (set (part (take block_length (put r (place_start (form_of r) p) (opened_bytes (form_of r) n o))) 20 8) m p))
      ≡ row_bytes (form_of r) (opened n o (read_row r))
  unfolding opened head_with
  open-law n o p m ep em =
      let fm : ℕ = form_of r in
      let s : Subscriber = read_row r in
      let a : List Access = s.accesses in
      let y : Access = new_access a n o in
      let b : List ℕ = opened_bytes fm n o in
      let lo : length b ≡ place_length fm = length-opened fm n o in
      let z : List ℕ = put r (place_start fm p) b in
      let e1 : take block_length z ≡ take block_length r = head-stays fm r p b (omega (arith, place_inside r p (row-size r h) (omega (arith, lowest-in.0)) (omega (arith, lowest-in.1)))) in
      let e2 : get_or r 17 0 + 2 ^ (p - 1) ≡ used_bits (line (a ++ (y ∷ []))) =
      ap (λ (i : ℕ). get_or r 17 0 + 2 ^ (i - 1)) ep ∙ bit-out ∙ ap used_bits (sym (line-new a n o)) in
      let el : part (take block_length r) 20 8 ≡ filled (line a) 8 = ap (λ (t : List ℕ). part t 20 8) (head_of r h) ∙ head-order s in
      let e3 : set (part (take block_length z) 20 8) m p ≡ filled (line (a ++ (y ∷ []))) 8 =
      ap (λ (t : List ℕ). set (part t 20 8) m p) e1 ∙ ap (λ (t : List ℕ). set t m p) el ∙ line-more a y m p lt (ep ∙ sym (new-place a n o)) em in
      let head : head_with (take block_length z) (get_or r 17 0 + 2 ^ (p - 1)) (set (part (take block_length z) 20 8) m p) ≡ head_bytes (with_accesses (a ++ (y ∷ [])) s) =
      ap (λ (t : List ℕ). head_with t (get_or r 17 0 + 2 ^ (p - 1)) (set (part (take block_length z) 20 8) m p)) (e1 ∙ head_of r h)
      ∙ ap (λ (t : ℕ). head_with (head_bytes s) t (set (part (take block_length z) 20 8) m p)) e2
      ∙ ap (λ (t : List ℕ). head_with (head_bytes s) (used_bits (line (a ++ (y ∷ [])))) t) e3
      ∙ sym (head-line s (a ++ (y ∷ []))) in
      let ez : z ≡ put_place fm (row_bytes fm s) (lowest_free a) b =
      put-place fm r p b lo ∙ ap (λ (i : ℕ). put_place fm r i b) ep ∙ ap (λ (t : List ℕ). put_place fm t (lowest_free a) b) (row_is r h) in
      ap (λ (t : List ℕ). put_head z t) head
      ∙ ap (λ (t : List ℕ). put_head t (head_bytes (with_accesses (a ++ (y ∷ [])) s))) ez
      ∙ ap (λ (t : List ℕ). put_head (put_place fm (row_bytes fm s) (lowest_free a) t) (head_bytes (with_accesses (a ++ (y ∷ [])) s))) (opened-new fm a n o)
      ∙ sym (opened-puts fm n o s lt)

-- what is written for it, block by block
pub opened_one : (f n : ℕ) (s h r p q : List ℕ) → f ≡ 1 → length p ≡ block_length → q ≡ first_bytes (fresh n (record { session = s; host = h; realm = [] }))
    → q ++ drop block_length p ≡ opened_bytes f n (record { session = s; host = h; realm = kept_in f r })
unfolding opened_bytes kept_in pick
opened_one f n s h r p q e l w =
    rw (e, w, drop_of_length-le p {i = block_length} (omega arith))
    (append-nil (first_bytes (fresh n (record { session = s; host = h; realm = [] }))) ∙ sym (access-one (fresh n (record { session = s; host = h; realm = [] }))))

pub opened-two : (f n : ℕ) (s h r p q c : List ℕ) → f ≡ 2 → length p ≡ place_length 2 → q ≡ first_bytes (fresh n (record { session = s; host = h; realm = [] }))
    → c ≡ second_bytes (fresh 0 (record { session = []; host = []; realm = r }))
    → take block_length (q ++ drop block_length p) ++ (c ++ drop block_length (drop block_length (q ++ drop block_length p))) ≡ opened_bytes f n (record { session = s; host = h; realm = kept_in f r })
unfolding opened_bytes kept_in pick fresh first_bytes second_bytes
opened-two f n s h r p q c e l w v =
    let a : Access = fresh n (record { session = s; host = h; realm = r }) in
    let lq : length q ≡ block_length = ap length w ∙ length-first a in
    let d : drop block_length (drop block_length p) ≡ [] = drop-drop block_length block_length p ∙ drop_of_length-le p {i = place_length 2} (omega arith) in
    rw (e, take_at q (drop block_length p) block_length lq, drop_at q (drop block_length p) block_length lq, d)
    (ap (λ (t : List ℕ). q ++ t) (append-nil c) ∙ (λ i. w i ++ v i) ∙ sym (access-two a))

-- the place has come back with a new access in it
pub came-back : (v : List ℕ) (fm p a n e : ℕ) (s h r b : List ℕ) → a ≡ place_start fm p → n ≡ place_length fm → a + n ≤ length v
    → b ≡ opened_bytes (length (take (a + n - a) (drop a v)) / block_length) e (record { session = s; host = h; realm = kept_in (length (take (a + n - a) (drop a v)) / block_length) r })
    → take a v ++ (b ++ drop (a + n - a) (drop a v)) ≡ put v (place_start fm p) (opened_bytes fm e (record { session = s; host = h; realm = kept_in fm r }))
came-back v fm p a n e s h r b ea en l w =
    let o : ℕ → List ℕ = λ f. opened_bytes f e (record { session = s; host = h; realm = kept_in f r }) in
    back-put v a (a + n) b (o fm) (length-opened fm e _ ∙ omega arith) (w ∙ ap o (part-form v fm a n l en)) ∙ ap (λ (x : ℕ). put v x (o fm)) ea

-- ANOTHER POLICY

pub routed-short : (p q : List ℕ) (pol : Policies) → length p ≡ block_length → q ≡ policy_with (take block_length p) pol.first → q ++ drop block_length p ≡ routed_bytes p pol
unfolding routed_bytes pick
routed-short p q pol l w =
    let t : ltb block_length (length p) ≡ false = rw l refl in
    rw (t, w, drop_of_length-le p {i = block_length} (omega arith))

pub routed-long : (p q c : List ℕ) (pol : Policies) → length p ≡ place_length 2 → length q ≡ block_length → q ≡ policy_with (take block_length p) pol.first
    → c ≡ others_with (take block_length (drop block_length (q ++ drop block_length p))) pol.second pol.third
    → take block_length (q ++ drop block_length p) ++ (c ++ drop block_length (drop block_length (q ++ drop block_length p))) ≡ routed_bytes p pol
unfolding routed_bytes pick
routed-long p q c pol l lq w v =
    let t : ltb block_length (length p) ≡ true = rw l refl in
    let d : drop block_length (drop block_length p) ≡ [] = drop-drop block_length block_length p ∙ drop_of_length-le p {i = place_length 2} (omega arith) in
    let y : drop block_length (q ++ drop block_length p) ≡ drop block_length p = drop_at q (drop block_length p) block_length lq in
    let x : take block_length (drop block_length p) ≡ drop block_length p = take_all block_length (drop block_length p) (rw length-drop (omega arith)) in
    rw (t, take_at q (drop block_length p) block_length lq, y, d)
    (ap (λ (u : List ℕ). q ++ u) (append-nil c) ∙ (λ i. w i ++ v i) ∙ ap (λ (u : List ℕ). policy_with (take block_length p) pol.first ++ others_with u pol.second pol.third) (ap (take block_length) y ∙ x))

-- the access at a place
pub record At (fm k : ℕ) (a : List Access) : Type 0 where
  pub found : Access
  pub others : List Access
  pub on : on_place k a ≡ found ∷ others
  pub bytes : place_bytes fm a k ≡ access_bytes fm found
  pub here : eqb found.place k ≡ true

at_more : (fm k : ℕ) (x : Access) (a : List Access) → eqb x.place k ≡ false → At fm k a → At fm k (x ∷ a)
unfolding keep place_bytes pick
at_more fm k x a e f = record { found = f.found; others = f.others; on = rw e f.on; bytes = rw e f.bytes; here = f.here }

pub find_at : (fm k : ℕ) (a : List Access) → is_on (line a) k ≡ true → At fm k a
unfolding keep place_bytes pick line
find_at fm k [] o = let z : true ≡ false = sym o ∙ on_none k in absurd (let y : ◌≡◌ {A = ℕ} 0 1 = cc in omega arith)
find_at fm k (x ∷ a) o =
    by-test (eqb x.place k)
    (λ e. record { found = x; others = on_place k a; on = rw e; bytes = rw e; here = e })
    (λ e. at_more fm k x a e (find_at fm k a (sym (on-cons x.place (line a) k (eqb_comm k x.place ∙ e)) ∙ o)))

held_one : (pol : List ℕ) → 1 ≤ length pol → held pol ≡ 1
unfolding held
held_one [] h = absurd (omega arith)
held_one (x ∷ pol) h = refl

pub length-policy : (b pol : List ℕ) → length b ≡ block_length → length (policy_with b pol) ≡ block_length
unfolding policy_with
length-policy b pol h =
    let l1 : length (take 4 b) ≡ 4 = length-take-le 4 b (omega arith) in
    let l2 : length (part b 6 258) ≡ 258 = length_part b 6 258 (omega arith) in
    let l3 : length (part b 392 118) ≡ 118 = length_part b 392 118 (omega arith) in
    length-sealed _ ∙ simp (length-append, l1, l2, l3, length-filled)

policy-is : (k : ℕ) (pol : Policies) (x : Access) → 1 ≤ length pol.first → eqb x.place k ≡ true → first_bytes (hold k pol x) ≡ policy_with (first_bytes x) pol.first
unfolding hold pick policy_with
policy-is k pol x h e = rw e (first-policy x pol ∙ ap (λ (i : ℕ). sealed (take 4 (first_bytes x) ++ (i ∷ length pol.first ∷ part (first_bytes x) 6 258 ++ (filled pol.first 128 ++ part (first_bytes x) 392 118)))) (held_one pol.first h))

others-are : (k : ℕ) (pol : Policies) (x : Access) → eqb x.place k ≡ true → second_bytes (hold k pol x) ≡ others_with (second_bytes x) pol.second pol.third
unfolding hold pick others_with
others-are k pol x e = rw e (second-policies x pol)

-- the place of the access with these policies
routed-one : (k : ℕ) (pol : Policies) (x : Access) → 1 ≤ length pol.first → eqb x.place k ≡ true → access_bytes 1 (hold k pol x) ≡ routed_bytes (access_bytes 1 x) pol
unfolding routed_bytes pick is_form within
routed-one k pol x h e =
    let p : access_bytes 1 x ≡ first_bytes x = access-one x in
    let l : ltb block_length (length (access_bytes 1 x)) ≡ false = rw (length-access 1 x) refl in
    rw (l, first-of 1 x refl) (access-one (hold k pol x) ∙ policy-is k pol x h e ∙ sym (append-nil (policy_with (first_bytes x) pol.first)))

routed-two : (k : ℕ) (pol : Policies) (x : Access) → 1 ≤ length pol.first → eqb x.place k ≡ true → access_bytes 2 (hold k pol x) ≡ routed_bytes (access_bytes 2 x) pol
unfolding routed_bytes pick is_form within
routed-two k pol x h e =
    let l : ltb block_length (length (access_bytes 2 x)) ≡ true = rw (length-access 2 x) refl in
    let c : second_block (access_bytes 2 x) ≡ second_bytes x = second-of 2 x refl ∙ take_all block_length (second_bytes x) (omega (arith, length-second x)) in
    rw (l, first-of 2 x refl, c) (access-two (hold k pol x) ∙ (λ i. policy-is k pol x h e i ++ others-are k pol x e i))

routed-is : (fm k : ℕ) (pol : Policies) (x : Access) → is_form fm ≡ true → 1 ≤ length pol.first → eqb x.place k ≡ true → access_bytes fm (hold k pol x) ≡ routed_bytes (access_bytes fm x) pol
routed-is fm k pol x f h e =
    by_form (λ g. access_bytes g (hold k pol x) ≡ routed_bytes (access_bytes g x) pol) fm f (routed-one k pol x h e) (routed-two k pol x h e)

pub route-law : (r : List ℕ) (k : ℕ) (pol : Policies) → sound r ≡ true → is_on (order_line r) k ≡ true → 1 ≤ length pol.first
    → put r (place_start (form_of r) k) (routed_bytes (place r k) pol) ≡ row_bytes (form_of r) (routed k pol (read_row r))
route-law r k pol h o lp =
    let fm : ℕ = form_of r in
    let s : Subscriber = read_row r in
    let a : List Access = s.accesses in
    let w : (1 ≤ k) × (k ≤ 8) = place_in r h k o in
    let f : At fm k a = find_at fm k a (ap (λ (l : List ℕ). is_on l k) (order_is r) ∙ o) in
    let x : Access = f.found in
    let b : place r k ≡ access_bytes fm x = ap (λ (t : List ℕ). place t k) (row_is r h) ∙ place_is fm s k (in-8 k w.0 w.1) ∙ f.bytes in
    let p : List ℕ = routed_bytes (place r k) pol in
    let ep : p ≡ access_bytes fm (hold k pol x) = ap (λ (t : List ℕ). routed_bytes t pol) b ∙ sym (routed-is fm k pol x (row_sized r h).form lp f.here) in
    let lb : length p ≡ place_length fm = ap length ep ∙ length-access fm (hold k pol x) in
    let z : List ℕ = put r (place_start fm k) p in
    let ez : z ≡ put_place fm (row_bytes fm s) k (access_bytes fm (hold k pol x)) =
    put-place fm r k p lb ∙ ap (λ (t : List ℕ). put_place fm t k p) (row_is r h) ∙ ap (λ (t : List ℕ). put_place fm (row_bytes fm s) k t) ep in
    let eh : take block_length z ≡ head_bytes s = head-stays fm r k p (omega (arith, place_inside r k (row-size r h) w.0 w.1)) ∙ head_of r h in
    sym (take-append-drop block_length z)
    ∙ ap (λ (t : List ℕ). t ++ drop block_length z) eh
    ∙ ap (λ (t : List ℕ). put_head t (head_bytes s)) ez
    ∙ sym (routed-puts fm k pol s x f.others (in-8 k w.0 w.1) f.on)

-- ONE ENTRY MORE

module _ (p q x c z : ℕ) (n l g m e t : List ℕ) (hn : length n ≡ 15) (hl : length l ≡ 8) (hg : length g ≡ 4) (hm : length m ≡ 416) (he : length e ≡ 62) where
  abbrev whole : List ℕ
  whole = p ∷ q ∷ n ++ (x ∷ c ∷ z ∷ l ++ (g ++ (m ++ (e ++ t))))

  front18 : take 18 whole ≡ p ∷ q ∷ n ++ (x ∷ [])
  front18 = ap (λ (u : List ℕ). p ∷ q ∷ u) (take_past 15 1 n (x ∷ c ∷ z ∷ l ++ (g ++ (m ++ (e ++ t)))) hn)

  at19 : part whole 19 13 ≡ z ∷ l ++ g
  at19 =
      ap (take 13) (drop_past 15 2 n (x ∷ c ∷ z ∷ l ++ (g ++ (m ++ (e ++ t)))) hn)
      ∙ ap (λ (u : List ℕ). z ∷ u) (take_past 8 4 l (g ++ (m ++ (e ++ t))) hl ∙ ap (λ (u : List ℕ). l ++ u) (take_at g (m ++ (e ++ t)) 4 hg))

  at32 : part whole 32 416 ≡ m
  at32 =
      ap (take 416) (drop_past 15 15 n (x ∷ c ∷ z ∷ l ++ (g ++ (m ++ (e ++ t)))) hn ∙ drop_past 8 4 l (g ++ (m ++ (e ++ t))) hl ∙ drop_past 4 0 g (m ++ (e ++ t)) hg)
      ∙ take_at m (e ++ t) 416 hm

  at448 : part whole 448 62 ≡ e
  at448 =
      ap (take 62) (drop_past 15 431 n (x ∷ c ∷ z ∷ l ++ (g ++ (m ++ (e ++ t)))) hn ∙ drop_past 8 420 l (g ++ (m ++ (e ++ t))) hl ∙ drop_past 4 416 g (m ++ (e ++ t)) hg ∙ drop_past 416 0 m (e ++ t) hm)
      ∙ take_at e t 62 he

regroup : (p q x c z : ℕ) (n l g r : List ℕ) → (p ∷ q ∷ n ++ (x ∷ [])) ++ (c ∷ (z ∷ l ++ g) ++ r) ≡ p ∷ q ∷ n ++ (x ∷ c ∷ z ∷ l ++ (g ++ r))
regroup p q x c z n l g r =
    ap (λ (u : List ℕ). p ∷ q ∷ u) (append_assoc n (x ∷ []) (c ∷ z ∷ ((l ++ g) ++ r)) ∙ ap (λ (u : List ℕ). n ++ (x ∷ c ∷ z ∷ u)) (append_assoc l g r))

abbrev head_sums : Subscriber → List ℕ
head_sums s =
    sums_from 0 0 (1 ∷ length s.name ∷ filled s.name 15
    ++ (used_bits (line s.accesses) ∷ length s.entries ∷ s.operator ∷ filled (line s.accesses) 8
    ++ (zeros 4 ++ (filled (entries_bytes s.entries) 416 ++ zeros 62))))

head-is : (s : Subscriber) → head_bytes s ≡ 1 ∷ length s.name ∷ filled s.name 15
    ++ (used_bits (line s.accesses) ∷ length s.entries ∷ s.operator ∷ filled (line s.accesses) 8
    ++ (zeros 4 ++ (filled (entries_bytes s.entries) 416 ++ (zeros 62 ++ head_sums s))))
unfolding head_bytes sealed
head-is s = simp append_assoc

entry-end : (s : Subscriber) (e : Entry) {c : ℕ} {m : List ℕ} → c ≡ length (s.entries ++ (e ∷ [])) → m ≡ filled (entries_bytes (s.entries ++ (e ∷ []))) 416
    → sealed (1 ∷ length s.name ∷ filled s.name 15 ++ (used_bits (line s.accesses) ∷ c ∷ s.operator ∷ filled (line s.accesses) 8 ++ (zeros 4 ++ (m ++ zeros 62))))
    ≡ head_bytes (with_entry e s)
unfolding head_bytes with_entry
entry-end s e p q =
    λ i. sealed (1 ∷ length s.name ∷ filled s.name 15 ++ (used_bits (line s.accesses) ∷ p i ∷ s.operator ∷ filled (line s.accesses) 8 ++ (zeros 4 ++ (q i ++ zeros 62))))

row-entry : (fm : ℕ) (s : Subscriber) (e : Entry) → head_bytes (with_entry e s) ++ places_bytes fm s.accesses places ≡ row_bytes fm (with_entry e s)
unfolding row_bytes with_entry
row-entry fm s e = refl

module _ (s : Subscriber) (e : Entry) (lt : length s.entries < 4) where
  room-put : filled (entries_bytes (s.entries ++ (e ∷ []))) 416 ≡ put (filled (entries_bytes s.entries) 416) (104 * length s.entries) (entry_bytes e)
  unfolding put
  room-put = rw (length-entry e) (room-entry s.entries e lt)

  head-entry : entries_with (head_bytes s) (length s.entries) e ≡ head_bytes (with_entry e s)
  unfolding entries_with with_entry
  head-entry =
      let n : List ℕ = filled s.name 15 in
      let l : List ℕ = filled (line s.accesses) 8 in
      let m : List ℕ = filled (entries_bytes s.entries) 416 in
      let x : ℕ = used_bits (line s.accesses) in
      let c : ℕ = length s.entries in
      let t : List ℕ = head_sums s in
      let hn : length n ≡ 15 = length-filled _ 15 in
      let hl : length l ≡ 8 = length-filled _ 8 in
      let hm : length m ≡ 416 = length-filled _ 416 in
      let g : List ℕ = zeros 4 in
      let hg : length g ≡ 4 = length-zeros 4 in
      let z : List ℕ = zeros 62 in
      let hz : length z ≡ 62 = length-zeros 62 in
      let e1 : take 18 (head_bytes s) ≡ 1 ∷ length s.name ∷ n ++ (x ∷ []) = ap (take 18) (head-is s) ∙ front18 1 (length s.name) x c s.operator n l g m z t hn hl hg hm hz in
      let e2 : part (head_bytes s) 19 13 ≡ s.operator ∷ l ++ g = ap (λ (u : List ℕ). part u 19 13) (head-is s) ∙ at19 1 (length s.name) x c s.operator n l g m z t hn hl hg hm hz in
      let e3 : part (head_bytes s) 32 416 ≡ m = ap (λ (u : List ℕ). part u 32 416) (head-is s) ∙ at32 1 (length s.name) x c s.operator n l g m z t hn hl hg hm hz in
      let e4 : part (head_bytes s) 448 62 ≡ z = ap (λ (u : List ℕ). part u 448 62) (head-is s) ∙ at448 1 (length s.name) x c s.operator n l g m z t hn hl hg hm hz in
      let count : c + 1 ≡ length (s.entries ++ (e ∷ [])) = sym (length-append s.entries (e ∷ [])) in
      (λ i. sealed (e1 i ++ ((c + 1) ∷ e2 i ++ (put (e3 i) (104 * c) (entry_bytes e) ++ e4 i))))
      ∙ ap sealed (regroup 1 (length s.name) x (c + 1) s.operator n l g (put m (104 * c) (entry_bytes e) ++ z))
      ∙ entry-end s e count (sym room-put)

pub entry-law : (r : List ℕ) (e : Entry) → sound r ≡ true → length (read_row r).entries < 4
    → entries_with (take block_length r) (get_or r 18 0) e ++ drop block_length r ≡ row_bytes (form_of r) (with_entry e (read_row r))
entry-law r e h lt =
    let s : Subscriber = read_row r in
    ap (λ (t : List ℕ). entries_with t (get_or r 18 0) e ++ drop block_length r) (head_of r h)
    ∙ ap (λ (i : ℕ). entries_with (head_bytes s) i e ++ drop block_length r) (count_of r h)
    ∙ ap (λ (t : List ℕ). entries_with (head_bytes s) (length s.entries) e ++ drop block_length t) (row_is r h)
    ∙ ap (λ (t : List ℕ). entries_with (head_bytes s) (length s.entries) e ++ t) (row-rest (form_of r) s)
    ∙ ap (λ (t : List ℕ). t ++ places_bytes (form_of r) s.accesses places) (head-entry s e lt)
    ∙ row-entry (form_of r) s e

-- A NEW ROW

no-zeros : [] ≡ zeros 0
unfolding zeros
no-zeros = refl

places-none : (fm b n : ℕ) → places_bytes fm [] (counted b n) ≡ zeros (place_length fm * n)
unfolding places_bytes place_bytes counted
places-none fm b zero = let q : block_length * fm * 0 ≡ 0 = omega arith in rw q no-zeros
places-none fm b (suc n) = let q : block_length * fm * suc n ≡ block_length * fm + block_length * fm * n = omega arith in rw (q, places-none fm (suc b) n) (sym (zeros-split (block_length * fm) (block_length * fm * n)))

places-zero : (fm : ℕ) → zeros (place_length fm * 8) ≡ places_bytes fm [] places
unfolding places
places-zero fm = sym (places-none fm 1 8)

none-used : used_bits (line []) ≡ 0
unfolding used_bits line from_bits places counted is_on every pick
none-used = refl

-- what stands behind the name of a new row, in block 0
abbrev new_rest : ℕ → List ℕ
new_rest op = zeros 2 ++ (op ∷ zeros 490)

new-rest : (op : ℕ) → new_rest op ≡ used_bits (line []) ∷ 0 ∷ op ∷ filled (line []) 8 ++ (zeros 4 ++ (filled (entries_bytes []) 416 ++ zeros 62))
unfolding line entries_bytes
new-rest op =
    (λ i. zeros-two i ++ (op ∷ zeros-split 8 482 i))
    ∙ (λ i. 0 ∷ 0 ∷ op ∷ sym (filled_none 8) i ++ zeros-split 4 478 i)
    ∙ (λ i. 0 ∷ 0 ∷ op ∷ filled [] 8 ++ (zeros 4 ++ zeros-split 416 62 i))
    ∙ (λ i. sym none-used i ∷ 0 ∷ op ∷ filled [] 8 ++ (zeros 4 ++ (sym (filled_none 416) i ++ zeros 62)))

length_rest : (op : ℕ) → length (new_rest op) ≡ 493
length_rest op = simp (length-append, length-zeros)

zeros-cut : (n a b : ℕ) → n ≡ a + b → zeros n ≡ zeros a ++ zeros b
zeros-cut n a b e = ap zeros e ∙ zeros-split a b

new-zeros : (op n : ℕ) → put (zeros (block_length + n)) 19 (op ∷ []) ≡ zeros 2 ++ (zeros 15 ++ (new_rest op ++ (zeros 2 ++ zeros n)))
new-zeros op n =
    ap (λ (t : List ℕ). put t 19 (op ∷ [])) (zeros-cut (block_length + n) 19 (493 + n) (omega arith) ∙ ap (λ (t : List ℕ). zeros 19 ++ t) (zeros-cut (493 + n) 1 (492 + n) (omega arith)))
    ∙ put-over (zeros 19) (zeros 1) (op ∷ []) (zeros (492 + n)) 19 (length-zeros 19) (length-zeros 1)
    ∙ (λ i. (zeros-split 2 17 ∙ ap (λ (t : List ℕ). zeros 2 ++ t) (zeros-split 15 2)) i ++ ((op ∷ []) ++ (zeros-cut (492 + n) 490 (2 + n) (omega arith) ∙ ap (λ (t : List ℕ). zeros 490 ++ t) (zeros-split 2 n)) i))
    ∙ simp append_assoc

pub new-law : (fm op : ℕ) (name z : List ℕ) → length name ≤ 15 → z ≡ put (put (put (zeros (row_length fm)) 19 (op ∷ [])) 0 (1 ∷ length name ∷ [])) 2 name
    → sealed (take 510 (take block_length z)) ++ drop block_length z ≡ row_bytes fm (named (record { operator = op; name = name }))
unfolding named row_bytes head_bytes row_length
new-law fm op name z l e =
    let n : ℕ = place_length fm * 8 in
    let size : block_length + 8 * (block_length * fm) ≡ block_length + n = omega arith in
    let rest : List ℕ = new_rest op in
    let hr : length rest ≡ 493 = length_rest op in
    let a : List ℕ = 1 ∷ length name ∷ [] in
    let f : List ℕ = filled name 15 in
    let hf : length f ≡ 15 = length-filled name 15 in
    let w : List ℕ = a ++ (f ++ (rest ++ (zeros 2 ++ zeros n))) in
    let ez : z ≡ w =
    e
    ∙ ap (λ (t : List ℕ). put (put t 0 a) 2 name) (ap (λ (i : ℕ). put (zeros i) 19 (op ∷ [])) size ∙ new-zeros op n)
    ∙ ap (λ (t : List ℕ). put t 2 name) (put-over [] (zeros 2) a (zeros 15 ++ (rest ++ (zeros 2 ++ zeros n))) 0 refl (length-zeros 2))
    ∙ put-room a name (rest ++ (zeros 2 ++ zeros n)) 2 15 refl l in
    let et : take 510 (take block_length w) ≡ a ++ (f ++ rest) =
    take-take 510 block_length w (omega arith)
    ∙ take_past 2 508 a (f ++ (rest ++ (zeros 2 ++ zeros n))) refl
    ∙ ap (λ (t : List ℕ). a ++ t) (take_past 15 493 f (rest ++ (zeros 2 ++ zeros n)) hf
    ∙ ap (λ (t : List ℕ). f ++ t) (take_at (rest) (zeros 2 ++ zeros n) 493 hr)) in
    let ed : drop block_length w ≡ places_bytes fm [] places =
    drop_past 2 510 a (f ++ (rest ++ (zeros 2 ++ zeros n))) refl
    ∙ drop_past 15 495 f (rest ++ (zeros 2 ++ zeros n)) hf
    ∙ drop_past 493 2 (rest) (zeros 2 ++ zeros n) hr
    ∙ drop_past 2 0 (zeros 2) (zeros n) (length-zeros 2)
    ∙ places-zero fm in
    ap (λ (t : List ℕ). sealed (take 510 (take block_length t)) ++ drop block_length t) ez
    ∙ (λ i. sealed (et i) ++ ed i)
    ∙ ap (λ (t : List ℕ). sealed (a ++ (f ++ t)) ++ places_bytes fm [] places) (new-rest op)

-- A ROW OF A TABLE

-- the table when the row has come back, the bytes of a subscriber; w is the length of a row, as the code has it
pub back-row : (fm w : ℕ) (t : List ℕ) (i : ℕ) (b : List ℕ) (f : List ℕ → Subscriber) → w ≡ row_length fm
    → b ≡ row_bytes fm (f (take (w * i + w - w * i) (drop (w * i) t)))
    → lent fm (take (w * i) t ++ (b ++ drop (w * i + w - w * i) (drop (w * i) t))) ≡ with_row (lent fm t) i (row_bytes fm (f (row_at (lent fm t) i)))
unfolding with_row
back-row fm w t i b f v e =
    let s : Subscriber = f (row_at (lent fm t) i) in
    ap (lent fm) (back-put t (w * i) (w * i + w) b (row_bytes fm s) (length-row fm s ∙ omega arith) (e ∙ ap (λ (r : List ℕ). row_bytes fm (f r)) (lent_row (lent fm t) w (w * i) i v (ap (λ (x : ℕ). x * i) v)))
    ∙ ap (λ (x : ℕ). put t (x * i) (row_bytes fm s)) v)

-- the row that is lent has the table's form
pub lent-form : (fm w : ℕ) (t : List ℕ) (i : ℕ) → w ≡ row_length fm → row_length fm * i + row_length fm ≤ length t → form_of (take (w * i + w - w * i) (drop (w * i) t)) ≡ fm
lent-form fm w t i v h = form-of fm _ (lent_length t (w * i) w (omega (arith, ap (λ (x : ℕ). x * i) v)) ∙ v)
