-- What stands in the notice room after a cut: the access at a place on the line, and its texts as they stand in the row.
use mathlib.Core.Path.{◌≡◌, refl, sym, ap, ◌∙◌}
use mathlib.Core.Bool.{Bool, true, false, not}
use mathlib.Core.List.{List, [], ◌∷◌, ◌++◌, map, append_assoc, append-nil}
use Prim.Native.Nat.{ℕ, ◌+◌, ◌-◌, ◌*◌, ◌≤◌}
use native.Mathlib.Omega.{arith}
use borrow.Author.Tests.{eq-eqb, eqb-true, ne_eqb, not-true}
use lib.Dec.{eqb}
use lib.ListN.{length, take, drop, length-append, take-append-drop}
use lib.Seq.{drop-drop, take_all, take_at}
use Rattle.octets.specs.Choice.{pick, within}
use Rattle.octets.specs.Lists.{distinct, every, is_on, keep}
use Rattle.octets.specs.Texts.{filled, part, put, zeros}
use Rattle.message.specs.TheRooms.{short_notice, long_notice, notice_length}
use Rattle.message.specs.Codes.{number_of}
use Rattle.table.specs.Answers.{lent}
use Rattle.table.specs.Soundness.{sound}
use Rattle.table.specs.TheTable.{block_length, Access, Table, access_at, access_bytes, first_block, first_bytes, form_of, held, order_line, place, place_length, read_access, read_row, row_at, row_bytes, sealed, second_block, second_bytes, sums_from, width, with_row}
use Rattle.changes.proofs.Steps.{keep-map}
use Rattle.rules.specs.Calls.{notice_bytes, notice_room, table_after}
use Rattle.rules.specs.Deciding.{at_place, grant}
use Rattle.octets.proofs.Lists.{and_left, and_right, by-test, eqb_comm, every-imp, on-cons, on_none, within-high, within_low}
use Rattle.octets.proofs.Texts.{length-filled, length_part, put_then}
use Rattle.row.proofs.Entries.{realm-said, row_of}
use Rattle.row.proofs.Places.{none_lent, row-sizes}
use Rattle.table.proofs.Bytes.{first-of, length-second, place_is, second-of}
use Rattle.table.proofs.Form.{every-on, length-second-of, place_read}
use Rattle.table.proofs.Rows.{row-form}
use Rattle.table.proofs.Sound.{clauses, row_is}

-- a row has the form of its table
pub form-there : (t : Table) (i : ℕ) → width t * i + width t ≤ length t.bytes → form_of (row_at t i) ≡ t.form
unfolding row_at
form-there t i h = row-form (part t.bytes (width t * i) (width t)) t.form (length_part t.bytes (width t * i) (width t) h)

-- A ROW THAT IS WRITTEN AS IT READS

put_back : (s : List ℕ) (a n : ℕ) → a + n ≤ length s → put s a (part s a n) ≡ s
unfolding put
put_back s a n h = rw (length_part s a n h, ← drop-drop n a s, take-append-drop n (drop a s)) (take-append-drop a s)

pub row_stays : (t : Table) (i : ℕ) → width t * i + width t ≤ length t.bytes → sound (row_at t i) ≡ true → table_after t i (grant (read_row (row_at t i))) ≡ t
unfolding table_after grant with_row row_at number_of pick
row_stays t i h s =
    let r : List ℕ = row_at t i in
    let reads : row_bytes t.form (read_row r) ≡ r = ap (λ (f : ℕ). row_bytes f (read_row r)) (sym (form-there t i h)) ∙ sym (row_is r s) in
    ap (λ (b : List ℕ). with_row t i b) reads ∙ ap (λ (b : List ℕ). lent t.form b) (put_back t.bytes (width t * i) (width t) h)

-- THE ACCESS AT A PLACE

keep-none-of : {A : Type 0} (f : A → Bool) (xs : List A) → every (λ x. not (f x)) xs ≡ true → keep f xs ≡ []
unfolding keep every pick
keep-none-of f [] h = refl
keep-none-of f (x ∷ xs) h =
    by-test (f x)
    (λ e. let z : not (f x) ≡ true = and_left (not (f x)) (every (λ y. not (f y)) xs) h in let y : true ≡ false = sym e ∙ not-true (f x) z in cc)
    (λ e. rw (e, keep-none-of f xs (and_right (not (f x)) _ h)))

-- of places that differ, those that are k are k alone
only : (l : List ℕ) (k : ℕ) → distinct eqb l ≡ true → is_on l k ≡ true → keep (λ j. eqb j k) l ≡ k ∷ []
unfolding keep distinct pick
only [] k d o = let z : true ≡ false = sym o ∙ on_none k in cc
only (x ∷ l) k d o =
    by-test (eqb x k)
    (λ e. let q : x ≡ k = eqb-true x k e in
    let none : keep (λ j. eqb j k) l ≡ [] = keep-none-of (λ j. eqb j k) l (every-imp (λ y. not (eqb x y)) (λ y. not (eqb y k)) (λ y t. ap not (eqb_comm y k ∙ ap (λ (n : ℕ). eqb n y) (sym q)) ∙ t) l (and_left _ (distinct eqb l) d)) in
    rw (e, none, q))
    (λ e. rw e (only l k (and_right (every (λ y. not (eqb x y)) l) _ d) (sym (on-cons x l k (eqb_comm k x ∙ e)) ∙ o)))

-- the two texts of an access that stand side by side in its first block, and the one in its second
both-texts : (a : Access) → part (first_bytes a) 8 256 ≡ filled a.session 128 ++ filled a.host 128
unfolding first_bytes sealed
both-texts a =
    let s : List ℕ = filled a.session 128 in
    let h : List ℕ = filled a.host 128 in
    let p : List ℕ = filled a.policies.first 128 ++ zeros 118 in
    let t : List ℕ =
    sums_from 0 0 (2 ∷ a.entry ∷ length a.session ∷ length a.host ∷ held a.policies.first ∷ length a.policies.first ∷ 0 ∷ 0 ∷ s ++ (h ++ p)) in
    let e : (s ++ (h ++ p)) ++ t ≡ (s ++ h) ++ (p ++ t) = simp append_assoc in
    ap (take 256) e ∙ take_at (s ++ h) (p ++ t) 256 (length-append s h ∙ omega (arith, length-filled a.session 128, length-filled a.host 128))

realm-text : (a : Access) → part (second_bytes a) 8 128 ≡ filled a.realm 128
unfolding second_bytes sealed
realm-text a =
    let r : List ℕ = filled a.realm 128 in
    let p : List ℕ = filled a.policies.second 128 ++ (filled a.policies.third 128 ++ zeros 118) in
    let t : List ℕ = sums_from 0 0 (3 ∷ length a.realm ∷ 0 ∷ length a.policies.second ∷ length a.policies.third ∷ 0 ∷ 0 ∷ 0 ∷ r ++ p) in
    let e : (r ++ p) ++ t ≡ r ++ (p ++ t) = append_assoc r p t in
    ap (take 128) e ∙ take_at r (p ++ t) 128 (length-filled a.realm 128)

module _ (r : List ℕ) (h : sound r ≡ true) (k : ℕ) (o : is_on (order_line r) k ≡ true) where
  placed : within 1 8 k ≡ true
  placed = every-on (within 1 8) (order_line r) k (clauses r h).line-in o

  pub at_least : 1 ≤ k
  at_least = within_low 1 8 k placed

  pub at_most : k ≤ 8
  at_most = within-high 1 8 k placed

  pub at-place-is : at_place k (read_row r).accesses ≡ access_at r k ∷ []
  unfolding at_place read_row access_at read_access
  at-place-is =
      keep-map (access_at r) (λ (x : Access). eqb x.place k) (order_line r)
      ∙ ap (map (access_at r)) (only (order_line r) k (clauses r h).line-once o)

  bytes-are : place r k ≡ access_bytes (form_of r) (access_at r k)
  unfolding read_row pick
  bytes-are =
      ap (λ (x : List ℕ). place x k) (row_is r h) ∙ place_is (form_of r) (read_row r) k placed
      ∙ place_read (form_of r) r (order_line r) k
      ∙ ap (λ (b : Bool). pick b (access_bytes (form_of r) (access_at r k)) (zeros (place_length (form_of r)))) o

  -- its two texts, side by side
  pub texts-are : part (first_block (place r k)) 8 256 ≡ filled (access_at r k).session 128 ++ filled (access_at r k).host 128
  texts-are =
      ap (λ (p : List ℕ). part (first_block p) 8 256) bytes-are
      ∙ ap (λ (b : List ℕ). part b 8 256) (first-of (form_of r) (access_at r k) (clauses r h).row.form)
      ∙ both-texts (access_at r k)

  -- its realm, which form 1 does not keep
  pub realm-none : (form_of r ≡ 2 → ⊥) → length (access_at r k).realm ≡ 0
  realm-none f =
      let one : form_of r ≡ 1 = omega (arith, row-sizes r (row_of r h), f) in
      let none : length (second_block (place r k)) ≡ 0 = omega (arith, length-second-of r k (clauses r h).row at_least at_most, one) in
      ap length (sym (none_lent (second_block (place r k)) 8 1 none ∙ realm-said r k)) ∙ none

  pub realm-is : form_of r ≡ 2 → part (second_block (place r k)) 8 128 ≡ filled (access_at r k).realm 128
  realm-is f =
      let x : Access = access_at r k in
      let whole : block_length * (form_of r - 1) ≡ block_length = omega (arith, f) in
      let block : second_block (place r k) ≡ second_bytes x =
      ap second_block bytes-are ∙ second-of (form_of r) x (clauses r h).row.form ∙ ap (λ (n : ℕ). take n (second_bytes x)) whole ∙ take_all block_length (second_bytes x) (omega (arith, length-second x)) in
      ap (λ (b : List ℕ). part b 8 128) block ∙ realm-text x

-- THE NOTICE

pub notice-least : (f : ℕ) → short_notice ≤ notice_length f
unfolding notice_length pick
notice-least f = by-test (eqb f 2) (λ e. rw e (omega arith)) (λ e. rw e (omega arith))

pub notice-long : (f : ℕ) → f ≡ 2 → notice_length f ≡ long_notice
unfolding notice_length pick
notice-long f e = rw (eq-eqb f 2 e)

length-notice : (f : ℕ) (a : Access) → length (notice_bytes f a) ≡ notice_length f
unfolding notice_bytes notice_length pick
length-notice f a = by-test (eqb f 2) (λ e. rw e (simp (length-append, length-filled))) (λ e. rw e (simp (length-append, length-filled)))

all-put : (f : ℕ) (a : Access) (room : List ℕ) → put room 0 (notice_bytes f a) ≡ notice_room f (a ∷ []) room
unfolding put notice_room
all-put f a room =
    let size : 0 + length (notice_bytes f a) ≡ notice_length f = omega (arith, length-notice f a) in
    ap (λ (n : ℕ). notice_bytes f a ++ drop n room) size

module _ (f : ℕ) (a : Access) (room : List ℕ) where
  both : List ℕ
  both = filled a.session 128 ++ filled a.host 128

  length_both : length both ≡ short_notice
  unfolding both
  length_both = simp (length-append, length-filled)

  bytes_one : eqb f 2 ≡ false → both ≡ notice_bytes f a
  unfolding both notice_bytes pick
  bytes_one e = rw (e, append-nil (filled a.host 128))

  bytes-two : eqb f 2 ≡ true → both ++ filled a.realm 128 ≡ notice_bytes f a
  unfolding both notice_bytes pick
  bytes-two e = rw e (append_assoc (filled a.session 128) (filled a.host 128) (filled a.realm 128))

  pub notice-one : (f ≡ 2 → ⊥) → put room 0 (filled a.session 128 ++ filled a.host 128) ≡ notice_room f (a ∷ []) room
  unfolding both
  notice-one e = ap (put room 0) (bytes_one (ne_eqb f 2 e)) ∙ all-put f a room

  pub notice-two : f ≡ 2 → short_notice ≤ length room
      → put (put room 0 (filled a.session 128 ++ filled a.host 128)) 256 (filled a.realm 128) ≡ notice_room f (a ∷ []) room
  unfolding both
  notice-two e h =
      put_then room 0 both (filled a.realm 128) 256 (omega (arith, length_both)) (omega (arith, length_both)) ∙ ap (put room 0) (bytes-two (eq-eqb f 2 e)) ∙ all-put f a room
