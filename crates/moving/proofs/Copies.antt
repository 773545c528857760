-- A row is moved by copying: block 0 and the first block of each place stand in both forms.
use mathlib.Core.Path.{◌≡◌, refl, sym, ap, ◌∙◌}
use mathlib.Core.Bool.{Bool, true, false, ◌&&◌, ◌||◌}
use mathlib.Core.List.{List, [], ◌∷◌, ◌++◌, map}
use Prim.Native.Nat.{ℕ, ◌+◌, ◌-◌, ◌*◌, ◌≤◌}
use native.Mathlib.Nat.{mul-zero}
use native.Mathlib.Omega.{arith}
use borrow.Author.Tests.{eq-eqb, eqb-true}
use lib.Dec.{eqb}
use lib.ListN.{length, get_or, take, replicate-append-replicate}
use lib.Seq.{take_at}
use Rattle.octets.specs.Choice.{pick, within}
use Rattle.octets.specs.Lists.{distinct, every, up_to0}
use Rattle.octets.specs.Texts.{all_zero, filled, part, zeros}
use Rattle.octets.proofs.Lists.{and_left, and_right, by-test, same-eq, same_refl, within-high, within_low}
use Rattle.octets.proofs.Pieces.{drop-zeros, one_more, take-zeros}
use Rattle.octets.proofs.Texts.{length-zeros}
use Rattle.table.specs.Soundness.{is_row, line_exact, sound}
use Rattle.table.specs.TheTable.{block_length, Access, Subscriber, access_bytes, first_block, first_bytes, form_of, head, head_bytes, is_form, order_line, place, place_bytes, place_length, place_start, places, places_bytes, read_row, row_bytes, row_length, sealed}
use Rattle.table.proofs.Bytes.{first-of, length-head, length-row, place_is, read-row}
use Rattle.table.proofs.Form.{is-sized, place-ends}
use Rattle.table.proofs.Good.{Good, good_access, places-eight}
use Rattle.table.proofs.Rows.{not-zero, row-form, width-least}
use Rattle.table.proofs.Tests.{clash}
use Rattle.table.proofs.Sound.{Clauses, clauses, head_of, row_is, says-good, sound-row}
use Rattle.row.proofs.Entries.{least-of}
use Rattle.row.proofs.Places.{first-is, head_byte}
use Rattle.soundness.proofs.Line.{used-none}
use Rattle.moving.specs.Moving.{fits_form1, joined_rows, movable, moved_row, plain_access}
use Rattle.moving.specs.Copying.{behind_first, copied_place, copied_places, copied_row, plain_second}
use Rattle.moving.proofs.Built.{wide}
use Rattle.moving.proofs.Plain.{Bare, bare, good-to, plain-one, second-bare}

-- ZEROS

more-zeros : (m n : ℕ) → zeros m ++ zeros n ≡ zeros (m + n)
unfolding zeros
more-zeros m n = replicate-append-replicate m n 0

part-zeros : (n a w : ℕ) → a + w ≤ n → part (zeros n) a w ≡ zeros w
part-zeros n a w h = rw (drop-zeros a n) (take-zeros w (n - a) (omega arith))

all-zeros : (n : ℕ) → all_zero (zeros n) ≡ true
unfolding all_zero
all-zeros n = rw length-zeros (same_refl (zeros n))

is-zeros : (r : List ℕ) (n : ℕ) → length r ≡ n → all_zero r ≡ true → r ≡ zeros n
unfolding all_zero
is-zeros r n h z = same-eq r (zeros (length r)) z ∙ ap zeros h

-- A PLACE

behind-free : behind_first (zeros block_length) ≡ zeros block_length
unfolding behind_first zeros pick
behind-free = refl

free-copied : (w : ℕ) → copied_place w (zeros block_length) ≡ zeros w
unfolding copied_place filled
free-copied w = rw (behind-free, more-zeros block_length block_length, more-zeros (place_length 2) w) (take-zeros w (place_length 2 + w) (omega arith))

behind-used : (a : Access) → behind_first (first_bytes a) ≡ plain_second
unfolding behind_first first_bytes sealed pick
behind-used a = refl

access-copied : (to : ℕ) (a : Access) → Bare a → access_bytes to a ≡ copied_place (place_length to) (first_bytes a)
unfolding access_bytes copied_place
access-copied to a b = ap (λ (t : List ℕ). filled (first_bytes a ++ t) (place_length to)) (second-bare a b ∙ sym (behind-used a))

module _ (fm to n : ℕ) (f : is_form fm ≡ true) where
  first-free : first_block (zeros (place_length fm)) ≡ zeros block_length
  unfolding is_form
  first-free = take-zeros block_length (block_length * fm) (omega (arith, within_low 1 2 fm f))

  place-copied : (a : List Access) (k : ℕ) → every (good_access fm n) a ≡ true → every plain_access a ≡ true
      → place_bytes to a k ≡ copied_place (place_length to) (first_block (place_bytes fm a k))
  unfolding place_bytes every pick
  place-copied [] k g p = sym (ap (copied_place (place_length to)) first-free ∙ free-copied (place_length to))
  place-copied (x ∷ a) k g p =
      let here : access_bytes to x ≡ copied_place (place_length to) (first_block (access_bytes fm x)) =
      access-copied to x (bare fm n x (and_left (good_access fm n x) _ g) (and_left (plain_access x) _ p)) ∙ ap (copied_place (place_length to)) (sym (first-of fm x f)) in
      by-test (eqb x.place k)
      (λ e. rw e here)
      (λ e. rw e (place-copied a k (and_right (good_access fm n x) _ g) (and_right (plain_access x) _ p)))

-- A ROW

row-parts : (to : ℕ) (s : Subscriber) → row_bytes to s ≡ head_bytes s ++ places_bytes to s.accesses places
unfolding row_bytes
row-parts to s = refl

head-row : (fm : ℕ) (s : Subscriber) → head (row_bytes fm s) ≡ head_bytes s
head-row fm s = ap (take block_length) (row-parts fm s) ∙ take_at (head_bytes s) _ block_length (length-head s)

copied-parts : (to : ℕ) (r : List ℕ) → copied_row to r ≡ head r ++ joined_rows (map (λ (k : ℕ). copied_place (place_length to) (first_block (place r k))) places)
unfolding copied_row copied_places
copied-parts to r = refl

places-copied : (fm to : ℕ) (s : Subscriber) → Good fm s → every plain_access s.accesses ≡ true → (ks : List ℕ) → every (within 1 8) ks ≡ true
    → places_bytes to s.accesses ks ≡ joined_rows (map (λ (k : ℕ). copied_place (place_length to) (first_block (place (row_bytes fm s) k))) ks)
unfolding places_bytes joined_rows every
places-copied fm to s g p [] w = refl
places-copied fm to s g p (k ∷ ks) w =
    let here : place_bytes to s.accesses k ≡ copied_place (place_length to) (first_block (place (row_bytes fm s) k)) =
    place-copied fm to (length s.entries) g.form-good s.accesses k g.accesses-good.each p
    ∙ ap (λ (t : List ℕ). copied_place (place_length to) (first_block t)) (sym (place_is fm s k (and_left (within 1 8 k) _ w))) in
    let rest : places_bytes to s.accesses ks ≡ joined_rows (map (λ (k : ℕ). copied_place (place_length to) (first_block (place (row_bytes fm s) k))) ks) =
    places-copied fm to s g p ks (and_right (within 1 8 k) _ w) in
    λ i. here i ++ rest i

row_copied : (fm to : ℕ) (s : Subscriber) → Good fm s → every plain_access s.accesses ≡ true → row_bytes to s ≡ copied_row to (row_bytes fm s)
row_copied fm to s g p =
    let h : head_bytes s ≡ head (row_bytes fm s) = sym (head-row fm s) in
    let b : places_bytes to s.accesses places ≡ joined_rows (map (λ (k : ℕ). copied_place (place_length to) (first_block (place (row_bytes fm s) k))) places) =
    places-copied fm to s g p places places-eight.1 in
    row-parts to s ∙ (λ i. h i ++ b i) ∙ sym (copied-parts to (row_bytes fm s))

-- A ROW THAT IS WHOLLY ZERO

pub is-row : (r : List ℕ) (fm : ℕ) → is_form fm ≡ true → length r ≡ row_length fm → is_row r ≡ true
is-row r fm f h = let q : form_of r ≡ fm = row-form r fm h in is-sized r (record { form = rw q f; size = rw q h })

module _ (fm to : ℕ) (f : is_form fm ≡ true) where
  zero-first : (k : ℕ) → within 1 8 k ≡ true → first_block (place (zeros (row_length fm)) k) ≡ zeros block_length
  unfolding is_form
  zero-first k w =
      let r : List ℕ = zeros (row_length fm) in
      let size : length r ≡ row_length fm = length-zeros (row_length fm) in
      let q : form_of r ≡ fm = row-form r fm size in
      let ends : place_start fm k + place_length fm ≤ row_length fm = place-ends fm k (within_low 1 8 k w) (within-high 1 8 k w) in
      first-is r k (is-row r fm f size) ∙ ap (λ (g : ℕ). part r (place_start g k) block_length) q ∙ part-zeros (row_length fm) (place_start fm k) block_length (omega (arith, ends, within_low 1 2 fm f))

  zero-places : (ks : List ℕ) → every (within 1 8) ks ≡ true
      → joined_rows (map (λ (k : ℕ). copied_place (place_length to) (first_block (place (zeros (row_length fm)) k))) ks) ≡ zeros (place_length to * length ks)
  unfolding joined_rows every zeros
  zero-places [] w = ap zeros (sym (mul-zero (place_length to)))
  zero-places (k ∷ ks) w =
      let here : copied_place (place_length to) (first_block (place (zeros (row_length fm)) k)) ≡ zeros (place_length to) =
      ap (copied_place (place_length to)) (zero-first k (and_left (within 1 8 k) _ w)) ∙ free-copied (place_length to) in
      let rest : joined_rows (map (λ (k : ℕ). copied_place (place_length to) (first_block (place (zeros (row_length fm)) k))) ks) ≡ zeros (place_length to * length ks) =
      zero-places ks (and_right (within 1 8 k) _ w) in
      (λ i. here i ++ rest i) ∙ more-zeros (place_length to) (place_length to * length ks) ∙ ap zeros (sym (one_more (place_length to) (length ks)))

  zero-copied : zeros (row_length to) ≡ copied_row to (zeros (row_length fm))
  unfolding row_length
  zero-copied =
      let h : head (zeros (row_length fm)) ≡ zeros block_length = take-zeros block_length (row_length fm) (width-least fm) in
      let b : joined_rows (map (λ (k : ℕ). copied_place (place_length to) (first_block (place (zeros (row_length fm)) k))) places) ≡ zeros (place_length to * length places) =
      zero-places places places-eight.1 in
      let n : block_length + place_length to * length places ≡ row_length to = omega (arith, ap (λ (m : ℕ). place_length to * m) places-eight.2) in
      sym (copied-parts to (zeros (row_length fm)) ∙ (λ i. h i ++ b i) ∙ more-zeros block_length (place_length to * length places) ∙ ap zeros n)

-- its order line is empty
none-on : up_to0 (part (zeros block_length) 20 8) ≡ []
unfolding zeros up_to0 pick
none-on = refl

none-used : get_or (zeros block_length) 17 0 ≡ 0
unfolding zeros
none-used = refl

module _ (r : List ℕ) (least : block_length ≤ length r) (z : all_zero r ≡ true) where
  zero-head : head r ≡ zeros block_length
  zero-head = ap (take block_length) (is-zeros r (length r) refl z) ∙ take-zeros block_length (length r) least

  zero-line : order_line r ≡ []
  unfolding order_line
  zero-line = ap (λ (b : List ℕ). up_to0 (part b 20 8)) zero-head ∙ none-on

  zero-fits : fits_form1 r ≡ true
  unfolding fits_form1 read_row every
  zero-fits = rw zero-line

  zero-exact : line_exact r ≡ true
  unfolding line_exact every distinct
  zero-exact = rw (zero-line, zero-head, none-used, ← used-none)

zero-plain : (r : List ℕ) → block_length ≤ length r → all_zero r ≡ true → every plain_access (read_row r).accesses ≡ true
unfolding fits_form1
zero-plain r h z = zero-fits r h z

or-true : (b : Bool) → b || true ≡ true
or-true true = refl
or-true false = refl

-- MOVABLE ROWS

sound-some : (r : List ℕ) → sound r ≡ true → all_zero r ≡ false
sound-some r h =
    let c : Clauses r = clauses r h in
    let one : get_or r 0 0 ≡ 1 = sym (head_byte r 0 (omega arith)) ∙ eqb-true _ 1 (head_of (head r) c.head-form).0.one in
    sym (not-zero r (omega (arith, least-of r h)) (λ e. omega arith))

-- a row is sound, or wholly zero, and not both
pub by_row : {P : Type 0} (r : List ℕ) → movable r ≡ true → (sound r ≡ true → all_zero r ≡ false → P) → (all_zero r ≡ true → P) → P
unfolding movable
by_row r m f g =
    by-test (sound r)
    (λ e. f e (sound-some r e))
    (λ e. g (rw e at m))

pub line-exact : (r : List ℕ) → block_length ≤ length r → movable r ≡ true → line_exact r ≡ true
unfolding line_exact
line-exact r h m =
    by_row r m
    (λ s z. let c : Clauses r = clauses r s in rw (c.line-in, c.line-once, eq-eqb _ _ c.bits))
    (λ z. zero-exact r h z)

some-moved : (to : ℕ) (r : List ℕ) → all_zero r ≡ false → moved_row to r ≡ row_bytes to (read_row r)
unfolding moved_row pick
some-moved to r z = rw z

zero-moved : (to : ℕ) (r : List ℕ) → all_zero r ≡ true → moved_row to r ≡ zeros (row_length to)
unfolding moved_row pick
zero-moved to r z = rw z

pub length_moved : (to : ℕ) (r : List ℕ) → length (moved_row to r) ≡ row_length to
length_moved to r =
    by-test (all_zero r)
    (λ z. ap length (zero-moved to r z) ∙ length-zeros (row_length to))
    (λ z. ap length (some-moved to r z) ∙ length-row to (read_row r))

-- what a row of form `fm` has to be, to be moved either way
unfoldable pub ready : (fm : ℕ) → List ℕ → Bool
ready fm r = wide (row_length fm) r && (movable r && fits_form1 r)

-- form 1 has room for every movable row that it holds
pub fits_one : (r : List ℕ) → length r ≡ row_length 1 → movable r ≡ true → fits_form1 r ≡ true
unfolding fits_form1
fits_one r h m =
    by_row r m
    (λ s z. let q : form_of r ≡ 1 = row-form r 1 h in plain-one (read_row r) (rw q at (says-good r s)))
    (λ z. zero-fits r (omega (arith, h, width-least 1)) z)

module _ (fm to : ℕ) (f : is_form fm ≡ true) (t : is_form to ≡ true) (r : List ℕ) (a : ready fm r ≡ true) where
  size : length r ≡ row_length fm
  unfolding ready wide
  size = eqb-true (length r) (row_length fm) (and_left (eqb (length r) (row_length fm)) _ a)

  may : movable r ≡ true
  unfolding ready
  may = and_left (movable r) _ (and_right (wide (row_length fm) r) _ a)

  plain : every plain_access (read_row r).accesses ≡ true
  unfolding ready fits_form1
  plain = and_right (movable r) _ (and_right (wide (row_length fm) r) _ a)

  said : sound r ≡ true → Good fm (read_row r)
  said s = let q : form_of r ≡ fm = row-form r fm size in rw q at (says-good r s)

  said-to : sound r ≡ true → Good to (read_row r)
  said-to s = good-to fm to (read_row r) t (said s) plain

  bytes : sound r ≡ true → r ≡ row_bytes fm (read_row r)
  bytes s = row_is r s ∙ ap (λ (g : ℕ). row_bytes g (read_row r)) (row-form r fm size)

  -- where the row is sound
  module _ (s : sound r ≡ true) (z : all_zero r ≡ false) where
    here-sound : sound (moved_row to r) ≡ true
    here-sound = ap sound (some-moved to r z) ∙ sound-row to (read_row r) (said-to s)

    here-says : read_row (moved_row to r) ≡ read_row r
    here-says = ap read_row (some-moved to r z) ∙ read-row to (read_row r) (said-to s)

    here-some : all_zero (moved_row to r) ≡ false
    here-some = sound-some (moved_row to r) here-sound

    here_back : moved_row fm (moved_row to r) ≡ r
    here_back = some-moved fm (moved_row to r) here-some ∙ ap (row_bytes fm) here-says ∙ sym (bytes s)

    here-copied : moved_row to r ≡ copied_row to r
    here-copied = some-moved to r z ∙ row_copied fm to (read_row r) (said s) plain ∙ ap (copied_row to) (sym (bytes s))

  pub moved-zero : all_zero (moved_row to r) ≡ all_zero r
  moved-zero = by_row r may (λ s z. here-some s z ∙ sym z) (λ z. ap all_zero (zero-moved to r z) ∙ all-zeros (row_length to) ∙ sym z)

  pub moved-sound : all_zero r ≡ false → sound (moved_row to r) ≡ true
  moved-sound n = by_row r may (λ s z. here-sound s z) (λ z. absurd (clash z n))

  pub moved-says : all_zero r ≡ false → read_row (moved_row to r) ≡ read_row r
  moved-says n = by_row r may (λ s z. here-says s z) (λ z. absurd (clash z n))

  pub moved_back : moved_row fm (moved_row to r) ≡ r
  moved_back =
      by_row r may here_back
      (λ z. zero-moved fm (moved_row to r) (moved-zero ∙ z) ∙ sym (is-zeros r (row_length fm) size z))

  pub moved-copied : moved_row to r ≡ copied_row to r
  moved-copied =
      by_row r may here-copied
      (λ z. zero-moved to r z ∙ zero-copied fm to f ∙ ap (copied_row to) (sym (is-zeros r (row_length fm) size z)))

  pub moved_ready : ready to (moved_row to r) ≡ true
  unfolding ready wide movable fits_form1
  moved_ready =
      let l : eqb (length (moved_row to r)) (row_length to) ≡ true = eq-eqb _ _ (length_moved to r) in
      by_row r may
      (λ s z. let p : every plain_access (read_row (moved_row to r)).accesses ≡ true = ap (λ (x : Subscriber). every plain_access x.accesses) (here-says s z) ∙ plain in
      rw (l, here-sound s z, p))
      (λ z. let y : all_zero (moved_row to r) ≡ true = moved-zero ∙ z in
      let p : every plain_access (read_row (moved_row to r)).accesses ≡ true = zero-plain (moved_row to r) (omega (arith, length_moved to r, width-least to)) y in
      rw (l, y, p, or-true (sound (moved_row to r))))
