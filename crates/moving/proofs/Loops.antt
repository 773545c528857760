-- The loops: a test over every row, a test along an order line, and the stores into a place.
use mathlib.Core.Path.{◌≡◌, refl, sym, ap, ◌∙◌}
use mathlib.Core.Bool.{Bool, true, false}
use mathlib.Core.List.{List, [], ◌∷◌, ◌++◌, append_assoc, append-nil}
use Prim.Native.Nat.{ℕ, ◌+◌, ◌-◌, ◌*◌, ◌/◌, ◌≤◌, ◌<◌}
use native.Mathlib.Nat.{mul-zero}
use native.Mathlib.Numerals.{add-one}
use native.Mathlib.Omega.{arith}
use borrow.Author.Tests.{eq-eqb, ne_eqb}
use lib.Dec.{eqb}
use lib.ListN.{length, get_or, set, take, drop, length-append, drop_of_length-le}
use lib.Seq.{drop-cons, set_at, take_at}
use Rattle.octets.specs.Choice.{pick, within}
use Rattle.octets.specs.Lists.{every}
use Rattle.octets.specs.Texts.{all_zero, filled, part, pieces, put, zeros}
use Rattle.octets.proofs.Lists.{every_map}
use Rattle.octets.proofs.Pieces.{drop-zeros, piece-ends}
use Rattle.octets.proofs.Texts.{length-zeros}
use Rattle.soundness.proofs.Line.{line_at}
use Rattle.table.specs.Answers.{lent}
use Rattle.table.specs.Soundness.{is_row, sound}
use Rattle.table.specs.TheTable.{place_length, block_length, Table, access_at, is_form, line_room, order_line, place, read_access, read_row, row_at, rows, second_block, table_number, width}
use Rattle.table.proofs.Rows.{cut-row, form_in, length-row_at, number-form, whole-rows}
use Rattle.moving.specs.Moving.{fits_form1, movable, move_number, other_form, plain_access, source}
use Rattle.moving.specs.Copying.{behind_first, copied_place, plain_second}
use Rattle.moving.proofs.Copies.{is-row}
use Rattle.moving.proofs.Whole.{number-table}

-- EVERY ROW FROM ROW i ON

module _ (f : List ℕ → Bool) (t : Table) where
  unfoldable pub every_from : ℕ → Bool
  every_from i = every f (pieces (width t) (length t.bytes / width t - i) (drop (width t * i) t.bytes))

  pub every-all : every_from 0 ≡ every f (rows t)
  unfolding every_from rows
  every-all = let q : length t.bytes / width t - 0 ≡ length t.bytes / width t = omega arith in rw (q, mul-zero)

  -- row i passes; it does not; no row is left
  pub every-on : (i : ℕ) → i < length t.bytes / width t → f (row_at t i) ≡ true → every_from (i + 1) ≡ every_from i
  unfolding every_from every row_at
  every-on i h e = rw (cut-row f (width t) (length t.bytes / width t) t.bytes i h, e)

  pub every-stop : (i : ℕ) → i < length t.bytes / width t → f (row_at t i) ≡ false → every_from i ≡ false
  unfolding every_from every row_at
  every-stop i h e = rw (cut-row f (width t) (length t.bytes / width t) t.bytes i h, e)

  pub every-over : (i : ℕ) → length t.bytes / width t ≤ i → every_from i ≡ true
  unfolding every_from every pieces
  every-over i h = let q : length t.bytes / width t - i ≡ 0 = omega arith in rw q

-- A ROW

pub movable-sound : (r : List ℕ) (x : Bool) → x ≡ sound r → x ≡ true → true ≡ movable r
unfolding movable
movable-sound r x e h = rw (sym e ∙ h)

pub movable-zero : (r : List ℕ) (x y : Bool) → x ≡ sound r → x ≡ false → y ≡ all_zero r → y ≡ movable r
unfolding movable
movable-zero r x y e h z = z ∙ rw (sym e ∙ h)

-- THE ACCESSES ALONG THE LINE

pub plain_at : List ℕ → ℕ → Bool
plain_at r k = plain_access (access_at r k)

module _ (r : List ℕ) where
  unfoldable pub plain_from : ℕ → Bool
  plain_from i = every (plain_at r) (drop i (order_line r))

  pub plain-all : plain_from 0 ≡ fits_form1 r
  unfolding plain_from fits_form1 read_row plain_at
  plain-all = sym (every_map plain_access (access_at r) (order_line r))

  at-line : (i k : ℕ) (x : Bool) → i < length (order_line r) → k ≡ get_or (line_room r) i 0 → x ≡ plain_access (access_at r k) → plain_at r (get_or (order_line r) i 0) ≡ x
  unfolding plain_at
  at-line i k x h e p = ap (λ (j : ℕ). plain_access (access_at r j)) (line_at r i h ∙ sym e) ∙ sym p

  pub plain-on : (i k : ℕ) (x : Bool) → i < length (order_line r) → k ≡ get_or (line_room r) i 0 → x ≡ plain_access (access_at r k) → x ≡ true → plain_from (i + 1) ≡ plain_from i
  unfolding plain_from every
  plain-on i k x h e p t = rw (drop-cons (order_line r) i 0 h, at-line i k x h e p, t, add-one)

  pub plain-stop : (i k : ℕ) (x : Bool) → i < length (order_line r) → k ≡ get_or (line_room r) i 0 → x ≡ plain_access (access_at r k) → x ≡ false → plain_from i ≡ false
  unfolding plain_from every
  plain-stop i k x h e p t = rw (drop-cons (order_line r) i 0 h, at-line i k x h e p, t)

  pub plain_over : (i : ℕ) → length (order_line r) ≤ i → plain_from i ≡ true
  unfolding plain_from every
  plain_over i h = rw (drop_of_length-le (order_line r) h)

  -- by the texts of a second block
  module _ (k : ℕ) (c s t : List ℕ) (e : c ≡ second_block (place r k)) (p : s ≡ part c 8 (get_or c 1 0)) where
    pub realm-there : (length s ≡ 0 → ⊥) → false ≡ plain_access (access_at r k)
    unfolding plain_access access_at read_access
    realm-there n = rw (← e, ← p, ne_eqb (length s) 0 n)

    pub realm-none : length s ≡ 0 → t ≡ part c 136 (get_or c 3 0) → eqb (length t) 0 ≡ plain_access (access_at r k)
    unfolding plain_access access_at read_access
    realm-none z q = rw (← e, ← p, ← q, eq-eqb (length s) 0 z)

-- THE STORES INTO A PLACE

cleared : (n : ℕ) (b : List ℕ) → length b ≡ block_length → put (zeros n) 0 b ≡ b ++ zeros (n - block_length)
unfolding put
cleared n b h = let q : 0 + length b ≡ block_length = omega arith in rw (q, drop-zeros block_length n)

module _ (b : List ℕ) (size : length b ≡ block_length) where
  pub copied-one : put (zeros block_length) 0 b ≡ copied_place block_length b
  unfolding copied_place filled zeros
  copied-one =
      cleared block_length b size ∙ append-nil b
      ∙ sym (ap (take block_length) (append_assoc b (behind_first b) (zeros block_length)) ∙ take_at b (behind_first b ++ zeros block_length) block_length size)

  pub copied-free : (get_or b 0 0 ≡ 2 → ⊥) → put (zeros (place_length 2)) 0 b ≡ copied_place (place_length 2) b
  unfolding copied_place filled behind_first pick
  copied-free n =
      rw (ne_eqb (get_or b 0 0) 2 n)
      (cleared (place_length 2) b size ∙ sym (take_at (b ++ zeros block_length) (zeros (place_length 2)) (place_length 2) (rw (length-append, size, length-zeros))))

  two-parts : zeros block_length ≡ 0 ∷ zeros 510 ++ (0 ∷ [])
  unfolding zeros
  two-parts = refl

  pub copied-used : get_or b 0 0 ≡ 2 → set (set (put (zeros (place_length 2)) 0 b) block_length 3) 1023 3 ≡ copied_place (place_length 2) b
  unfolding copied_place filled behind_first pick plain_second
  copied-used u =
      let whole : put (zeros (place_length 2)) 0 b ≡ b ++ (0 ∷ zeros 510 ++ (0 ∷ [])) = cleared (place_length 2) b size ∙ ap (λ (t : List ℕ). b ++ t) two-parts in
      let one : set (b ++ (0 ∷ zeros 510 ++ (0 ∷ []))) block_length 3 ≡ (b ++ (3 ∷ zeros 510)) ++ (0 ∷ []) =
      set_at b 0 (zeros 510 ++ (0 ∷ [])) 3 block_length size ∙ sym (append_assoc b (3 ∷ zeros 510) (0 ∷ [])) in
      let long : length (b ++ (3 ∷ zeros 510)) ≡ 1023 = rw (length-append, size, length-zeros) in
      let two : set ((b ++ (3 ∷ zeros 510)) ++ (0 ∷ [])) 1023 3 ≡ b ++ (3 ∷ zeros 510 ++ (3 ∷ [])) =
      set_at (b ++ (3 ∷ zeros 510)) 0 [] 3 1023 long ∙ append_assoc b (3 ∷ zeros 510) (3 ∷ []) in
      let full : length (b ++ (3 ∷ zeros 510 ++ (3 ∷ []))) ≡ place_length 2 = rw (length-append, size, length-append, length-zeros) in
      ap (λ (t : List ℕ). set (set t block_length 3) 1023 3) whole
      ∙ ap (λ (t : List ℕ). set t 1023 3) one
      ∙ two
      ∙ sym (rw (eq-eqb (get_or b 0 0) 2 u) (take_at (b ++ (3 ∷ zeros 510 ++ (3 ∷ []))) (zeros (place_length 2)) (place_length 2) full))

-- THE FORM

no_zero : is_form 0 ≡ false
unfolding is_form within
no_zero = refl

pub no_other : (to : ℕ) (bytes room : List ℕ) → 3 < to → 1 ≡ move_number to bytes room
unfolding other_form source
no_other to bytes room h =
    let q : 3 - to ≡ 0 = omega arith in
    let one : table_number (source to bytes) ≡ 1 = ap (λ (f : ℕ). table_number (lent f bytes)) q ∙ number-form (lent 0 bytes) no_zero in
    sym (number-table to bytes room (λ z. omega (arith, z, one)) ∙ one)

-- ROW i, as it is lent

module _ (t : Table) (right : table_number t ≡ 0) (i n w : ℕ) (wide : w ≡ width t) (count : n ≡ length t.bytes / w) (inside : i < n) where
  pub row-there : i < length t.bytes / width t
  row-there = omega (arith, ap (λ (v : ℕ). length t.bytes / v) wide)

  pub row_ends : width t * i + width t ≤ length t.bytes
  row_ends = omega (arith, piece-ends (width t) i (length t.bytes / width t) row-there, whole-rows t right)

  pub row-length-at : length (row_at t i) ≡ width t
  row-length-at = length-row_at (length t.bytes / width t) t (whole-rows t right) i row-there

  pub is-row-at : (r : List ℕ) → r ≡ row_at t i → is_row r ≡ true
  is-row-at r e = is-row r t.form (form_in t right) (ap length e ∙ row-length-at)

-- what a test said of row i
pub said_at : (f : List ℕ → Bool) (t : Table) (i : ℕ) (r : List ℕ) (x b : Bool) → r ≡ row_at t i → x ≡ f r → x ≡ b → f (row_at t i) ≡ b
said_at f t i r x b e p q = ap f (sym e) ∙ sym p ∙ q

-- the place p, cleared, and the first block b put into it
module _ (b p z q : List ℕ) (size : length b ≡ block_length) where
  pub one_block : length p ≡ block_length → z ≡ zeros (length p) → q ≡ put z 0 b → q ≡ copied_place (length p) b
  one_block h e d = d ∙ ap (λ (t : List ℕ). put t 0 b) (e ∙ ap zeros h) ∙ copied-one b size ∙ ap (λ (n : ℕ). copied_place n b) (sym h)

  pub free-block : length p ≡ place_length 2 → z ≡ zeros (length p) → q ≡ put z 0 b → (get_or b 0 0 ≡ 2 → ⊥) → q ≡ copied_place (length p) b
  free-block h e d n = d ∙ ap (λ (t : List ℕ). put t 0 b) (e ∙ ap zeros h) ∙ copied-free b size n ∙ ap (λ (n : ℕ). copied_place n b) (sym h)

  pub used-block : length p ≡ place_length 2 → z ≡ zeros (length p) → q ≡ put z 0 b → get_or b 0 0 ≡ 2 → set (set q block_length 3) 1023 3 ≡ copied_place (length p) b
  used-block h e d u =
      ap (λ (t : List ℕ). set (set t block_length 3) 1023 3) (d ∙ ap (λ (t : List ℕ). put t 0 b) (e ∙ ap zeros h)) ∙ copied-used b size u ∙ ap (λ (n : ℕ). copied_place n b) (sym h)
