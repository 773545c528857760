-- The rows of a table: row by row along the cut, and what a table of number 0 is.
use mathlib.Core.Path.{◌≡◌, refl, sym, ap, ◌∙◌}
use mathlib.Core.Bool.{Bool, true, false, ◌&&◌, and-false}
use mathlib.Core.List.{List, [], ◌∷◌}
use Prim.Native.Nat.{ℕ, zero, suc, ◌+◌, ◌-◌, ◌*◌, ◌/◌, ◌%◌, ◌≤◌, ◌<◌}
use native.Mathlib.Nat.{mul-zero}
use native.Mathlib.Omega.{arith}
use borrow.Author.Tests.{eqb-true, eqb-false, eq-eqb, leb-false, leb-true, ltb-false, ltb-true, ne_eqb}
use lib.Dec.{eqb, leb, ltb}
use lib.ListN.{length, get_or, set, take, drop}
use lib.Seq.{drop-drop, get_or-drop, get_or-take}
use Rattle.octets.specs.Choice.{pick, require, within}
use Rattle.octets.specs.Texts.{part, pieces, same, all_zero}
use Rattle.octets.proofs.Choice.{first_passes, others-pass, passed}
use Rattle.octets.specs.Numbers.{low64}
use Rattle.octets.proofs.Pieces.{joined, join-pieces, length-piece, length-with, next-begins, part-take, piece-ends, piece-other, piece-with, pieces-at, pieces-with, with-same}
use Rattle.octets.proofs.Texts.{length_part, zero-step}
use Rattle.octets.proofs.Words.{low-eq}
use Rattle.octets.proofs.Lists.{and_left, and_right, by-test, in_within, same-eq, within-high, within_low}
use Rattle.table.specs.TheTable.{most_rows, block_length, Account, Found, Table, first_number, first_row, form_of, found_by, has_name, is_form, is_row_of, later, nothing, row, row_at, row_length, table_number, width, with_row}
use Rattle.table.specs.Answers.{row_most, table_most, lent}
use Rattle.table.proofs.Widths.{fewer-rows, rows-order, split}

-- THE FORM AND ITS WIDTH

pub width-least : (f : ℕ) → block_length ≤ row_length f
unfolding row_length
width-least f = omega arith

pub width-some : (f : ℕ) → 0 < row_length f
width-some f = omega (arith, width-least f)

pub width-most : (f : ℕ) → f ≤ 2 → row_length f ≤ row_most
unfolding row_length
width-most f h = omega arith

-- a row of a form has that form
pub row-form : (r : List ℕ) (f : ℕ) → length r ≡ row_length f → form_of r ≡ f
unfolding form_of row_length
row-form r f h = omega arith

pub a-form : (f : ℕ) → 1 ≤ f → f ≤ 2 → is_form f ≡ true
unfolding is_form
a-form f lo hi = in_within 1 2 f lo hi

pub no-form : (f : ℕ) → (1 ≤ f → f ≤ 2 → ⊥) → is_form f ≡ false
unfolding is_form
no-form f h = by-test (within 1 2 f) (λ e. absurd (h (within_low 1 2 f e) (within-high 1 2 f e))) (λ e. e)

pub form-most : (f : ℕ) → is_form f ≡ true → f ≤ 2
unfolding is_form
form-most f h = within-high 1 2 f h

-- A TABLE OF NUMBER 0

pub form_in : (t : Table) → table_number t ≡ 0 → is_form t.form ≡ true
unfolding table_number
form_in t h = and_left (is_form t.form) _ (passed _ 1 (omega arith) h)

pub form-top : (t : Table) → table_number t ≡ 0 → t.form ≤ 2
form-top t h = form-most t.form (form_in t h)

no-rest : (t : Table) → table_number t ≡ 0 → length t.bytes % width t ≡ 0
unfolding table_number
no-rest t h = eqb-true _ 0 (and_left (eqb (length t.bytes % width t) 0) _ (and_right (is_form t.form) _ (passed _ 1 (omega arith) h)))

pub whole-rows : (t : Table) → table_number t ≡ 0 → length t.bytes ≡ width t * (length t.bytes / width t)
whole-rows t h = omega (arith, split (width t) (length t.bytes), no-rest t h)

pub rows-count : (t : Table) → table_number t ≡ 0 → within 1 most_rows (length t.bytes / width t) ≡ true
unfolding table_number
rows-count t h = and_right (eqb (length t.bytes % width t) 0) _ (and_right (is_form t.form) _ (passed _ 1 (omega arith) h))

pub rows-most : (t : Table) → table_number t ≡ 0 → length t.bytes / width t ≤ most_rows
rows-most t h = within-high 1 most_rows _ (rows-count t h)

-- no sum of bytes of such a table, and a row, is too large for the machine
pub bytes_most : (t : Table) → table_number t ≡ 0 → (width t ≤ row_most) × (length t.bytes ≤ table_most)
bytes_most t h =
    let w : width t ≤ row_most = width-most t.form (form-top t h) in
    let l : width t * (length t.bytes / width t) ≤ width t * most_rows = rows-order (width t) _ most_rows (rows-most t h) in
    (w, omega (arith, w, l, whole-rows t h))

module _ (t : Table) (right : table_number t ≡ 0) where
  -- where a byte of row i is inside, all of the row is
  pub row_inside : (i o : ℕ) → width t * i + o < length t.bytes → (i < length t.bytes / width t) × (width t * i + width t ≤ length t.bytes)
  row_inside i o h =
      let n : ℕ = length t.bytes / width t in
      let there : i < n = fewer-rows (width t) i n o (omega (arith, whole-rows t right)) in
      (there, omega (arith, whole-rows t right, piece-ends (width t) i n there))

  -- where row i begins behind the table, no row is left
  pub rows-over : (i : ℕ) → length t.bytes ≤ width t * i → length t.bytes / width t ≤ i
  rows-over i h =
      by-test (ltb i (length t.bytes / width t))
      (λ e. absurd (omega (arith, whole-rows t right, width-least t.form, piece-ends (width t) i _ (ltb-true i _ e))))
      (λ e. ltb-false i _ e)

  pub rows_fit : (i : ℕ) → i ≤ length t.bytes / width t → width t * i ≤ table_most
  rows_fit i h = omega (arith, rows-order (width t) i _ h, whole-rows t right, (bytes_most t right).1)

-- the number by the form and the length
pub number-right : (t : Table) → is_form t.form ≡ true → length t.bytes % width t ≡ 0 → 0 < length t.bytes → length t.bytes ≤ most_rows * width t → table_number t ≡ 0
unfolding table_number require
number-right t f m lo hi =
    let n : ℕ = length t.bytes / width t in
    let whole : length t.bytes ≡ width t * n = omega (arith, split (width t) (length t.bytes), m) in
    let few : n < suc most_rows = fewer-rows (width t) n (suc most_rows) 0 (omega (arith, whole, width-least t.form)) in
    let some : 0 < n = fewer-rows (width t) 0 n 0 (omega (arith, whole, width-least t.form)) in
    rw (f, eq-eqb (length t.bytes % width t) 0 m, in_within 1 most_rows n some (omega (arith, few)))

pub number-form : (t : Table) → is_form t.form ≡ false → table_number t ≡ 1
unfolding table_number require
number-form t h = rw h

wrong : (a : Bool) → require (a && false) 1 ≡ 1
unfolding require
wrong true = refl
wrong false = refl

pub number-rest : (t : Table) → (length t.bytes % width t ≡ 0 → ⊥) → table_number t ≡ 1
unfolding table_number
number-rest t m = rw (ne_eqb (length t.bytes % width t) 0 m) (wrong (is_form t.form))

pub number-few : (t : Table) → (1 ≤ length t.bytes / width t → length t.bytes / width t ≤ most_rows → ⊥) → table_number t ≡ 1
unfolding table_number
number-few t m =
    by-test (within 1 most_rows (length t.bytes / width t))
    (λ e. absurd (m (within_low 1 most_rows _ e) (within-high 1 most_rows _ e)))
    (λ e. rw (e, and-false (eqb (length t.bytes % width t) 0)) (wrong (is_form t.form)))

-- a table of less than a row, and of more than 1,024
pub number_short : (t : Table) → length t.bytes < width t → table_number t ≡ 1
number_short t h =
    number-few t (λ lo hi. omega (arith, split (width t) (length t.bytes), rows-order (width t) 1 _ lo))

pub number-long : (t : Table) → most_rows * width t < length t.bytes → table_number t ≡ 1
number-long t h =
    by-test (eqb (length t.bytes % width t) 0)
    (λ e. number-few t (λ lo hi. omega (arith, split (width t) (length t.bytes), eqb-true (length t.bytes % width t) 0 e, rows-order (width t) _ most_rows hi)))
    (λ e. number-rest t (eqb-false (length t.bytes % width t) 0 e))

-- the first number of a call that brings an operator
pub first-table : (t : Table) (o : ℕ) → first_number t o ≡ 0 → table_number t ≡ 0
unfolding first_number
first-table t o h = first_passes (table_number t) _ h

pub first-operator : (t : Table) (o : ℕ) → first_number t o ≡ 0 → leb o 15 ≡ true
unfolding first_number
first-operator t o h = passed (leb o 15) 33 (omega arith) (first_passes _ _ (others-pass (table_number t) _ h))

-- THE SEARCH

-- what is found from row i on, counted from the table's first row
unfoldable pub past : ℕ → Found → Found
past i (row j) = row (i + j)
past i nothing = nothing

pub past-later : (i : ℕ) (f : Found) → past i (later f) ≡ past (i + 1) f
unfolding past later
past-later i (row j) = let q : i + suc j ≡ i + 1 + j = omega arith in rw q
past-later i nothing = refl

pub past-none : (f : Found) → past 0 f ≡ f
unfolding past
past-none (row j) = let q : 0 + j ≡ j = omega arith in rw q
past-none nothing = refl

-- the first n rows of w bytes, from row i on
module _ (f : List ℕ → Bool) (w n : ℕ) (t : List ℕ) where
  unfoldable pub searched : ℕ → Found
  searched i = past i (first_row f (pieces w (n - i) (drop (w * i) t)))

  -- from the first row on
  pub search-all : searched 0 ≡ first_row f (pieces w n t)
  unfolding searched
  search-all = let q : n - 0 ≡ n = omega arith in rw (q, mul-zero) (past-none (first_row f (pieces w n t)))

  pub cut-row : (i : ℕ) → i < n → pieces w (n - i) (drop (w * i) t) ≡ part t (w * i) w ∷ pieces w (n - (i + 1)) (drop (w * (i + 1)) t)
  unfolding pieces
  cut-row i h =
      let q : n - i ≡ suc (n - (i + 1)) = omega arith in
      rw (q, drop-drop w (w * i) t, next-begins w i)

  -- row i passes; it does not; no row is left
  pub search-here : (i : ℕ) → i < n → f (part t (w * i) w) ≡ true → searched i ≡ row i
  unfolding searched first_row pick past
  search-here i h e = let q : i + 0 ≡ i = omega arith in rw (cut-row i h, e, q)

  pub search-on : (i : ℕ) → i < n → f (part t (w * i) w) ≡ false → searched (i + 1) ≡ searched i
  unfolding searched first_row pick
  search-on i h e = rw (cut-row i h, e) (sym (past-later i _))

  pub search-end : (i : ℕ) → n ≤ i → searched i ≡ nothing
  unfolding searched first_row past pieces
  search-end i h = let q : n - i ≡ 0 = omega arith in rw q

  -- rows that do not pass may be skipped
  pub search-skip : (i k : ℕ) → i ≤ k → k ≤ n → ((j : ℕ) → i ≤ j → j < k → f (part t (w * j) w) ≡ false) → searched k ≡ searched i
  search-skip i zero l h e = let q : i ≡ 0 = omega arith in rw q
  search-skip i (suc k) l h e =
      by-test (eqb i (suc k))
      (λ q. rw (eqb-true i (suc k) q))
      (λ q. let p : suc k ≡ k + 1 = omega arith in
      let le : i ≤ k = omega (arith, eqb-false i (suc k) q) in
      rw p (search-on k (omega arith) (e k le (omega arith))) ∙ search-skip i k le (omega arith) (λ j a b. e j a (omega arith)))

-- A PART THAT IS LENT

-- of n bytes
pub lent_length : (s : List ℕ) (a n : ℕ) → a + n ≤ length s → length (take (a + n - a) (drop a s)) ≡ n
lent_length s a n h = let q : a + n - a ≡ n = omega arith in rw q (length_part s a n h)

-- of as many bytes as a number says
pub lent-part : (s : List ℕ) (a n m : ℕ) → n ≡ m → take (a + n - a) (drop a s) ≡ part s a m
lent-part s a n m e = let q : a + n - a ≡ m = omega arith in rw q

pub lent_at : (s : List ℕ) (a b n : ℕ) → a ≡ b → take (a + n - a) (drop a s) ≡ part s b n
lent_at s a b n e = let q : a + n - a ≡ n = omega arith in rw (q, e)

-- ROW i

pub piece-row : (t : Table) (i : ℕ) → part t.bytes (width t * i) (width t) ≡ row_at t i
unfolding row_at
piece-row t i = refl

-- the part of the table that is lent for row i; w is the width as the code has it
pub lent_row : (t : Table) (w at i : ℕ) → w ≡ width t → at ≡ width t * i → take (at + w - at) (drop at t.bytes) ≡ row_at t i
unfolding row_at
lent_row t w at i v e = let q : at + w - at ≡ width t = omega arith in rw (q, e)

-- what a test said of the part is what it says of row i
pub lent-test : (f : List ℕ → Bool) (t : Table) (w at i : ℕ) (x b : Bool) → w ≡ width t → at ≡ width t * i → x ≡ f (take (at + w - at) (drop at t.bytes)) → x ≡ b → f (row_at t i) ≡ b
lent-test f t w at i x b v e y z = ap f (sym (lent_row t w at i v e)) ∙ sym y ∙ z

-- ROW i OF n, READ AND REPLACED: the laws of pieces, for a table's rows

module _ (n : ℕ) (t : Table) (size : length t.bytes ≡ width t * n) where
  pub joined-rows : joined (pieces (width t) n t.bytes) ≡ t.bytes
  joined-rows = join-pieces (width t) n t.bytes size

  module _ (i : ℕ) (there : i < n) where
    pub nth-row : get_or (pieces (width t) n t.bytes) i [] ≡ row_at t i
    unfolding row_at
    nth-row = pieces-at (width t) n t.bytes i there

    pub length-row_at : length (row_at t i) ≡ width t
    unfolding row_at
    length-row_at = length-piece (width t) n t.bytes size i there

    -- a row that stays
    pub row_same : with_row t i (row_at t i) ≡ t
    unfolding with_row row_at
    row_same = ap (λ (b : List ℕ). lent t.form b) (with-same (width t) n t.bytes size i there)

    module _ (r : List ℕ) (full : length r ≡ width t) where
      pub length-with_row : length (with_row t i r).bytes ≡ length t.bytes
      unfolding with_row
      length-with_row = length-with (width t) n t.bytes size i there r full

      pub rows-with : pieces (width t) n (with_row t i r).bytes ≡ set (pieces (width t) n t.bytes) i r
      unfolding with_row
      rows-with = pieces-with (width t) n t.bytes size i there r full

      -- the row that was written, and the others
      pub row-with : row_at (with_row t i r) i ≡ r
      unfolding with_row row_at
      row-with = piece-with (width t) n t.bytes size i there r full

      pub row_other : (j : ℕ) → (j ≡ i → ⊥) → row_at (with_row t i r) j ≡ row_at t j
      unfolding with_row row_at
      row_other j ne = piece-other (width t) n t.bytes size i there r full j ne

-- another row changes nothing of the form
pub form-with : (t : Table) (i : ℕ) (r : List ℕ) → (with_row t i r).form ≡ t.form
unfolding with_row
form-with t i r = refl

-- each row of a table has its form
pub row_at-form : (t : Table) (i : ℕ) → table_number t ≡ 0 → i < length t.bytes / width t → form_of (row_at t i) ≡ t.form
row_at-form t i h there =
    row-form (row_at t i) t.form (length-row_at (length t.bytes / width t) t (whole-rows t h) i there)

-- THE LOOKUP'S TEST

pub not-row : (name r : List ℕ) → (get_or r 0 0 ≡ 1 → 1 ≤ get_or r 1 0 → get_or r 1 0 ≤ 15 → get_or r 1 0 ≡ length name → ⊥) → false ≡ has_name name r
unfolding has_name
not-row name r h =
    by-test (has_name name r)
    (λ e. let e1 = and_right (eqb (get_or r 0 0) 1) _ e in
    let e2 = and_right (within 1 15 (get_or r 1 0)) _ e1 in
    let w : within 1 15 (get_or r 1 0) ≡ true = and_left (within 1 15 (get_or r 1 0)) _ e1 in
    absurd (h (eqb-true _ 1 (and_left (eqb (get_or r 0 0) 1) _ e)) (within_low 1 15 _ w) (within-high 1 15 _ w) (eqb-true _ (length name) (and_left (eqb (get_or r 1 0) (length name)) _ e2))))
    (λ e. sym e)

pub row-by-name : (name r : List ℕ) (n : ℕ) → get_or r 0 0 ≡ 1 → n ≡ get_or r 1 0 → 1 ≤ n → n ≤ 15 → n ≡ length name
    → same (take (2 + n - 2) (drop 2 r)) name ≡ has_name name r
unfolding has_name
row-by-name name r n one e lo hi k =
    let q : 2 + n - 2 ≡ length name = omega arith in
    rw (q, eq-eqb (get_or r 0 0) 1 one, in_within 1 15 (get_or r 1 0) (omega arith) (omega arith), eq-eqb (get_or r 1 0) (length name) (sym e ∙ k))

-- a name of over 15 bytes finds no row
long-name : (name r : List ℕ) → leb (length name) 15 ≡ false → has_name name r ≡ false
long-name name r h = sym (not-row name r (λ one lo hi e. omega (arith, leb-false (length name) 15 h)))

-- a name is told by the first 17 bytes
name_by : (name r : List ℕ) → has_name name (take 17 r) ≡ has_name name r
unfolding has_name
name_by name r =
    by-test (leb (length name) 15)
    (λ h. let le : length name ≤ 15 = leb-true (length name) 15 h in
    rw (get_or-take 17 r 0 0 (omega arith), get_or-take 17 r 1 0 (omega arith), part-take 17 2 (length name) r (omega arith)))
    (λ h. long-name name (take 17 r) h ∙ sym (long-name name r h))

-- the lookup reads nothing else of a row
pub found-by : (a : Account) (r f : List ℕ) → found_by r ≡ f → is_row_of a r ≡ eqb (get_or f 0 0) a.operator && has_name a.name (drop 1 f)
unfolding is_row_of found_by
found-by a r f e = rw (← e, name_by a.name r)

-- a row without the name is no account's of that name
pub no_name : (a : Account) (r : List ℕ) → has_name a.name r ≡ false → is_row_of a r ≡ false
unfolding is_row_of
no_name a r h = rw h (and-false (eqb (get_or r 19 0) a.operator))

pub found_alike : (a : Account) (q r : List ℕ) → found_by q ≡ found_by r → is_row_of a q ≡ is_row_of a r
found_alike a q r e = found-by a q (found_by r) e ∙ sym (found-by a r (found_by r) refl)

-- THE LAST EIGHT BYTES OF A NAME, looked at first

-- the bytes of row i's name
name-byte : (t : Table) (i n a k : ℕ) → a + k < n → n ≤ 15 → get_or (part (row_at t i) 2 n) (a + k) 0 ≡ get_or t.bytes (width t * i + (2 + a) + k) 0
unfolding row_at
name-byte t i n a k h m =
    get_or-take n (drop 2 (part t.bytes (width t * i) (width t))) (a + k) 0 h ∙ get_or-drop 2 (part t.bytes (width t * i) (width t)) (a + k) 0
    ∙ get_or-take (width t) (drop (width t * i) t.bytes) (2 + (a + k)) 0 (omega (arith, width-least t.form)) ∙ get_or-drop (width t * i) t.bytes (2 + (a + k)) 0
    ∙ ap (λ (j : ℕ). get_or t.bytes j 0) (omega arith)

pub other-end : (t : Table) (name : List ℕ) (i at : ℕ) → 8 ≤ length name → length name ≤ 15 → at ≡ width t * i + (length name - 6)
    → (low64 t.bytes at ≡ low64 name (length name - 8) → ⊥) → has_name name (row_at t i) ≡ false
unfolding has_name
other-end t name i at lo hi p h =
    by-test (has_name name (row_at t i))
    (λ e. let e1 = and_right (eqb (get_or (row_at t i) 0 0) 1) _ e in
    let e2 = and_right (within 1 15 (get_or (row_at t i) 1 0)) _ e1 in
    let e3 = and_right (eqb (get_or (row_at t i) 1 0) (length name)) _ e2 in
    let is : part (row_at t i) 2 (length name) ≡ name = same-eq _ name e3 in
    let a : ℕ = length name - 8 in
    let here : at ≡ width t * i + (2 + a) = omega arith in
    let word : low64 (part (row_at t i) 2 (length name)) a ≡ low64 t.bytes (width t * i + (2 + a)) =
    low-eq (part (row_at t i) 2 (length name)) t.bytes a (width t * i + (2 + a)) (λ k l. name-byte t i (length name) a k (omega arith) hi) in
    absurd (h (ap (low64 t.bytes) here ∙ sym word ∙ ap (λ (s : List ℕ). low64 s a) is)))
    (λ e. e)

-- a row with another operator
pub other-operator : (t : Table) (a : Account) (i at : ℕ) → at ≡ width t * i + 19 → (get_or t.bytes at 0 ≡ a.operator → ⊥) → is_row_of a (row_at t i) ≡ false
unfolding is_row_of row_at
other-operator t a i at p h =
    let byte : get_or (part t.bytes (width t * i) (width t)) 19 0 ≡ get_or t.bytes at 0 =
    get_or-take (width t) (drop (width t * i) t.bytes) 19 0 (omega (arith, width-least t.form)) ∙ get_or-drop (width t * i) t.bytes 19 0 ∙ ap (λ (j : ℕ). get_or t.bytes j 0) (sym p) in
    rw (byte, ne_eqb (get_or t.bytes at 0) a.operator h)

-- a row whose first byte is not zero
pub not-zero : (s : List ℕ) → 0 < length s → (get_or s 0 0 ≡ 0 → ⊥) → false ≡ all_zero s
not-zero s h n = sym (zero-step s 0 h ∙ rw (ne_eqb (get_or s 0 0) 0 n))
