-- A table that moves: every row of it is moved, and the rows joined are a table of the other form.
use mathlib.Core.Path.{◌≡◌, refl, sym, ap, ◌∙◌}
use mathlib.Core.Bool.{Bool, true, false, ◌||◌}
use mathlib.Core.List.{List, [], ◌∷◌, map}
use Prim.Native.Nat.{ℕ, zero, suc, ◌-◌, ◌*◌, ◌/◌, ◌%◌, ◌≤◌, ◌<◌}
use native.Mathlib.Omega.{arith}
use borrow.Author.Tests.{eq-eqb, eqb-true, ne_eqb}
use lib.Dec.{eqb}
use lib.ListN.{length, get_or, length-map}
use Rattle.octets.specs.Choice.{first_of, pick, require, within}
use Rattle.octets.specs.Lists.{every}
use Rattle.octets.specs.Texts.{pieces}
use Rattle.octets.proofs.Choice.{first_passes, others-pass, passed}
use Rattle.octets.proofs.Lists.{and_left, and_right, both, by-test, every-both, every-imp, every_map, in_within, within-high, within_low}
use Rattle.octets.proofs.Pieces.{join-pieces, joined, length-pieces, pieces-at}
use Rattle.table.specs.Answers.{lent}
use Rattle.table.specs.TheTable.{most_rows, Table, is_form, row_at, row_length, rows, table_number, width}
use Rattle.table.proofs.Entries.{map_at}
use Rattle.table.proofs.Rows.{form_in, number-right, rows-count, whole-rows, width-least}
use Rattle.table.proofs.Widths.{quotient_is, rest-is, rows-order}
use Rattle.moving.specs.Moving.{Moved, fits_form1, joined_rows, movable, move, move_number, moved_row, other_form, source}
use Rattle.moving.specs.Copying.{copied_row}
use Rattle.moving.proofs.Built.{cut-joined, each-wide, length-joined, wide}
use Rattle.moving.proofs.Copies.{fits_one, length_moved, moved_back, moved-copied, moved_ready, ready}

-- FORMS

-- the two forms, each the other's other
pub record Forms (fm to : ℕ) : Type 0 where
  pub from-form : is_form fm ≡ true
  pub to-form : is_form to ≡ true
  pub other : other_form to ≡ fm
  pub other-back : other_form fm ≡ to

pub forms : (to : ℕ) → is_form (other_form to) ≡ true → Forms (other_form to) to
unfolding is_form other_form
forms to h =
    let lo : 1 ≤ 3 - to = within_low 1 2 _ h in
    let hi : 3 - to ≤ 2 = within-high 1 2 _ h in
    record { from-form = h; to-form = in_within 1 2 to (omega arith) (omega arith); other = refl; other-back = omega arith }

pub turned : {fm to : ℕ} → Forms fm to → Forms to fm
turned f = record { from-form = f.to-form; to-form = f.from-form; other = f.other-back; other-back = f.other }

-- THE NUMBER

pub length-rows : (t : Table) → length (rows t) ≡ length t.bytes / width t
unfolding rows
length-rows t = length-pieces (width t) (length t.bytes / width t) t.bytes

-- what the tests say of a move that is not refused
pub record Passes (to : ℕ) (bytes room : List ℕ) : Type 0 where
  pub table-right : table_number (source to bytes) ≡ 0
  pub room-right : length room ≡ row_length to * length (rows (source to bytes))
  pub each-movable : every movable (rows (source to bytes)) ≡ true
  pub each_fits : eqb to 2 || every fits_form1 (rows (source to bytes)) ≡ true

pub passes : (to : ℕ) (bytes room : List ℕ) → move_number to bytes room ≡ 0 → Passes to bytes room
unfolding move_number
passes to bytes room h =
    let h1 = others-pass (table_number (source to bytes)) _ h in
    let h2 = others-pass (require (eqb (length room) (row_length to * length (rows (source to bytes)))) 19) _ h1 in
    let h3 = others-pass (require (every movable (rows (source to bytes))) 20) _ h2 in
    record {
      table-right = first_passes (table_number (source to bytes)) _ h;
      room-right = eqb-true _ _ (passed _ 19 (omega arith) (first_passes (require (eqb (length room) (row_length to * length (rows (source to bytes)))) 19) _ h1));
      each-movable = passed _ 20 (omega arith) (first_passes (require (every movable (rows (source to bytes))) 20) _ h2);
      each_fits = passed _ 21 (omega arith) (first_passes (require (eqb to 2 || every fits_form1 (rows (source to bytes))) 21) _ h3);
    }

pub number-zero : (to : ℕ) (bytes room : List ℕ) → Passes to bytes room → move_number to bytes room ≡ 0
unfolding move_number first_of pick require
number-zero to bytes room p =
    rw (p.table-right, eq-eqb _ _ p.room-right, p.each-movable, p.each_fits)

-- the ways out
module _ (to : ℕ) (bytes room : List ℕ) where
  pub number-table : (table_number (source to bytes) ≡ 0 → ⊥) → move_number to bytes room ≡ table_number (source to bytes)
  unfolding move_number first_of pick
  number-table n = rw (ne_eqb (table_number (source to bytes)) 0 n)

  module _ (a : table_number (source to bytes) ≡ 0) where
    pub number-room : (length room ≡ row_length to * length (rows (source to bytes)) → ⊥) → move_number to bytes room ≡ 19
    unfolding move_number first_of pick require
    number-room n = rw (a, ne_eqb _ _ n)

    module _ (b : length room ≡ row_length to * length (rows (source to bytes))) where
      pub number-unsound : every movable (rows (source to bytes)) ≡ false → move_number to bytes room ≡ 20
      unfolding move_number first_of pick require
      number-unsound n = rw (a, eq-eqb _ _ b, n)

      pub number_more : every movable (rows (source to bytes)) ≡ true → eqb to 2 ≡ false → every fits_form1 (rows (source to bytes)) ≡ false → move_number to bytes room ≡ 21
      unfolding move_number first_of pick require
      number_more c d n = rw (a, eq-eqb _ _ b, c, d, n)

-- EVERY ROW IS READY

each-ready : (fm : ℕ) (rs : List (List ℕ)) → every (wide (row_length fm)) rs ≡ true → every movable rs ≡ true → every fits_form1 rs ≡ true → every (ready fm) rs ≡ true
unfolding ready every
each-ready fm [] w m f = refl
each-ready fm (r ∷ rs) w m f =
    both (both (and_left (wide (row_length fm) r) _ w) (both (and_left (movable r) _ m) (and_left (fits_form1 r) _ f)))
    (each-ready fm rs (and_right (wide (row_length fm) r) _ w) (and_right (movable r) _ m) (and_right (fits_form1 r) _ f))

wide_is : (w : ℕ) (r : List ℕ) → wide w r ≡ true → length r ≡ w
unfolding wide
wide_is w r h = eqb-true (length r) w h

pub all-wide : (t : Table) → table_number t ≡ 0 → every (wide (width t)) (rows t) ≡ true
unfolding rows
all-wide t h = each-wide (width t) (length t.bytes / width t) t.bytes (whole-rows t h)

-- of form 1 every row fits, and of form 2 it was tested
all_fit : (to : ℕ) (bytes room : List ℕ) → Passes to bytes room → every fits_form1 (rows (source to bytes)) ≡ true
unfolding other_form source
all_fit to bytes room p =
    by-test (eqb to 2)
    (λ e. let q : to ≡ 2 = eqb-true to 2 e in
    every-both (wide (row_length 1)) movable fits_form1 (λ r w m. fits_one r (wide_is (row_length 1) r w) m) (rows (source to bytes))
    (rw q (all-wide (source 2 bytes) (rw q at p.table-right))) p.each-movable)
    (λ e. rw e at p.each_fits)

pub all-ready : (to : ℕ) (bytes room : List ℕ) → Passes to bytes room → every (ready (other_form to)) (rows (source to bytes)) ≡ true
unfolding source
all-ready to bytes room p =
    each-ready (other_form to) (rows (source to bytes)) (all-wide (source to bytes) p.table-right) p.each-movable (all_fit to bytes room p)

-- THE ROWS THAT ARE JOINED

map_each : (f g : List ℕ → List ℕ) (q : List ℕ → Bool) → ((r : List ℕ) → q r ≡ true → f r ≡ g r) → (rs : List (List ℕ)) → every q rs ≡ true → map f rs ≡ map g rs
unfolding every
map_each f g q h [] e = refl
map_each f g q h (r ∷ rs) e = rw (h r (and_left (q r) _ e), map_each f g q h rs (and_right (q r) _ e))

map-map : (f g : List ℕ → List ℕ) (rs : List (List ℕ)) → map f (map g rs) ≡ map (λ (r : List ℕ). f (g r)) rs
map-map f g [] = refl
map-map f g (r ∷ rs) = rw (map-map f g rs)

map_same : (rs : List (List ℕ)) → map (λ (r : List ℕ). r) rs ≡ rs
map_same [] = refl
map_same (r ∷ rs) = rw (map_same rs)

pub moved-is-copied : (fm to : ℕ) → is_form fm ≡ true → is_form to ≡ true → (rs : List (List ℕ)) → every (ready fm) rs ≡ true → map (copied_row to) rs ≡ map (moved_row to) rs
moved-is-copied fm to f t rs e = map_each (copied_row to) (moved_row to) (ready fm) (λ r a. sym (moved-copied fm to f t r a)) rs e

all-moved-wide : (to : ℕ) (rs : List (List ℕ)) → every (wide (row_length to)) (map (moved_row to) rs) ≡ true
unfolding every wide
all-moved-wide to [] = refl
all-moved-wide to (r ∷ rs) = both (eq-eqb _ _ (length_moved to r)) (all-moved-wide to rs)

rows-joined : (rs : List (List ℕ)) → joined_rows rs ≡ joined rs
unfolding joined_rows joined
rows-joined [] = refl
rows-joined (r ∷ rs) = rw (rows-joined rs)

joined_bytes : (t : Table) → table_number t ≡ 0 → joined_rows (rows t) ≡ t.bytes
unfolding rows
joined_bytes t h = rows-joined (pieces (width t) (length t.bytes / width t) t.bytes) ∙ join-pieces (width t) (length t.bytes / width t) t.bytes (whole-rows t h)

-- row i among the rows
pub rows_at : (t : Table) (i : ℕ) → i < length (rows t) → get_or (rows t) i [] ≡ row_at t i
unfolding rows row_at
rows_at t i h =
    pieces-at (width t) (length t.bytes / width t) t.bytes i (omega (arith, length-pieces (width t) (length t.bytes / width t) t.bytes))

pub every-at : (f : List ℕ → Bool) (rs : List (List ℕ)) (i : ℕ) → every f rs ≡ true → i < length rs → f (get_or rs i []) ≡ true
unfolding every
every-at f [] i e h = absurd (omega arith)
every-at f (r ∷ rs) zero e h = and_left (f r) _ e
every-at f (r ∷ rs) (suc i) e h = every-at f rs i (and_right (f r) _ e) (omega arith)

ready-movable : (fm : ℕ) (r : List ℕ) → ready fm r ≡ true → movable r ≡ true
unfolding ready
ready-movable fm r a = and_left (movable r) _ (and_right (wide (row_length fm) r) _ a)

ready-fits : (fm : ℕ) (r : List ℕ) → ready fm r ≡ true → fits_form1 r ≡ true
unfolding ready
ready-fits fm r a = and_right (movable r) _ (and_right (wide (row_length fm) r) _ a)

or-true : (b : Bool) → b || true ≡ true
or-true true = refl
or-true false = refl

-- what a move gives that is not refused
pub passing : (to : ℕ) (bytes room : List ℕ) → Passes to bytes room → move to bytes room ≡ record { number = 0; target = joined_rows (map (moved_row to) (rows (source to bytes))) }
unfolding move pick
passing to bytes room p = rw (number-zero to bytes room p)

-- A MOVE THAT IS NOT REFUSED

module _ (to : ℕ) (bytes room : List ℕ) (p : Passes to bytes room) where
  abbrev here : List (List ℕ)
  here = rows (source to bytes)

  abbrev there : List (List ℕ)
  there = map (moved_row to) here

  abbrev pub out : List ℕ
  out = joined_rows there

  pub both-forms : Forms (other_form to) to
  unfolding source
  both-forms = forms to (form_in (source to bytes) p.table-right)

  pub move-is : move to bytes room ≡ record { number = 0; target = out }
  move-is = passing to bytes room p

  length-there : length there ≡ length here
  length-there = length-map here (moved_row to)

  out-length : length out ≡ row_length to * length here
  out-length = length-joined (row_length to) there (all-moved-wide to here) ∙ ap (λ (n : ℕ). row_length to * n) length-there

  out-count : length out / row_length to ≡ length here
  out-count = quotient_is (row_length to) (length out) (length here) 0 (omega (arith, out-length)) (omega (arith, width-least to))

  pub out-rows : rows (lent to out) ≡ there
  unfolding rows
  out-rows = ap (λ (n : ℕ). pieces (row_length to) n out) (out-count ∙ sym length-there) ∙ cut-joined (row_length to) there (all-moved-wide to here)

  here-count : within 1 most_rows (length here) ≡ true
  here-count = ap (within 1 most_rows) (length-rows (source to bytes)) ∙ rows-count (source to bytes) p.table-right

  pub out-number : table_number (lent to out) ≡ 0
  out-number =
      let lo : 1 ≤ length here = within_low 1 most_rows _ here-count in
      let hi : length here ≤ most_rows = within-high 1 most_rows _ here-count in
      let rest : length out % row_length to ≡ 0 = rest-is (row_length to) (length out) (length here) 0 (omega (arith, out-length)) (omega (arith, width-least to)) in
      number-right (lent to out) both-forms.to-form rest
      (omega (arith, out-length, rows-order (row_length to) 1 (length here) lo, width-least to))
      (omega (arith, out-length, rows-order (row_length to) (length here) most_rows hi))

  -- row i of it
  pub out-row : (i : ℕ) → i < length here → row_at (lent to out) i ≡ moved_row to (row_at (source to bytes) i)
  out-row i h =
      let long : i < length (rows (lent to out)) = omega (arith, ap length out-rows, length-there) in
      sym (rows_at (lent to out) i long) ∙ ap (λ (rs : List (List ℕ)). get_or rs i []) out-rows ∙ map_at (moved_row to) [] [] here i h ∙ ap (moved_row to) (rows_at (source to bytes) i h)

  pub row-ready : (i : ℕ) → i < length here → ready (other_form to) (row_at (source to bytes) i) ≡ true
  row-ready i h = ap (ready (other_form to)) (sym (rows_at (source to bytes) i h)) ∙ every-at (ready (other_form to)) here i (all-ready to bytes room p) h

  -- THE WAY BACK

  all_there : every (ready to) there ≡ true
  all_there =
      every_map (ready to) (moved_row to) here
      ∙ every-imp (ready (other_form to)) _ (moved_ready (other_form to) to both-forms.from-form both-forms.to-form) here (all-ready to bytes room p)

  back-source : source (other_form to) out ≡ lent to out
  unfolding source
  back-source = ap (λ (f : ℕ). lent f out) both-forms.other-back

  back-rows : rows (source (other_form to) out) ≡ there
  back-rows = ap rows back-source ∙ out-rows

  bytes-length : length bytes ≡ row_length (other_form to) * length here
  unfolding source
  bytes-length = whole-rows (source to bytes) p.table-right ∙ ap (λ (n : ℕ). row_length (other_form to) * n) (sym (length-rows (source to bytes)))

  pub back_passes : (back : List ℕ) → length back ≡ length bytes → Passes (other_form to) out back
  back_passes back h =
      record {
        table-right = ap table_number back-source ∙ out-number;
        room-right = h ∙ bytes-length ∙ ap (λ (n : ℕ). row_length (other_form to) * n) (sym (ap length back-rows ∙ length-there));
        each-movable = ap (every movable) back-rows ∙ every-imp (ready to) movable (λ r a. ready-movable to r a) there all_there;
        each_fits = ap (λ (b : Bool). eqb (other_form to) 2 || b) (ap (every fits_form1) back-rows ∙ every-imp (ready to) fits_form1 (λ r a. ready-fits to r a) there all_there) ∙ or-true (eqb (other_form to) 2);
      }

  pub back-bytes : joined_rows (map (moved_row (other_form to)) (rows (source (other_form to) out))) ≡ bytes
  unfolding source
  back-bytes =
      ap (λ (rs : List (List ℕ)). joined_rows (map (moved_row (other_form to)) rs)) back-rows
      ∙ ap joined_rows
      (map-map (moved_row (other_form to)) (moved_row to) here
      ∙ map_each _ (λ (r : List ℕ). r) (ready (other_form to)) (moved_back (other_form to) to both-forms.from-form both-forms.to-form) here (all-ready to bytes room p)
      ∙ map_same here)
      ∙ joined_bytes (source to bytes) p.table-right

  pub there_and_back : (back : List ℕ) → length back ≡ length bytes → move (other_form to) (move to bytes room).target back ≡ record { number = 0; target = bytes }
  there_and_back back h =
      ap (λ (m : Moved). move (other_form to) m.target back) move-is
      ∙ passing (other_form to) out back (back_passes back h)
      ∙ ap (λ (t : List ℕ). record { number = 0; target = t }) back-bytes
