-- The loops that write: over the places of a row, and over the rows; and what the number shows before them.
use mathlib.Core.Path.{◌≡◌, refl, sym, ap, ◌∙◌}
use mathlib.Core.Bool.{true, false, ◌||◌}
use mathlib.Core.List.{List, [], ◌++◌, map, append-nil}
use Prim.Native.Nat.{ℕ, ◌+◌, ◌-◌, ◌*◌, ◌/◌, ◌%◌, ◌≤◌, ◌<◌}
use native.Mathlib.Omega.{arith}
use borrow.Author.Tests.{eq-eqb, ne_eqb}
use lib.Dec.{eqb}
use lib.ListN.{length, take, drop, length-drop, drop_of_length-le}
use lib.Seq.{take_all}
use Rattle.octets.specs.Choice.{pick}
use Rattle.octets.specs.Lists.{every}
use Rattle.octets.specs.Texts.{put}
use Rattle.octets.proofs.Lists.{within-high, within_low}
use Rattle.octets.proofs.Pieces.{piece-ends}
use Rattle.octets.proofs.Texts.{length-put, put-there}
use Rattle.row.proofs.Entries.{head-size, row-least}
use Rattle.row.proofs.Places.{row-sizes}
use Rattle.table.specs.Answers.{table_most, lent}
use Rattle.table.specs.Soundness.{is_row, line_exact}
use Rattle.table.specs.TheTable.{most_rows, block_length, Table, first_block, form_of, head, is_form, place, place_length, places, row_at, row_length, rows, table_number, width}
use Rattle.table.proofs.Bytes.{form-of}
use Rattle.table.proofs.Form.{length-first-of, sized}
use Rattle.table.proofs.Rows.{form_in, form-top, rows-most, width-least, width-most}
use Rattle.table.proofs.Widths.{quotient_is, rows-order}
use Rattle.moving.specs.Moving.{fits_form1, joined_rows, movable, move, move_number, moved_row, other_form, source}
use Rattle.moving.specs.Copying.{copied_place, copied_places, copied_row}
use Rattle.moving.proofs.Built.{built, built-all, built-counted, built-pieces}
use Rattle.moving.proofs.Copies.{is-row, line-exact}
use Rattle.moving.proofs.Whole.{Forms, Passes, all-ready, every-at, forms, length-rows, moved-is-copied, number_more, number-room, number-table, number-unsound, number-zero, passes, passing, rows_at}

-- THE PLACES

unfoldable pub place_from : (w : ℕ) → List ℕ → ℕ → List ℕ
place_from w r j = copied_place w (first_block (place r (j + 1)))

pub places-built : (w : ℕ) (r : List ℕ) → built (place_from w r) 8 ≡ copied_places w r
unfolding copied_places places place_from
places-built w r = built-counted (λ (k : ℕ). copied_place w (first_block (place r k))) 1 8

-- eight of them
pub eight-parts : (n : ℕ) → 8 * place_length 1 ≤ n → n ≤ 8 * place_length 2 → n % (8 * place_length 1) ≡ 0 → (n ≡ n / 8 * 8) × (block_length ≤ n / 8) × (n / 8 ≤ place_length 2) × (n / 8 % block_length ≡ 0)
eight-parts n lo hi e = (omega arith, omega arith, omega arith, omega arith)

pub place-by : (w v : ℕ) (r : List ℕ) (k : ℕ) (b s : List ℕ) → b ≡ first_block (place r (k + 1)) → v ≡ w → s ≡ copied_place v b → s ≡ place_from w r k
unfolding place_from
place-by w v r k b s e q p = p ∙ (λ i. copied_place (q i) (e i))

pub first-size : (r : List ℕ) (k : ℕ) (b : List ℕ) → is_row r ≡ true → k < 8 → b ≡ first_block (place r (k + 1)) → length b ≡ block_length
first-size r k b h l e = ap length e ∙ length-first-of r (k + 1) (sized r h) (omega arith) (omega arith)

-- A ROW: block 0 is put, and the places come back as s

copied_is : (to : ℕ) (r : List ℕ) → head r ++ copied_places (place_length to) r ≡ copied_row to r
unfolding copied_row
copied_is to r = refl

module _ (room from h q : List ℕ) (a : is_row room ≡ true) (b : is_row from ≡ true) (e : h ≡ head from) (d : q ≡ put room 0 h) where
  pub head-long : length h ≡ block_length
  head-long = ap length e ∙ head-size from (row-least from b)

  pub put-long : length q ≡ length room
  put-long = ap length d ∙ length-put room 0 h (omega (arith, head-long, row-least room a))

  pub rest-long : length (take (length q - block_length) (drop block_length q)) ≡ 8 * place_length (form_of room)
  rest-long = ap length (take_all (length q - block_length) (drop block_length q) (rw length-drop (omega arith))) ∙ length-drop block_length q ∙ omega (arith, put-long, (row-sizes room a).0)

  pub row_back : (s : List ℕ) → s ≡ copied_places (length (take (length q - block_length) (drop block_length q)) / 8) from
      → take block_length q ++ (s ++ drop (length q - block_length) (drop block_length q)) ≡ copied_row (form_of room) from
  row_back s p =
      let first : take block_length q ≡ head from = ap (take block_length) d ∙ put-there room 0 h block_length head-long (omega (arith, row-least room a)) ∙ e in
      let none : drop (length q - block_length) (drop block_length q) ≡ [] = drop_of_length-le (drop block_length q) {i = length q - block_length} (rw length-drop (omega arith)) in
      let wide : length (take (length q - block_length) (drop block_length q)) / 8 ≡ place_length (form_of room) = omega (arith, rest-long) in
      let rest : s ++ drop (length q - block_length) (drop block_length q) ≡ copied_places (place_length (form_of room)) from =
      ap (λ (t : List ℕ). s ++ t) none ∙ append-nil s ∙ p ∙ ap (λ (w : ℕ). copied_places w from) wide in
      (λ i. first i ++ rest i) ∙ copied_is (form_of room) from

-- THE NUMBER

-- a movable row has an exact line
pub exact-at : (t : Table) (right : table_number t ≡ 0) (i : ℕ) (r : List ℕ) → i < length t.bytes / width t → every movable (rows t) ≡ true → is_row r ≡ true → r ≡ row_at t i → line_exact r ≡ true
exact-at t right i r h m a e =
    let l : i < length (rows t) = omega (arith, length-rows t) in
    let x : movable r ≡ true = ap movable (e ∙ sym (rows_at t i l)) ∙ every-at movable (rows t) i m l in
    line-exact r (row-least r a) x

-- the table as it is lent: o is the other form, as the code has it
module _ (to o : ℕ) (bytes room : List ℕ) (other : o ≡ 3 - to) where
  source_is : lent o bytes ≡ source to bytes
  unfolding source other_form
  source_is = ap (λ (f : ℕ). lent f bytes) other

  pub by-table : (n : ℕ) → n ≡ table_number (lent o bytes) → (n ≡ 0 → ⊥) → n ≡ move_number to bytes room
  by-table n e k =
      let s : n ≡ table_number (source to bytes) = e ∙ ap table_number source_is in
      s ∙ sym (number-table to bytes room (λ z. k (s ∙ z)))

  module _ (right : table_number (lent o bytes) ≡ 0) where
    right-source : table_number (source to bytes) ≡ 0
    right-source = ap table_number (sym source_is) ∙ right

    pub both_small : (o ≤ 2) × (1 ≤ to) × (to ≤ 2)
    unfolding is_form
    both_small = let l : o ≤ 2 = form-top (lent o bytes) right in let g : 1 ≤ o = within_low 1 2 o (form_in (lent o bytes) right) in (l, omega arith, omega arith)

    -- w and v are the widths as the code has them, n the number of rows
    module _ (w v n : ℕ) (ws : w ≡ row_length o) (vs : v ≡ row_length to) (ns : n ≡ length bytes / w) where
      count-is : n ≡ length (rows (source to bytes))
      count-is = ns ∙ ap (λ (x : ℕ). length bytes / x) ws ∙ sym (length-rows (lent o bytes)) ∙ ap (λ (t : Table). length (rows t)) source_is

      room-is : v * n ≡ row_length to * length (rows (source to bytes))
      room-is = λ i. vs i * count-is i

      pub product-fits : v * n ≤ table_most
      product-fits =
          let few : n ≤ most_rows = omega (arith, ns ∙ ap (λ (x : ℕ). length bytes / x) ws, rows-most (lent o bytes) right) in
          omega (arith, ap (λ (x : ℕ). x * n) vs, ap (λ (x : ℕ). x * most_rows) vs, rows-order v n most_rows few, width-most to both_small.2)

      pub by-room : (length room ≡ v * n → ⊥) → 19 ≡ move_number to bytes room
      by-room k = sym (number-room to bytes room right-source (λ z. k (z ∙ sym room-is)))

      module _ (size : length room ≡ v * n) where
        pub by_rows : every movable (rows (lent o bytes)) ≡ false → 20 ≡ move_number to bytes room
        by_rows k = sym (number-unsound to bytes room right-source (size ∙ room-is) (ap (λ (t : Table). every movable (rows t)) (sym source_is) ∙ k))

        module _ (sound : every movable (rows (lent o bytes)) ≡ true) where
          each : every movable (rows (source to bytes)) ≡ true
          each = ap (λ (t : Table). every movable (rows t)) (sym source_is) ∙ sound

          passing-with : eqb to 2 || every fits_form1 (rows (source to bytes)) ≡ true → 0 ≡ move_number to bytes room
          passing-with k = sym (number-zero to bytes room (record { table-right = right-source; room-right = size ∙ room-is; each-movable = each; each_fits = k }))

          pub to-two : to ≡ 2 → 0 ≡ move_number to bytes room
          to-two e = passing-with (rw (eq-eqb to 2 e))

          pub by-more : (to ≡ 2 → ⊥) → every fits_form1 (rows (lent o bytes)) ≡ false → 21 ≡ move_number to bytes room
          by-more e k = sym (number_more to bytes room right-source (size ∙ room-is) each (ne_eqb to 2 e) (ap (λ (t : Table). every fits_form1 (rows t)) (sym source_is) ∙ k))

          pub to_one : (to ≡ 2 → ⊥) → every fits_form1 (rows (lent o bytes)) ≡ true → 0 ≡ move_number to bytes room
          to_one e k = passing-with (rw (ne_eqb to 2 e) (ap (λ (t : Table). every fits_form1 (rows t)) (sym source_is) ∙ k))

-- THE ROWS

unfoldable pub row_from : (to : ℕ) → List ℕ → ℕ → List ℕ
row_from to bytes i = copied_row to (row_at (source to bytes) i)

rows-built : (to : ℕ) (bytes : List ℕ) → built (row_from to bytes) (length bytes / row_length (other_form to)) ≡ joined_rows (map (copied_row to) (rows (source to bytes)))
unfolding row_from row_at rows source
rows-built to bytes = built-pieces (copied_row to) (row_length (other_form to)) (length bytes / row_length (other_form to)) bytes

module _ (to : ℕ) (bytes room : List ℕ) (z : move_number to bytes room ≡ 0) where
  passed : Passes to bytes room
  passed = passes to bytes room z

  pub forms-of : Forms (other_form to) to
  unfolding source
  forms-of = forms to (form_in (source to bytes) passed.table-right)

  pub to-small : (1 ≤ to) × (to ≤ 2)
  unfolding is_form
  to-small = (within_low 1 2 to forms-of.to-form, within-high 1 2 to forms-of.to-form)

  pub source-right : table_number (lent (3 - to) bytes) ≡ 0
  unfolding source other_form
  source-right = passed.table-right

  -- the rows of the room are as many
  module _ (w : ℕ) (ws : w ≡ row_length to) where
    pub room_whole : length room ≡ w * (length bytes / row_length (3 - to))
    unfolding other_form source
    room_whole = passed.room-right ∙ (λ i. sym ws i * length-rows (source to bytes) i)

    pub room-count : length room / w ≡ length bytes / row_length (3 - to)
    room-count = quotient_is w (length room) (length bytes / row_length (3 - to)) 0 (omega (arith, room_whole)) (omega (arith, ws, width-least to))

    module _ (i : ℕ) (inside : i < length room / w) where
      pub piece_inside : w * i + w ≤ length room
      piece_inside = omega (arith, room_whole, piece-ends w i (length bytes / row_length (3 - to)) (omega (arith, room-count)))

      pub row_inside : i < length bytes / row_length (3 - to)
      row_inside = omega (arith, room-count)

    pub room_most : length room ≤ table_most
    room_most =
        omega (arith, room_whole, rows-order w (length bytes / row_length (3 - to)) most_rows (rows-most (lent (3 - to) bytes) source-right), ap (λ (x : ℕ). x * most_rows) ws, width-most to to-small.1)

    pub row_by : (i : ℕ) (p r s : List ℕ) → length p ≡ w → r ≡ row_at (lent (3 - to) bytes) i → s ≡ copied_row (form_of p) r → s ≡ row_from to bytes i
    unfolding row_from source other_form
    row_by i p r s l e d = d ∙ (λ j. copied_row (form-of to p (l ∙ ws) j) (e j))

    pub part-row : (p : List ℕ) → length p ≡ w → is_row p ≡ true
    part-row p l = is-row p to forms-of.to-form (l ∙ ws)

    pub rows-moved : (i : ℕ) (t : List ℕ) → length t ≡ length room → i ≡ length room / w → take (w * i) t ≡ built (row_from to bytes) i
        → t ≡ joined_rows (map (moved_row to) (rows (source to bytes)))
    unfolding other_form
    rows-moved i t l e p =
        built-all (row_from to bytes) w (length bytes / row_length (3 - to)) i t (l ∙ room_whole) (e ∙ room-count) p
        ∙ rows-built to bytes
        ∙ ap joined_rows (moved-is-copied (other_form to) to forms-of.from-form forms-of.to-form (rows (source to bytes)) (all-ready to bytes room passed))

-- THE WHOLE

pub refused : (to : ℕ) (bytes room : List ℕ) (n : ℕ) → n ≡ move_number to bytes room → (n ≡ 0 → ⊥) → record { number = n; target = room } ≡ move to bytes room
unfolding move pick
refused to bytes room n e k =
    let f : eqb (move_number to bytes room) 0 ≡ false = ne_eqb _ 0 (λ z. k (e ∙ z)) in
    rw (f, e)

pub moved : (to : ℕ) (bytes room t : List ℕ) → move_number to bytes room ≡ 0 → t ≡ joined_rows (map (moved_row to) (rows (source to bytes))) → record { number = 0; target = t } ≡ move to bytes room
moved to bytes room t z e = ap (λ (x : List ℕ). record { number = 0; target = x }) e ∙ sym (passing to bytes room (passes to bytes room z))
