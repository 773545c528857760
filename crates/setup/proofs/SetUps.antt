-- The set-up operations: what each refusal and each success leaves.
use mathlib.Core.Path.{◌≡◌, refl, sym, ap, ◌∙◌}
use mathlib.Core.Bool.{Bool, true, false, not, ◌&&◌}
use mathlib.Core.List.{List, [], ◌∷◌, ◌++◌}
use Prim.Native.Nat.{ℕ, zero, suc, ◌+◌, ◌-◌, ◌*◌, ◌/◌, ◌≤◌, ◌<◌}
use native.Mathlib.Omega.{arith}
use borrow.Author.Tests.{eq-eqb, eqb-false, eqb-true, le-leb, le-ltb, leb-true, lt-leb, lt-ltb, ltb-true, ne_eqb, not-true}
use lib.Dec.{eqb, leb, ltb}
use lib.ListN.{length, get_or, take, drop}
use Rattle.octets.specs.Choice.{first_of, pick, require, within}
use Rattle.octets.specs.Lists.{every, sum_of}
use Rattle.octets.specs.Texts.{all_zero, zeros}
use Rattle.octets.proofs.Choice.{first_passes, others-pass, passed}
use Rattle.octets.proofs.Pieces.{length-pieces}
use Rattle.octets.proofs.Lists.{and_left, and_right, by-test, in_within, within-high, within_low}
use Rattle.table.specs.Soundness.{entries_form, is_digit, is_name, is_row, labels, limits, same_label, sound}
use Rattle.table.specs.Answers.{lent}
use Rattle.table.specs.TheTable.{Account, Entry, Found, Table, entries_room, first_number, first_row, form_of, head, is_form, is_found, lookup, nothing, own_rows, read_entries, read_row, row, row_at, row_bytes, row_length, rows, table_number, width, with_row}
use Rattle.table.proofs.Form.{is-sized}
use Rattle.table.proofs.Rows.{lent_length}
use Rattle.table.proofs.Sound.{clauses}
use Rattle.setup.specs.SetUp.{add, add_at, clear, enter, enter_number, entry_number, leaving, left, share, share_tests, shares_fit, with_row_at}
use Rattle.setup.specs.Parts.{share_number}
use Rattle.changes.specs.Changes.{named, with_entry}
use Rattle.changes.proofs.Rows.{lent-form}

-- A NUMBER AND WHAT IT LEAVES

pub refused : (n : ℕ) (before after : Table) → (n ≡ 0 → ⊥) → left n before ≡ leaving n before after
unfolding leaving pick
refused n before after h = rw (ne_eqb n 0 h)

pub done : (n : ℕ) (before after : Table) → n ≡ 0 → left 0 after ≡ leaving n before after
unfolding leaving pick
done n before after h = rw h

-- the first test that fails, and one that passes
fails-first : (c : ℕ) (cs : List ℕ) → (c ≡ 0 → ⊥) → first_of (c ∷ cs) ≡ c
unfolding first_of pick
fails-first c cs h = rw (ne_eqb c 0 h)

passes-first : (c : ℕ) (cs : List ℕ) → c ≡ 0 → first_of (c ∷ cs) ≡ first_of cs
unfolding first_of pick
passes-first c cs h = rw (eq-eqb c 0 h)

-- a test and its code
failed : (b : Bool) (code : ℕ) (cs : List ℕ) → b ≡ false → 1 ≤ code → first_of (require b code ∷ cs) ≡ code
unfolding require
failed b code cs e h = rw e (fails-first code cs (omega arith))

passed_on : (b : Bool) (code : ℕ) (cs : List ℕ) → b ≡ true → first_of (require b code ∷ cs) ≡ first_of cs
unfolding require
passed_on b code cs e = rw e (passes-first 0 cs refl)

none-failed : first_of [] ≡ 0
unfolding first_of
none-failed = refl

-- CLEARING

pub clear-refused : (t : Table) (n : ℕ) → n ≡ table_number t → (n ≡ 0 → ⊥) → left n t ≡ clear t
unfolding clear
clear-refused t n e h = ap (λ (i : ℕ). left i t) e ∙ refused (table_number t) t _ (λ z. h (e ∙ z))

pub clear-done : (t : Table) (n : ℕ) (z : List ℕ) → n ≡ table_number t → n ≡ 0 → z ≡ zeros (length t.bytes) → left 0 (lent t.form z) ≡ clear t
unfolding clear
clear-done t n z e h l = ap (λ (b : List ℕ). left 0 (lent t.form b)) l ∙ done (table_number t) t _ (sym e ∙ h)

-- A NAME

pub name-short : (s : List ℕ) → length s < 1 → false ≡ is_name s
unfolding is_name within
name-short s h = rw (lt-leb 1 (length s) h)

pub name-long : (s : List ℕ) → 15 < length s → false ≡ is_name s
unfolding is_name within
name-long s h = rw (lt-leb (length s) 15 h) (by-test (leb 1 (length s)) (λ e. rw e) (λ e. rw e))

pub name-rest : (s : List ℕ) → 1 ≤ length s → length s ≤ 15 → every is_digit s ≡ is_name s
unfolding is_name
name-rest s lo hi = rw (in_within 1 15 (length s) lo hi)

-- ENTERING

-- one test more behind those of a list
first-kept : (xs : List ℕ) (y n : ℕ) → first_of xs ≡ n → (n ≡ 0 → ⊥) → first_of (xs ++ (y ∷ [])) ≡ n
unfolding first_of pick
first-kept [] y n e h = absurd (h (sym e))
first-kept (x ∷ xs) y n e h = by-test (eqb x 0) (λ z. rw z (first-kept xs y n (rw z at e) h)) (λ z. rw z (rw z at e))

first-left : (xs : List ℕ) (y : ℕ) → first_of xs ≡ 0 → first_of (xs ++ (y ∷ [])) ≡ first_of (y ∷ [])
unfolding first_of pick
first-left [] y e = refl
first-left (x ∷ xs) y e =
    by-test (eqb x 0)
    (λ z. rw z (first-left xs y (rw z at e)))
    (λ z. absurd (eqb-false x 0 z (rw z at e)))

module _ (t : Table) (shares : List ℕ) (a : Account) where
  -- the numbers before 11, in order
  abbrev unheld : Bool
  unheld = not (is_found (lookup t a))

  abbrev room_left : Bool
  room_left = ltb (length (own_rows a.operator t)) (share a.operator shares)

  pub share-first : (n : ℕ) → n ≡ first_number t a.operator → (n ≡ 0 → ⊥) → n ≡ share_number t shares a
  unfolding share_number
  share-first n e h = e ∙ sym (fails-first (first_number t a.operator) _ (λ z. h (e ∙ z)))

  after-33 : first_number t a.operator ≡ 0
      → share_number t shares a ≡ first_of (require (shares_fit t shares) 26 ∷ require (is_name a.name) 9 ∷ require unheld 10 ∷ require room_left 27 ∷ [])
  unfolding share_number
  after-33 h = passes-first (first_number t a.operator) _ h

  pub share-26 : first_number t a.operator ≡ 0 → shares_fit t shares ≡ false → 26 ≡ share_number t shares a
  share-26 h f = sym (after-33 h ∙ failed (shares_fit t shares) 26 _ f (omega arith))

  after-26 : first_number t a.operator ≡ 0 → shares_fit t shares ≡ true
      → share_number t shares a ≡ first_of (require (is_name a.name) 9 ∷ require unheld 10 ∷ require room_left 27 ∷ [])
  after-26 h f = after-33 h ∙ passed_on (shares_fit t shares) 26 _ f

  pub share-9 : first_number t a.operator ≡ 0 → shares_fit t shares ≡ true → is_name a.name ≡ false → 9 ≡ share_number t shares a
  share-9 h f m = sym (after-26 h f ∙ failed (is_name a.name) 9 _ m (omega arith))

  after-9 : first_number t a.operator ≡ 0 → shares_fit t shares ≡ true → is_name a.name ≡ true
      → share_number t shares a ≡ first_of (require unheld 10 ∷ require room_left 27 ∷ [])
  after-9 h f m = after-26 h f ∙ passed_on (is_name a.name) 9 _ m

  pub share-10 : (i : ℕ) → first_number t a.operator ≡ 0 → shares_fit t shares ≡ true → is_name a.name ≡ true → lookup t a ≡ row i → 10 ≡ share_number t shares a
  unfolding is_found
  share-10 i h f m l = sym (after-9 h f m ∙ failed unheld 10 _ (ap (λ (x : Found). not (is_found x)) l) (omega arith))

  after-10 : first_number t a.operator ≡ 0 → shares_fit t shares ≡ true → is_name a.name ≡ true → lookup t a ≡ nothing
      → share_number t shares a ≡ first_of (require room_left 27 ∷ [])
  unfolding is_found
  after-10 h f m l = after-9 h f m ∙ passed_on unheld 10 _ (ap (λ (x : Found). not (is_found x)) l)

  pub share-27 : first_number t a.operator ≡ 0 → shares_fit t shares ≡ true → is_name a.name ≡ true → lookup t a ≡ nothing
      → share a.operator shares ≤ length (own_rows a.operator t) → 27 ≡ share_number t shares a
  share-27 h f m l r = sym (after-10 h f m l ∙ failed room_left 27 [] (le-ltb (length (own_rows a.operator t)) (share a.operator shares) r) (omega arith))

  pub share-0 : first_number t a.operator ≡ 0 → shares_fit t shares ≡ true → is_name a.name ≡ true → lookup t a ≡ nothing
      → length (own_rows a.operator t) < share a.operator shares → 0 ≡ share_number t shares a
  share-0 h f m l r =
      sym (after-10 h f m l ∙ passed_on room_left 27 [] (lt-ltb (length (own_rows a.operator t)) (share a.operator shares) r) ∙ none-failed)

  -- and 11
  enter-refused : (n : ℕ) → enter_number t shares a ≡ n → (n ≡ 0 → ⊥) → left n t ≡ enter t shares a
  unfolding enter
  enter-refused n e h =
      ap (λ (i : ℕ). left i t) (sym e)
      ∙ refused (enter_number t shares a) t (with_row_at (first_row all_zero (rows t)) t (row_bytes t.form (named a))) (λ z. h (sym e ∙ z))

  pub enter-early : (n : ℕ) → n ≡ share_number t shares a → (n ≡ 0 → ⊥) → left n t ≡ enter t shares a
  unfolding share_number enter_number
  enter-early n e h =
      enter-refused n (first-kept (share_tests t shares a) (require (is_found (first_row all_zero (rows t))) 11) n (sym e) h) h

  to-11 : share_number t shares a ≡ 0 → enter_number t shares a ≡ first_of (require (is_found (first_row all_zero (rows t))) 11 ∷ [])
  unfolding share_number enter_number
  to-11 e =
      first-left (share_tests t shares a) (require (is_found (first_row all_zero (rows t))) 11) e

  pub enter-11 : share_number t shares a ≡ 0 → first_row all_zero (rows t) ≡ nothing → left 11 t ≡ enter t shares a
  unfolding is_found
  enter-11 h z = enter-refused 11 (to-11 h ∙ failed (is_found (first_row all_zero (rows t))) 11 [] (ap is_found z) (omega arith)) (λ e. omega arith)

  pub enter-done : (i : ℕ) (after : Table) → share_number t shares a ≡ 0 → first_row all_zero (rows t) ≡ row i
      → after ≡ with_row t i (row_bytes t.form (named a)) → left 0 after ≡ enter t shares a
  unfolding is_found enter with_row_at
  enter-done i after h z e =
      let n : enter_number t shares a ≡ 0 = to-11 h ∙ passed_on (is_found (first_row all_zero (rows t))) 11 [] (ap is_found z) ∙ none-failed in
      ap (left 0) e
      ∙ ap (λ (f : Found). left 0 (with_row_at f t (row_bytes t.form (named a)))) (sym z)
      ∙ done (enter_number t shares a) t (with_row_at (first_row all_zero (rows t)) t (row_bytes t.form (named a))) n

-- where no test of entering fails before 11, all passed
pub record MayEnterRow (t : Table) (shares : List ℕ) (a : Account) : Type 0 where
  pub first : first_number t a.operator ≡ 0
  pub shares-fit : shares_fit t shares ≡ true
  pub name-fits : is_name a.name ≡ true
  pub unheld-yet : is_found (lookup t a) ≡ false
  pub room-left : length (own_rows a.operator t) < share a.operator shares

pub share-passed : (t : Table) (shares : List ℕ) (a : Account) → share_number t shares a ≡ 0 → MayEnterRow t shares a
unfolding share_number
share-passed t shares a h =
    let h1 = others-pass (first_number t a.operator) _ h in
    let h2 = others-pass (require (shares_fit t shares) 26) _ h1 in
    let h3 = others-pass (require (is_name a.name) 9) _ h2 in
    let h4 = others-pass (require (not (is_found (lookup t a))) 10) _ h3 in
    record {
      first = first_passes _ _ h;
      shares-fit = passed (shares_fit t shares) 26 (omega arith) (first_passes _ _ h1);
      name-fits = passed (is_name a.name) 9 (omega arith) (first_passes _ _ h2);
      unheld-yet = not-true (is_found (lookup t a)) (passed (not (is_found (lookup t a))) 10 (omega arith) (first_passes _ _ h3));
      room-left = ltb-true (length (own_rows a.operator t)) (share a.operator shares) (passed _ 27 (omega arith) (first_passes _ _ h4));
    }

-- the shares
pub shares-few : (t : Table) (shares : List ℕ) → (length shares ≡ 16 → ⊥) → false ≡ shares_fit t shares
unfolding shares_fit
shares-few t shares h = sym (rw (ne_eqb (length shares) 16 h))

-- w is the length of a row, as the code has it
pub shares-sum-said : (t : Table) (shares : List ℕ) (sum w : ℕ) → w ≡ width t → length shares ≡ 16 → sum ≡ sum_of shares → leb sum (length t.bytes / w) ≡ shares_fit t shares
unfolding shares_fit rows
shares-sum-said t shares sum w v h e = rw (e, v, eq-eqb (length shares) 16 h, length-pieces (width t) (length t.bytes / width t) t.bytes)

pub shares-sixteen : (t : Table) (shares : List ℕ) → shares_fit t shares ≡ true → length shares ≡ 16
unfolding shares_fit
shares-sixteen t shares h = eqb-true (length shares) 16 (and_left (eqb (length shares) 16) _ h)

-- the sum, share by share
pub sum-none : (s : List ℕ) → sum_of (take 0 s) ≡ 0
unfolding sum_of
sum-none s = refl

pub sum_step : (s : List ℕ) (i : ℕ) → i < length s → sum_of (take (i + 1) s) ≡ sum_of (take i s) + get_or s i 0
unfolding sum_of
sum_step [] i h = absurd (omega arith)
sum_step (x ∷ s) zero h = omega arith
sum_step (x ∷ s) (suc i) h =
    let q : suc i + 1 ≡ suc (i + 1) = omega arith in
    rw q (omega (arith, sum_step s i (omega arith)))

-- WHAT AN ENTRY IS GIVEN

module _ (size flags limit : ℕ) where
  pub not-given : (1 ≤ size → size ≤ 100 → flags ≤ 3 → 1 ≤ limit → limit ≤ 8 → ⊥) → false ≡ within 1 100 size && (leb flags 3 && within 1 8 limit)
  not-given h =
      by-test (within 1 100 size && (leb flags 3 && within 1 8 limit))
      (λ e.
      let a : within 1 100 size ≡ true = and_left (within 1 100 size) _ e in
      let b : leb flags 3 && within 1 8 limit ≡ true = and_right (within 1 100 size) _ e in
      let w : within 1 8 limit ≡ true = and_right (leb flags 3) _ b in
      absurd (h (within_low 1 100 size a) (within-high 1 100 size a) (leb-true flags 3 (and_left (leb flags 3) _ b)) (within_low 1 8 limit w) (within-high 1 8 limit w)))
      (λ e. sym e)

  pub given-last : 1 ≤ size → size ≤ 100 → flags ≤ 3 → 1 ≤ limit → leb limit 8 ≡ within 1 100 size && (leb flags 3 && within 1 8 limit)
  given-last a b f l = rw (in_within 1 100 size a b, le-leb flags 3 f) (unfold within in rw (le-leb 1 limit l))

-- ADDING A W-APN: THE TESTS ON THE ROW

abbrev pub given : Entry → Bool
given e = within 1 100 (length e.label) && (leb e.flags 3 && within 1 8 e.limit)

abbrev pub new_label : List ℕ → Entry → Bool
new_label r e = every (λ l. not (same_label l e.label)) (labels (read_row r).entries)

-- what the code's tests say of the row, by the number and the room of its entries
module _ (r : List ℕ) (n : ℕ) (room : List ℕ) (same-n : n ≡ get_or (head r) 18 0) (same-room : room ≡ entries_room r) where
  pub form-said : sound r ≡ true → entries_form n room ≡ true
  form-said h = rw (same-n, same-room) (clauses r h).entries-form

  pub label-said : (e : Entry) {x : Bool} → x ≡ every (λ l. not (same_label l e.label)) (labels (read_entries n room)) → x ≡ new_label r e
  unfolding read_row
  label-said e q = q ∙ rw (same-n, same-room)

  pub sum_said : {x : ℕ} → x ≡ sum_of (limits (read_entries n room)) → x ≡ sum_of (limits (read_row r).entries)
  unfolding read_row
  sum_said q = q ∙ rw (same-n, same-room)

module _ (r : List ℕ) (e : Entry) (h : sound r ≡ true) where
  after-13 : entry_number r e
      ≡ first_of (require (given e) 14 ∷ require (new_label r e) 15 ∷ require (ltb (length (read_row r).entries) 4) 16
      ∷ require (leb (sum_of (limits (read_row r).entries) + e.limit) 8) 17 ∷ [])
  unfolding entry_number
  after-13 = passed_on (sound r) 13 _ h

  pub entry-14 : given e ≡ false → 14 ≡ entry_number r e
  entry-14 g = sym (after-13 ∙ failed (given e) 14 _ g (omega arith))

  after-14 : given e ≡ true → entry_number r e
      ≡ first_of (require (new_label r e) 15 ∷ require (ltb (length (read_row r).entries) 4) 16 ∷ require (leb (sum_of (limits (read_row r).entries) + e.limit) 8) 17 ∷ [])
  after-14 g = after-13 ∙ passed_on (given e) 14 _ g

  pub entry-15 : given e ≡ true → new_label r e ≡ false → 15 ≡ entry_number r e
  entry-15 g l = sym (after-14 g ∙ failed (new_label r e) 15 _ l (omega arith))

  after-15 : given e ≡ true → new_label r e ≡ true → entry_number r e
      ≡ first_of (require (ltb (length (read_row r).entries) 4) 16 ∷ require (leb (sum_of (limits (read_row r).entries) + e.limit) 8) 17 ∷ [])
  after-15 g l = after-14 g ∙ passed_on (new_label r e) 15 _ l

  pub entry-16 : given e ≡ true → new_label r e ≡ true → 4 ≤ length (read_row r).entries → 16 ≡ entry_number r e
  entry-16 g l n = sym (after-15 g l ∙ failed (ltb (length (read_row r).entries) 4) 16 _ (le-ltb (length (read_row r).entries) 4 n) (omega arith))

  after-16 : given e ≡ true → new_label r e ≡ true → length (read_row r).entries < 4
      → entry_number r e ≡ first_of (require (leb (sum_of (limits (read_row r).entries) + e.limit) 8) 17 ∷ [])
  after-16 g l n = after-15 g l ∙ passed_on (ltb (length (read_row r).entries) 4) 16 _ (lt-ltb (length (read_row r).entries) 4 n)

  pub entry-17 : given e ≡ true → new_label r e ≡ true → length (read_row r).entries < 4 → 8 < sum_of (limits (read_row r).entries) + e.limit → 17 ≡ entry_number r e
  entry-17 g l n s = sym (after-16 g l n ∙ failed (leb (sum_of (limits (read_row r).entries) + e.limit) 8) 17 [] (lt-leb (sum_of (limits (read_row r).entries) + e.limit) 8 s) (omega arith))

  pub entry-0 : given e ≡ true → new_label r e ≡ true → length (read_row r).entries < 4 → sum_of (limits (read_row r).entries) + e.limit ≤ 8 → 0 ≡ entry_number r e
  entry-0 g l n s = sym (after-16 g l n ∙ passed_on (leb (sum_of (limits (read_row r).entries) + e.limit) 8) 17 [] (le-leb (sum_of (limits (read_row r).entries) + e.limit) 8 s) ∙ none-failed)

pub entry-13 : (r : List ℕ) (e : Entry) → sound r ≡ false → 13 ≡ entry_number r e
unfolding entry_number
entry-13 r e h = sym (failed (sound r) 13 _ h (omega arith))

-- where no test fails, all passed
pub record Passed (r : List ℕ) (e : Entry) : Type 0 where
  pub is-sound : sound r ≡ true
  pub fine : given e ≡ true
  pub new-label : new_label r e ≡ true
  pub room : length (read_row r).entries < 4
  pub sum_room : sum_of (limits (read_row r).entries) + e.limit ≤ 8

pub entry-passed : (r : List ℕ) (e : Entry) → entry_number r e ≡ 0 → Passed r e
unfolding entry_number
entry-passed r e h =
    let h1 = others-pass (require (sound r) 13) _ h in
    let h2 = others-pass (require (given e) 14) _ h1 in
    let h3 = others-pass (require (new_label r e) 15) _ h2 in
    let h4 = others-pass (require (ltb (length (read_row r).entries) 4) 16) _ h3 in
    record {
      is-sound = passed (sound r) 13 (omega arith) (first_passes _ _ h);
      fine = passed (given e) 14 (omega arith) (first_passes _ _ h1);
      new-label = passed (new_label r e) 15 (omega arith) (first_passes _ _ h2);
      room = ltb-true (length (read_row r).entries) 4 (passed _ 16 (omega arith) (first_passes _ _ h3));
      sum_room = leb-true (sum_of (limits (read_row r).entries) + e.limit) 8 (passed _ 17 (omega arith) (first_passes _ _ h4));
    }

pub label-fits : (e : Entry) → given e ≡ true → length e.label ≤ 100
label-fits e g = within-high 1 100 (length e.label) (and_left (within 1 100 (length e.label)) _ g)

-- ADDING A W-APN TO A TABLE

module _ (t : Table) (a : Account) (e : Entry) where
  pub add-first : (n : ℕ) → n ≡ first_number t a.operator → (n ≡ 0 → ⊥) → left n t ≡ add t a e
  unfolding add pick
  add-first n q h =
      ap (λ (i : ℕ). left i t) q
      ∙ refused (first_number t a.operator) t t (λ z. h (q ∙ z))
      ∙ sym (rw (ne_eqb (first_number t a.operator) 0 (λ z. h (q ∙ z))))

  to_row : first_number t a.operator ≡ 0 → add_at (lookup t a) t e ≡ add t a e
  unfolding add pick
  to_row h = rw h

  pub add-12 : first_number t a.operator ≡ 0 → lookup t a ≡ nothing → left 12 t ≡ add t a e
  unfolding add_at
  add-12 h l = refused 12 t t (λ z. omega arith) ∙ ap (λ (f : Found). add_at f t e) (sym l) ∙ to_row h

  pub add-refused : (i n : ℕ) → first_number t a.operator ≡ 0 → lookup t a ≡ row i → n ≡ entry_number (row_at t i) e → (n ≡ 0 → ⊥) → left n t ≡ add t a e
  unfolding add_at
  add-refused i n h l q z =
      let said : left n t ≡ add_at (row i) t e =
      ap (λ (m : ℕ). left m t) q ∙ refused (entry_number (row_at t i) e) t _ (λ y. z (q ∙ y)) in
      said ∙ ap (λ (f : Found). add_at f t e) (sym l) ∙ to_row h

  pub add_done : (i n : ℕ) (after : Table) → first_number t a.operator ≡ 0 → lookup t a ≡ row i → n ≡ entry_number (row_at t i) e → n ≡ 0
      → after ≡ with_row t i (row_bytes t.form (with_entry e (read_row (row_at t i)))) → left 0 after ≡ add t a e
  unfolding add_at
  add_done i n after h l q z b =
      let said : left 0 after ≡ add_at (row i) t e = ap (left 0) b ∙ done (entry_number (row_at t i) e) t _ (sym q ∙ z) in
      said ∙ ap (λ (f : Found). add_at f t e) (sym l) ∙ to_row h

-- THE ROW THAT IS LENT: its length is that of its form, which is the table's

module _ (fm w : ℕ) (t : List ℕ) (i : ℕ) (v : w ≡ row_length fm) (h : row_length fm * i + row_length fm ≤ length t) where
  pub lent-full : length (take (w * i + w - w * i) (drop (w * i) t)) ≡ row_length (form_of (take (w * i + w - w * i) (drop (w * i) t)))
  lent-full = lent_length t (w * i) w (omega (arith, ap (λ (x : ℕ). x * i) v)) ∙ v ∙ ap row_length (sym (lent-form fm w t i v h))

  pub lent-is-row : is_form fm ≡ true → is_row (take (w * i + w - w * i) (drop (w * i) t)) ≡ true
  lent-is-row f = is-sized _ (record { form = ap is_form (lent-form fm w t i v h) ∙ f; size = lent-full })
