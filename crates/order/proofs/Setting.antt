-- Set-up: what is written is sound, since the numbers test what a sound row needs.
use mathlib.Core.Path.{◌≡◌, refl, sym, ap, ◌∙◌}
use mathlib.Core.Bool.{Bool, true, false, ◌&&◌}
use mathlib.Core.List.{List, [], ◌∷◌, ◌++◌}
use Prim.Native.Nat.{ℕ, zero, suc, ◌+◌, ◌*◌, ◌/◌, ◌≤◌, ◌<◌}
use native.Mathlib.Omega.{arith}
use borrow.Author.Tests.{eq-eqb, eqb-true, leb-true, ltb-true, not-true}
use lib.Dec.{eqb}
use lib.ListN.{length, set, take}
use lib.Seq.{take_at, take-take}
use Rattle.octets.specs.Choice.{pick, within}
use Rattle.octets.specs.Lists.{sum_of}
use Rattle.octets.specs.Texts.{all_zero, filled, pieces, zeros}
use Rattle.octets.proofs.Choice.{first_passes, others-pass, passed}
use Rattle.octets.proofs.Lists.{and_left, both, by-test, same_refl, within-high}
use Rattle.octets.proofs.Pieces.{length-pieces}
use Rattle.table.specs.TheTable.{Account, Entry, Subscriber, Table, form_of, first_number, has_name, Found, row, nothing, later, is_found, first_row, rows, lookup, is_row_of, row_at, width, with_row, table_number, read_row, row_bytes}
use Rattle.table.specs.Soundness.{is_name, limits, sound}
use Rattle.table.proofs.Bytes.{length-row, read-row}
use Rattle.table.proofs.Good.{Good, good_entry}
use Rattle.table.proofs.Rows.{first-operator, form_in, row_at-form, first-table, form-with, found-by, length-with_row, row_other, row-with, rows-with, whole-rows}
use Rattle.table.proofs.Sound.{says-good, sound-row}
use Rattle.setup.specs.SetUp.{SetUp, leaving, clear, enter, enter_number, add, add_at, entry_number, with_row_at}
use Rattle.changes.specs.Changes.{named, with_entry}
use Rattle.changes.proofs.Stays.{MayEnter}
use Rattle.changes.proofs.Steps.{row-account}
use Rattle.changes.proofs.Keep.{good-named, good-entered}
use Rattle.order.specs.SettingUp.{Wrote, ClearRefused, EnterRefused, AddRefused, ClearedZero, EnterWrites, EnteredFound, AddWrites}
use Rattle.order.proofs.Rest.{in_table}

-- REFUSALS

leaving-refused : (n : ℕ) (t u : Table) → eqb (leaving n t u).number 0 ≡ false → (leaving n t u).table ≡ t
unfolding leaving pick
leaving-refused n t u h = rw h

pub leaving-done : (n : ℕ) (t u : Table) → n ≡ 0 → (leaving n t u).table ≡ u
unfolding leaving pick
leaving-done n t u h = rw h

pub leaving-number : (n : ℕ) (t u : Table) → (leaving n t u).number ≡ n
unfolding leaving
leaving-number n t u = refl

pub clear-refused : ClearRefused
unfolding clear
clear-refused t h = leaving-refused _ t _ h

pub cleared-zero : ClearedZero
unfolding clear
cleared-zero t h = leaving-done _ t _ (sym (leaving-number (table_number t) t _) ∙ h)

pub enter-refused : EnterRefused
unfolding enter
enter-refused t shares a h = leaving-refused _ t _ h

at-refused : (F : Found) (t : Table) (e : Entry) → eqb (add_at F t e).number 0 ≡ false → (add_at F t e).table ≡ t
unfolding add_at
at-refused nothing t e h = leaving-refused 12 t t h
at-refused (row i) t e h = leaving-refused _ t _ h

pub add-refused : AddRefused
unfolding add pick
add-refused t a e h =
    by-test (eqb (first_number t a.operator) 0)
    (λ z. rw z (at-refused (lookup t a) t e (rw z at h)))
    (λ z. rw z (leaving-refused (first_number t a.operator) t t (rw z at h)))

-- A GOOD SUBSCRIBER IS WRITTEN

module _ (t : Table) (good : table_number t ≡ 0) (i : ℕ) (there : i < length t.bytes / width t) (s : Subscriber) (g : Good t.form s) where
  wrote : Wrote t i s (with_row t i (row_bytes t.form s))
  wrote =
      let n : ℕ = length t.bytes / width t in
      let r : List ℕ = row_bytes t.form s in
      let at : row_at (with_row t i r) i ≡ r = row-with n t (whole-rows t good) i there r (length-row t.form s) in
      record {
        sound-row = rw at (sound-row t.form s g);
        row-says = rw at (read-row t.form s g);
        others-stay = λ j ne. row_other n t (whole-rows t good) i there r (length-row t.form s) j ne;
        same-form = form-with t i r;
      }

-- ENTERING

module _ (t : Table) (shares : List ℕ) (a : Account) (h : enter_number t shares a ≡ 0) where
  enter-first : first_number t a.operator ≡ 0
  unfolding enter_number
  enter-first = first_passes _ _ h

  pub enter-rows : table_number t ≡ 0
  enter-rows = first-table t a.operator enter-first

  enter-name : is_name a.name ≡ true
  unfolding enter_number
  enter-name = passed _ 9 (omega arith) (first_passes _ _ (others-pass _ _ (others-pass _ _ h)))

  enter-good : Good t.form (named a)
  enter-good = good-named t.form a (form_in t enter-rows) enter-name (first-operator t a.operator enter-first)

pub enter-writes : EnterWrites
unfolding enter with_row_at
enter-writes t shares a i h e =
    let n : enter_number t shares a ≡ 0 = sym (leaving-number (enter_number t shares a) t _) ∙ h in
    rw (leaving-done (enter_number t shares a) t _ n, e)
    (wrote t (enter-rows t shares a n) i (in_table all_zero t i e) (named a) (enter-good t shares a n))

-- ADDING

sum-snoc : (ls : List ℕ) (x : ℕ) → sum_of (ls ++ (x ∷ [])) ≡ sum_of ls + x
unfolding sum_of
sum-snoc [] x = omega arith
sum-snoc (l ∷ ls) x = omega (arith, sum-snoc ls x)

module _ (r : List ℕ) (e : Entry) (h : entry_number r e ≡ 0) where
  entry-sound : sound r ≡ true
  unfolding entry_number
  entry-sound = passed _ 13 (omega arith) (first_passes _ _ h)

  may-enter : MayEnter (read_row r).entries e
  unfolding entry_number good_entry
  may-enter =
      let h1 = others-pass _ _ h in
      let h2 = others-pass _ _ h1 in
      let h3 = others-pass _ _ h2 in
      let h4 = others-pass _ _ h3 in
      record {
        fine = passed _ 14 (omega arith) (first_passes _ _ h1);
        new-label = passed _ 15 (omega arith) (first_passes _ _ h2);
        room = ltb-true (length (read_row r).entries) 4 (passed _ 16 (omega arith) (first_passes _ _ h3));
        sum_room = rw (sum-snoc (limits (read_row r).entries) e.limit) (leb-true _ 8 (passed _ 17 (omega arith) (first_passes _ _ h4)));
      }

pub add-first : (t : Table) (a : Account) (e : Entry) → (add t a e).number ≡ 0 → first_number t a.operator ≡ 0
unfolding add pick leaving
add-first t a e h =
    by-test (eqb (first_number t a.operator) 0)
    (λ z. eqb-true (first_number t a.operator) 0 z)
    (λ z. rw z at h)

pub add_is : (t : Table) (a : Account) (e : Entry) (i : ℕ) → first_number t a.operator ≡ 0 → lookup t a ≡ row i
    → add t a e ≡ leaving (entry_number (row_at t i) e) t (with_row t i (row_bytes t.form (with_entry e (read_row (row_at t i)))))
unfolding add add_at pick
add_is t a e i z f = rw (z, f)

found_in : (t : Table) (a : Account) (i : ℕ) → lookup t a ≡ row i → i < length t.bytes / width t
unfolding lookup
found_in t a i f = in_table (is_row_of a) t i f

pub add-writes : AddWrites
add-writes t a e i h f =
    let z : first_number t a.operator ≡ 0 = add-first t a e h in
    let u : Table = with_row t i (row_bytes t.form (with_entry e (read_row (row_at t i)))) in
    let is : add t a e ≡ leaving (entry_number (row_at t i) e) t u = add_is t a e i z f in
    let n : entry_number (row_at t i) e ≡ 0 = sym (leaving-number (entry_number (row_at t i) e) t u) ∙ ap (λ (x : SetUp). x.number) (sym is) ∙ h in
    let good : table_number t ≡ 0 = first-table t a.operator z in
    let form : form_of (row_at t i) ≡ t.form = row_at-form t i good (found_in t a i f) in
    let said : Good t.form (read_row (row_at t i)) = rw form at (says-good (row_at t i) (entry-sound (row_at t i) e n)) in
    rw (is, leaving-done (entry_number (row_at t i) e) t u n)
    (wrote t good i (found_in t a i f) (with_entry e (read_row (row_at t i))) (good-entered e (read_row (row_at t i)) (may-enter (row_at t i) e n) said))

-- A NAME THAT WAS ENTERED IS FOUND

found-later : (F : Found) → is_found (later F) ≡ is_found F
unfolding is_found later
found-later nothing = refl
found-later (row i) = refl

still : (f : List ℕ → Bool) (rs : List (List ℕ)) → is_found (later (first_row f rs)) ≡ false → is_found (first_row f rs) ≡ false
still f rs h = sym (found-later (first_row f rs)) ∙ h

-- a row that passes, put among rows of which none does
found-put : (f : List ℕ → Bool) (rs : List (List ℕ)) (i : ℕ) (r : List ℕ) → is_found (first_row f rs) ≡ false → f r ≡ true → i < length rs → first_row f (set rs i r) ≡ row i
unfolding first_row pick later is_found
found-put f [] i r n p h = absurd (omega arith)
found-put f (x ∷ rs) zero r n p h = rw p
found-put f (x ∷ rs) (suc i) r n p h =
    by-test (f x)
    (λ e. let z : true ≡ false = rw e at n in let y : ◌≡◌ {A = ℕ} 0 1 = cc in absurd (omega arith))
    (λ e. rw (e, found-put f rs i r (still f rs (rw e at n)) p (omega arith)))

-- the new row has the name
name-part : (name : List ℕ) → length name ≤ 15 → take (length name) (filled name 15) ≡ name
unfolding filled
name-part name h = take-take (length name) 15 (name ++ zeros 15) h ∙ take_at name (zeros 15) (length name) refl

front-found : (a : Account) → is_name a.name ≡ true → eqb a.operator a.operator && has_name a.name (1 ∷ length a.name ∷ filled a.name 15) ≡ true
unfolding has_name is_name
front-found a h =
    let name : List ℕ = a.name in
    let w : within 1 15 (length name) ≡ true = and_left (within 1 15 (length name)) _ h in
    both (eq-eqb a.operator a.operator refl)
    (both w (both (eq-eqb (length name) (length name) refl) (rw (name-part name (within-high 1 15 _ w)) (same_refl name))))

new-found : (fm : ℕ) (a : Account) → is_name a.name ≡ true → is_row_of a (row_bytes fm (named a)) ≡ true
unfolding named
new-found fm a h = found-by a (row_bytes fm (named a)) _ (row-account fm (named a)) ∙ front-found a h

module _ (t : Table) (shares : List ℕ) (a : Account) (h : enter_number t shares a ≡ 0) where
  pub not-held : is_found (lookup t a) ≡ false
  unfolding enter_number
  not-held = not-true (is_found (lookup t a)) (passed _ 10 (omega arith) (first_passes _ _ (others-pass _ _ (others-pass _ _ (others-pass _ _ h)))))

  look-after : (i : ℕ) → i < length t.bytes / width t → lookup (with_row t i (row_bytes t.form (named a))) a ≡ row i
  unfolding lookup rows
  look-after i l =
      let n : ℕ = length t.bytes / width t in
      let size : length t.bytes ≡ width t * n = whole-rows t (enter-rows t shares a h) in
      let r : List ℕ = row_bytes t.form (named a) in
      let u : Table = with_row t i r in
      rw (form-with t i r)
      (ap (λ (k : ℕ). first_row (is_row_of a) (pieces (width t) (k / width t) u.bytes)) (length-with_row n t size i l r (length-row t.form (named a)))
      ∙ ap (first_row (is_row_of a)) (rows-with n t size i l r (length-row t.form (named a)))
      ∙ found-put (is_row_of a) (pieces (width t) n t.bytes) i r not-held (new-found t.form a (enter-name t shares a h)) (rw (length-pieces (width t) n t.bytes) l))

pub entered-found : EnteredFound
unfolding enter with_row_at
entered-found t shares a i h e =
    let n : enter_number t shares a ≡ 0 = sym (leaving-number (enter_number t shares a) t _) ∙ h in
    rw (leaving-done (enter_number t shares a) t _ n, e) (look-after t shares a n i (in_table all_zero t i e))
