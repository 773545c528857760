-- One row of a table is replaced: where a Session-Id stands in the table, by where it stands in that row and in the others.
use mathlib.Core.Path.{◌≡◌, refl, sym, ap, ◌∙◌}
use mathlib.Core.Bool.{Bool, true, false, ◌||◌}
use mathlib.Core.List.{List, []}
use Prim.Native.Nat.{ℕ, zero, suc, ◌-◌, ◌*◌, ◌/◌, ◌<◌, ◌≤◌}
use borrow.Author.Tests.{eq-eqb, leb-true}
use lib.Dec.{eqb}
use lib.ListN.{length, get_or, take}
use Rattle.octets.specs.Lists.{keep}
use Rattle.octets.specs.Texts.{pieces, zeros}
use Rattle.octets.proofs.Lists.{and_left, and_right, both, by-test}
use Rattle.octets.proofs.Pieces.{drop-zeros, length-pieces}
use Rattle.table.specs.TheTable.{Access, Subscriber, Table, head, read_row, row_at, row_bytes, row_length, rows, table_number, width, with_row}
use Rattle.table.specs.Answers.{lent}
use Rattle.table.specs.Soundness.{has_form, head_form, is_row, sound}
use Rattle.table.proofs.Bytes.{length-row}
use Rattle.table.proofs.Rows.{length-with_row, nth-row, rows-with, whole-rows}
use Rattle.agreement.specs.TheBoardAgrees.{some, stands_in, stands_in_at, stands, stands_at, stands_once}
use Rattle.agreement.proofs.Some.{alone, below, not-both, or-false, others, others-set, some-any, some_at, some-imp}
use Rattle.agreement.proofs.Accesses.{Became, Opened, at, has}

-- A ROW REPLACED

pub record Replaced (t u : Table) (i : ℕ) : Type 0 where
  pub there : i < length (rows t)
  pub there-after : i < length (rows u)
  pub was : get_or (rows t) i [] ≡ row_at t i
  pub is : get_or (rows u) i [] ≡ row_at u i
  pub rest : others (rows u) i ≡ others (rows t) i

pub replaced : (t : Table) (i : ℕ) (s : Subscriber) → table_number t ≡ 0 → i < length t.bytes / width t → Replaced t (with_row t i (row_bytes t.form s)) i
unfolding rows with_row
replaced t i s good l =
    let n : ℕ = length t.bytes / width t in
    let r : List ℕ = row_bytes t.form s in
    let u : Table = with_row t i r in
    let full : length r ≡ width t = length-row t.form s in
    let size : length t.bytes ≡ width t * n = whole-rows t good in
    let kept : length u.bytes ≡ length t.bytes = length-with_row n t size i l r full in
    let same_count : length u.bytes / width t ≡ n = ap (λ (m : ℕ). m / width t) kept in
    record {
      there = rw (length-pieces (width t) n t.bytes) l;
      there-after = rw (same_count, length-pieces (width t) n u.bytes) l;
      was = nth-row n t size i l;
      is = rw same_count (nth-row n u (kept ∙ size) i l);
      rest = rw (same_count, rows-with n t size i l r full) (others-set (pieces (width t) n t.bytes) i r);
    }

-- WHERE A SESSION-ID STANDS

at_in : (session : List ℕ) (k : ℕ) (r : List ℕ) → stands_in_at session k r ≡ true → stands_in session r ≡ true
unfolding stands_in_at stands_in
at_in session k r h =
    both (and_left (sound r) _ h) (some-imp (at session k) (has session) _ (λ a p. and_left (has session a) _ p) (and_right (sound r) _ h))

-- one that stands at no place of a row does not stand in it, and so with a table
access-at-none : (session : List ℕ) (a : Access) → ((k : ℕ) → at session k a ≡ false) → has session a ≡ false
access-at-none session a h =
    by-test (has session a)
    (λ e. let own : at session a.place a ≡ true = both e (eq-eqb a.place a.place refl) in not-both _ own (h a.place))
    (λ e. e)

row-at-none : (session r : List ℕ) → ((k : ℕ) → stands_in_at session k r ≡ false) → stands_in session r ≡ false
unfolding stands_in_at stands_in
row-at-none session r h =
    by-test (sound r)
    (λ e. rw e (some-any (at session) (has session) _ (access-at-none session) (λ k. rw e at (h k))))
    (λ e. rw e)

pub at_none : (t : Table) (session : List ℕ) → ((k : ℕ) → stands_at t session k ≡ false) → stands t session ≡ false
unfolding stands_at stands
at_none t session h = some-any (stands_in_at session) (stands_in session) (rows t) (row-at-none session) h

pub stands_at_lem : (t : Table) (session : List ℕ) (k : ℕ) → stands_at t session k ≡ true → stands t session ≡ true
unfolding stands_at stands
stands_at_lem t session k h = some-imp (stands_in_at session k) (stands_in session) (rows t) (at_in session k) h

-- NOTHING STANDS IN ZEROS

-- a sound row begins with 1
begins-1 : (r : List ℕ) → sound r ≡ true → eqb (get_or (head r) 0 0) 1 ≡ true
unfolding sound has_form head_form
begins-1 r h =
    let form : has_form r ≡ true = and_left (has_form r) _ h in
    let begins : head_form (head r) ≡ true = and_left (head_form (head r)) _ (and_right (is_row r) _ form) in
    and_left (eqb (get_or (head r) 0 0) 1) _ begins

first-zero : (n m : ℕ) → eqb (get_or (head (take n (zeros m))) 0 0) 1 ≡ false
unfolding zeros
first-zero zero m = refl
first-zero (suc n) zero = refl
first-zero (suc n) (suc m) = refl

none-in-row : (session : List ℕ) (n m : ℕ) → stands_in session (take n (zeros m)) ≡ false
unfolding stands_in
none-in-row session n m =
    let unsound : sound (take n (zeros m)) ≡ false = by-test (sound (take n (zeros m))) (λ e. not-both _ (begins-1 _ e) (first-zero n m)) (λ e. e) in
    rw unsound

none-in-pieces : (session : List ℕ) (w n m : ℕ) → some (stands_in session) (pieces w n (zeros m)) ≡ false
unfolding some pieces
none-in-pieces session w zero m = refl
none-in-pieces session w (suc n) m = rw (none-in-row session w m, drop-zeros w m) (none-in-pieces session w n (m - w))

pub none-in-zeros : (fm n : ℕ) (session : List ℕ) → stands (lent fm (zeros n)) session ≡ false
unfolding stands rows
none-in-zeros fm n session = none-in-pieces session (row_length fm) (length (zeros n) / row_length fm) n

-- in a sound row, by its accesses
in-sound : (session r : List ℕ) → sound r ≡ true → stands_in session r ≡ some (has session) (read_row r).accesses
unfolding stands_in
in-sound session r h = rw h

at-sound : (session : List ℕ) (k : ℕ) (r : List ℕ) → sound r ≡ true → stands_in_at session k r ≡ some (at session k) (read_row r).accesses
unfolding stands_in_at
at-sound session k r h = rw h

module _ (t u : Table) (i : ℕ) (c : Replaced t u i) (was-sound : sound (row_at t i) ≡ true) (is-sound : sound (row_at u i) ≡ true) where
  abbrev before : List Access
  before = (read_row (row_at t i)).accesses

  abbrev now' : List Access
  now' = (read_row (row_at u i)).accesses

  -- in the row, or in one of the others
  split-before : (session : List ℕ) (k : ℕ) → stands_at t session k ≡ some (at session k) before || some (stands_in_at session k) (others (rows t) i)
  unfolding stands_at
  split-before session k =
      some_at (stands_in_at session k) (rows t) i [] c.there
      ∙ ap (λ (b : Bool). b || some (stands_in_at session k) (others (rows t) i)) (ap (stands_in_at session k) c.was ∙ at-sound session k (row_at t i) was-sound)

  split_after : (session : List ℕ) (k : ℕ) → stands_at u session k ≡ some (at session k) now' || some (stands_in_at session k) (others (rows t) i)
  unfolding stands_at
  split_after session k =
      some_at (stands_in_at session k) (rows u) i [] c.there-after
      ∙ ap (λ (b : Bool). b || some (stands_in_at session k) (others (rows u) i)) (ap (stands_in_at session k) c.is ∙ at-sound session k (row_at u i) is-sound)
      ∙ ap (λ (l : List (List ℕ)). some (at session k) now' || some (stands_in_at session k) l) c.rest

  -- one that stands in the row, and in no two, stands in no other
  lone-before : (session : List ℕ) → some (has session) before ≡ true → stands_once t session ≡ true → (k : ℕ) → some (stands_in_at session k) (others (rows t) i) ≡ false
  unfolding stands_once
  lone-before session h once k =
      let own : stands_in session (get_or (rows t) i []) ≡ true = ap (stands_in session) c.was ∙ in-sound session (row_at t i) was-sound ∙ h in
      let few : length (keep (stands_in session) (rows t)) ≤ 1 = leb-true _ 1 once in
      alone (stands_in_at session k) (stands_in session) (rows t) i [] (at_in session k) c.there few own

  lone-after : (session : List ℕ) → some (has session) now' ≡ true → stands_once u session ≡ true → (k : ℕ) → some (stands_in_at session k) (others (rows t) i) ≡ false
  unfolding stands_once
  lone-after session h once k =
      let own : stands_in session (get_or (rows u) i []) ≡ true = ap (stands_in session) c.is ∙ in-sound session (row_at u i) is-sound ∙ h in
      let few : length (keep (stands_in session) (rows u)) ≤ 1 = leb-true _ 1 once in
      ap (some (stands_in_at session k)) (sym c.rest)
      ∙ alone (stands_in_at session k) (stands_in session) (rows u) i [] (at_in session k) c.there-after few own

-- WHAT BECAME OF A SESSION-ID IN THE TABLE

pub record Turned (t u : Table) (session : List ℕ) (gone : Bool) : Type 0 where
  pub left : gone ≡ true → stands_once t session ≡ true → (k : ℕ) → stands_at u session k ≡ false
  pub rest : gone ≡ false → (k : ℕ) → stands_at u session k ≡ stands_at t session k

pub record New (t u : Table) (session : List ℕ) (place : ℕ) : Type 0 where
  pub nowhere : (k : ℕ) → stands_at t session k ≡ false
  pub there : (k : ℕ) → stands_at u session k ≡ eqb place k

module _ (t u : Table) (i : ℕ) (c : Replaced t u i) (was-sound : sound (row_at t i) ≡ true) (is-sound : sound (row_at u i) ≡ true) where
  pub turned : (session : List ℕ) (gone : Bool) → Became session gone (read_row (row_at t i)).accesses (read_row (row_at u i)).accesses → Turned t u session gone
  turned session gone b =
      record {
        left = λ g once k. split_after t u i c was-sound is-sound session k ∙ rw (b.left g k, lone-before t u i c was-sound is-sound session (b.stood g) once k);
        rest = λ g k. split_after t u i c was-sound is-sound session k ∙ rw (b.rest g k) (sym (split-before t u i c was-sound is-sound session k));
      }

  pub new : (session : List ℕ) (place : ℕ) (cut : List Access) → Opened session place cut (read_row (row_at t i)).accesses (read_row (row_at u i)).accesses
      → stands_once u session ≡ true → New t u session place
  new session place cut o once =
      let stands : some (has session) (read_row (row_at u i)).accesses ≡ true =
      some-imp (at session place) (has session) _ (λ a p. and_left (has session a) _ p) (o.own place ∙ eq-eqb place place refl) in
      let none : (k : ℕ) → some (stands_in_at session k) (others (rows t) i) ≡ false = lone-after t u i c was-sound is-sound session stands once in
      let not_at : (k : ℕ) → some (at session k) (read_row (row_at t i)).accesses ≡ false =
      λ k. below _ _ (some-imp (at session k) (has session) _ (λ a p. and_left (has session a) _ p)) o.fresh in
      record {
        nowhere = λ k. split-before t u i c was-sound is-sound session k ∙ rw (not_at k, none k);
        there = λ k. split_after t u i c was-sound is-sound session k ∙ rw (o.own k, none k) (or-false (eqb place k));
      }
