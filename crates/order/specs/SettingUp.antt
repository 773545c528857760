-- Set-up, of tables of either form: a refusal changes nothing; what is written is a sound row; the other rows stay.
use Rattle.std.specs.Prelude.{◌≡◌, true, false, List, ℕ, eqb, length}
use Rattle.octets.specs.Texts.{all_zero, zeros}
use Rattle.table.specs.TheTable.{Account, Entry, Subscriber, Table, row, first_row, rows, lookup, row_at, read_row}
use Rattle.table.specs.Soundness.{sound}
use Rattle.setup.specs.SetUp.{clear, enter, add}
use Rattle.changes.specs.Changes.{named, with_entry}

-- Any number but 0 leaves the table as it was.
abbrev pub ClearRefused : Type 0
ClearRefused = (t : Table) → eqb (clear t).number 0 ≡ false → (clear t).table ≡ t

abbrev pub EnterRefused : Type 0
EnterRefused = (t : Table) (shares : List ℕ) (a : Account) → eqb (enter t shares a).number 0 ≡ false → (enter t shares a).table ≡ t

abbrev pub AddRefused : Type 0
AddRefused = (t : Table) (a : Account) (e : Entry) → eqb (add t a e).number 0 ≡ false → (add t a e).table ≡ t

-- A cleared table is zero throughout.
abbrev pub ClearedZero : Type 0
ClearedZero = (t : Table) → (clear t).number ≡ 0 → (clear t).table ≡ record { form = t.form; bytes = zeros (length t.bytes) }

-- Row i is written, sound, and says this; every other row is as it was, and the table has its form.
pub record Wrote (t : Table) (i : ℕ) (says : Subscriber) (after : Table) : Type 0 where
  pub sound-row : sound (row_at after i) ≡ true
  pub row-says : read_row (row_at after i) ≡ says
  pub others-stay : (j : ℕ) → (j ≡ i → ⊥) → row_at after j ≡ row_at t j
  pub same-form : after.form ≡ t.form

-- Entering writes the first wholly zero row: the operator, the name and nothing else.
abbrev pub EnterWrites : Type 0
EnterWrites =
    (t : Table) (shares : List ℕ) (a : Account) (i : ℕ) → (enter t shares a).number ≡ 0 → first_row all_zero (rows t) ≡ row i → Wrote t i (named a) (enter t shares a).table

-- The account is then found in that row.
abbrev pub EnteredFound : Type 0
EnteredFound =
    (t : Table) (shares : List ℕ) (a : Account) (i : ℕ) → (enter t shares a).number ≡ 0 → first_row all_zero (rows t) ≡ row i → lookup (enter t shares a).table a ≡ row i

-- Adding writes the subscriber's row: what it said, and one entry more, as given.
abbrev pub AddWrites : Type 0
AddWrites =
    (t : Table) (a : Account) (e : Entry) (i : ℕ) → (add t a e).number ≡ 0 → lookup t a ≡ row i
    → Wrote t i (with_entry e (read_row (row_at t i))) (add t a e).table
