-- What moving is for: nothing is lost on the way and back, every row says the same in the other form, and there is one answer.
use Rattle.std.specs.Prelude.{◌≡◌, false, true, List, ℕ, ◌<◌, eqb, length}
use Rattle.octets.specs.Texts.{all_zero}
use Rattle.table.specs.Answers.{lent}
use Rattle.table.specs.Soundness.{sound}
use Rattle.table.specs.TheTable.{read_row, row_at, rows, table_number}
use Rattle.moving.specs.Moving.{move, source}

-- THERE AND BACK

-- A table that was moved forwards moves back, into any room of its own length, to the very bytes.
abbrev pub ThereAndBack : Type 0
ThereAndBack =
    (bytes room back : List ℕ) → (move 2 bytes room).number ≡ 0 → length back ≡ length bytes
    → move 1 (move 2 bytes room).target back ≡ record { number = 0; target = bytes }

-- And one that was moved backwards moves forwards to the very bytes.
abbrev pub BackAndThere : Type 0
BackAndThere =
    (bytes room back : List ℕ) → (move 1 bytes room).number ≡ 0 → length back ≡ length bytes
    → move 2 (move 1 bytes room).target back ≡ record { number = 0; target = bytes }

-- WHAT IS SAID

-- Of a row and the row that it was moved to: both are wholly zero or neither is, and then the other is sound and says the same.
pub record SameSaid (row moved : List ℕ) : Type 0 where
  pub zero-alike : all_zero moved ≡ all_zero row
  pub moved-sound : all_zero row ≡ false → sound moved ≡ true
  pub says_same : all_zero row ≡ false → read_row moved ≡ read_row row

-- A move that is not refused leaves a table of the form moved to, with as many rows.
abbrev pub StaysATable : Type 0
StaysATable =
    (to : ℕ) (bytes room : List ℕ) → (move to bytes room).number ≡ 0
    → (table_number (lent to (move to bytes room).target) ≡ 0) × (length (rows (lent to (move to bytes room).target)) ≡ length (rows (source to bytes)))

-- Row i says there what it said here.
abbrev pub SaysTheSame : Type 0
SaysTheSame =
    (to : ℕ) (bytes room : List ℕ) (i : ℕ) → (move to bytes room).number ≡ 0 → i < length (rows (source to bytes))
    → SameSaid (row_at (source to bytes) i) (row_at (lent to (move to bytes room).target) i)

-- A move that is refused leaves the room as it was.
abbrev pub RefusedUnchanged : Type 0
RefusedUnchanged = (to : ℕ) (bytes room : List ℕ) → eqb (move to bytes room).number 0 ≡ false → (move to bytes room).target ≡ room

-- NO SECOND ANSWER

-- Any two outcomes, number and room, that meet what `moving::move_table` ensures for the same inputs are equal.
abbrev pub OneMove : Type 0
OneMove =
    (form : ℕ) (table target : List ℕ) (n m : ℕ) (t u : List ℕ)
    → record { number = n; target = t } ≡ move form table target
    → record { number = m; target = u } ≡ move form table target
    → (n ≡ m) × (t ≡ u)
