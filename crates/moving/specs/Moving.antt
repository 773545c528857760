-- Moving a table to the other form (W5): what each row says is laid out anew, into a room of the caller's.
use Rattle.std.specs.Prelude.{Bool, ◌||◌, ◌&&◌, List, [], ◌∷◌, ◌++◌, map, ℕ, ◌-◌, ◌*◌, eqb, length}
use Rattle.octets.specs.Choice.{first_of, pick, require}
use Rattle.octets.specs.Lists.{every}
use Rattle.octets.specs.Texts.{all_zero, zeros}
use Rattle.table.specs.Soundness.{sound}
use Rattle.table.specs.TheTable.{Access, Table, read_row, row_bytes, row_length, rows, table_number}

-- The form that a table has which is moved to form `to`: 2 for 1 and 1 for 2. What is no form comes from none.
unfoldable pub other_form : (to : ℕ) → ℕ
other_form to = 3 - to

unfoldable pub source : (to : ℕ) → (bytes : List ℕ) → Table
source to bytes = record { form = other_form to; bytes = bytes }

-- A row that can be moved: it is sound, or wholly zero.
unfoldable pub movable : List ℕ → Bool
movable r = sound r || all_zero r

-- A row that form 1 has room for: no access has a realm or a second policy. A third is never without a second.
unfoldable pub plain_access : Access → Bool
plain_access a = eqb (length a.realm) 0 && eqb (length a.policies.second) 0

unfoldable pub fits_form1 : List ℕ → Bool
fits_form1 r = every plain_access (read_row r).accesses

-- The row in the form `to`: a wholly zero row stays one, any other is the bytes of what it says.
unfoldable pub moved_row : (to : ℕ) → List ℕ → List ℕ
moved_row to r = pick (all_zero r) (zeros (row_length to)) (row_bytes to (read_row r))

unfoldable pub joined_rows : List (List ℕ) → List ℕ
joined_rows [] = []
joined_rows (r ∷ rs) = r ++ joined_rows rs

-- In order: 1, there is no such form, or the table is none of the other form; 19, the target has not exactly as many rows of the form `to`;
-- 20, a row is unsound and not wholly zero; and to form 1, 21: a row holds a realm or a second policy.
unfoldable pub move_number : (to : ℕ) → (bytes target : List ℕ) → ℕ
move_number to bytes target =
    let t : Table = source to bytes in
    first_of
    (table_number t
    ∷ require (eqb (length target) (row_length to * length (rows t))) 19
    ∷ require (every movable (rows t)) 20
    ∷ require (eqb to 2 || every fits_form1 (rows t)) 21
    ∷ [])

-- What a move leaves: its number, and the target, which a refusal leaves as it was. The table that is moved is only read.
pub record Moved : Type 0 where
  pub number : ℕ
  pub target : List ℕ

unfoldable pub move : (to : ℕ) → (bytes target : List ℕ) → Moved
move to bytes target =
    record {
      number = move_number to bytes target;
      target = pick (eqb (move_number to bytes target) 0) (joined_rows (map (moved_row to) (rows (source to bytes)))) target;
    }
