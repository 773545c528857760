-- Set-up: a table is cleared, a subscriber enters it, a subscriber gets one more access point name (W-APN).
use Rattle.std.specs.Prelude.{Bool, ◌&&◌, not, List, [], ◌∷◌, ◌++◌, ℕ, ◌+◌, eqb, leb, ltb, length, get_or}
use Rattle.octets.specs.Choice.{first_of, pick, require, within}
use Rattle.octets.specs.Lists.{every, sum_of}
use Rattle.octets.specs.Texts.{all_zero, zeros}
use Rattle.table.specs.Soundness.{is_name, labels, limits, same_label, sound}
use Rattle.table.specs.TheTable.{Account, Entry, Found, Table, first_number, first_row, is_found, lookup, nothing, own_rows, read_row, row, row_at, row_bytes, rows, table_number, with_row}
use Rattle.changes.specs.Changes.{named, with_entry}

-- What a set-up operation leaves: its number, 0 on success, and the table. A refusal changes nothing.
pub record SetUp : Type 0 where
  pub number : ℕ
  pub table : Table

-- A table afterwards, if the number is 0; as it was, if not.
unfoldable pub leaving : ℕ → (before after : Table) → SetUp
leaving n before after = record { number = n; table = pick (eqb n 0) after before }

-- CLEARING: number 1, else the whole table is zero.
unfoldable pub clear : Table → SetUp
clear t = leaving (table_number t) t (record { form = t.form; bytes = zeros (length t.bytes) })

-- ENTERING

-- The shares of the operators: sixteen numbers, which come to no more than the table's rows.
unfoldable pub shares_fit : (t : Table) → (shares : List ℕ) → Bool
shares_fit t shares = eqb (length shares) 16 && leb (sum_of shares) (length (rows t))

unfoldable pub share : (operator : ℕ) → (shares : List ℕ) → ℕ
share o shares = get_or shares o 0

-- In order: 1; 33; 26, the shares are not sixteen or come to too much; 9, the name is not 1 to 15 digits; 10, the name is held with
-- this operator, by a row that the lookup finds; 27, the operator's own rows fill its share.
abbrev pub share_tests : (t : Table) → (shares : List ℕ) → Account → List ℕ
share_tests t shares a =
    first_number t a.operator
    ∷ require (shares_fit t shares) 26
    ∷ require (is_name a.name) 9
    ∷ require (not (is_found (lookup t a))) 10
    ∷ require (ltb (length (own_rows a.operator t)) (share a.operator shares)) 27
    ∷ []

-- Behind them 11, no row is wholly zero.
unfoldable pub enter_number : (t : Table) → (shares : List ℕ) → Account → ℕ
enter_number t shares a = first_of (share_tests t shares a ++ (require (is_found (first_row all_zero (rows t))) 11 ∷ []))

unfoldable pub with_row_at : Found → (t : Table) → (r : List ℕ) → Table
with_row_at (row i) t r = with_row t i r
with_row_at nothing t r = t

-- It takes the first wholly zero row.
unfoldable pub enter : (t : Table) → (shares : List ℕ) → Account → SetUp
enter t shares a = leaving (enter_number t shares a) t (with_row_at (first_row all_zero (rows t)) t (row_bytes t.form (named a)))

-- ADDING A W-APN

-- The tests on the row, in order: 13, it is unsound; 14, the label is not 1 to 100 bytes, the limit not 1 to 8 or the
-- flags are over 3; 15, the label is already there; 16, four entries are there; 17, the limits would sum to over 8.
unfoldable pub entry_number : (r : List ℕ) → Entry → ℕ
entry_number r e =
    let es : List Entry = (read_row r).entries in
    first_of
    (require (sound r) 13
    ∷ require (within 1 100 (length e.label) && (leb e.flags 3 && within 1 8 e.limit)) 14
    ∷ require (every (λ l. not (same_label l e.label)) (labels es)) 15
    ∷ require (ltb (length es) 4) 16
    ∷ require (leb (sum_of (limits es) + e.limit) 8) 17
    ∷ [])

-- 12: no such subscriber.
unfoldable pub add_at : Found → (t : Table) → Entry → SetUp
add_at nothing t e = leaving 12 t t
add_at (row i) t e = leaving (entry_number (row_at t i) e) t (with_row t i (row_bytes t.form (with_entry e (read_row (row_at t i)))))

-- 1 and 33 come first.
unfoldable pub add : (t : Table) → Account → Entry → SetUp
add t a e = pick (eqb (first_number t a.operator) 0) (add_at (lookup t a) t e) (leaving (first_number t a.operator) t t)

-- A number and a table, as an operation leaves them.
abbrev pub left : ℕ → Table → SetUp
left n t = record { number = n; table = t }
