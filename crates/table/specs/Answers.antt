-- What the answers of the code say, in the paper's terms.
use Rattle.std.specs.Prelude.{ℕ, ◌+◌, ◌*◌, List, Option, Some, None}
use Rattle.table.specs.TheTable.{block_length, place_length, most_rows, Found, Table, row, nothing, row_length}

-- The row that was found, or none.
abbrev pub found : Option ℕ → Found
found (Some i) = row i
found None = nothing

-- A table, from what is lent.
abbrev pub lent : (form : ℕ) → (bytes : List ℕ) → Table
lent form bytes = record { form = form; bytes = bytes }

-- The bytes of the longest row, one of form 2, and of the longest table.
abbrev pub row_most : ℕ
row_most = block_length + 8 * place_length 2

abbrev pub table_most : ℕ
table_most = most_rows * row_most

-- The byte behind the row that was found; 0 where none was.
abbrev pub row_end : (form : ℕ) → Option ℕ → ℕ
row_end form (Some i) = row_length form * i + row_length form
row_end form None = 0
