-- The bytes of a block as rows of 32: the plain sums of one column, as the code adds them up. That they give
-- Fletcher-16 is `columns-right` of proofs/Columns.
use Rattle.std.specs.Prelude.{List, ℕ, zero, suc, ◌+◌, ◌*◌, get_or, drop}

-- The bytes of column j in n rows.
unfoldable pub column_first : ℕ → List ℕ → ℕ → ℕ
column_first zero t j = 0
column_first (suc n) t j = get_or t j 0 + column_first n (drop 32 t) j

-- The same, each as often as there are rows behind its own.
unfoldable pub column_before : ℕ → List ℕ → ℕ → ℕ
column_before zero t j = 0
column_before (suc n) t j = n * get_or t j 0 + column_before n (drop 32 t) j
