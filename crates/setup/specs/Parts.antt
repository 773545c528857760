-- What an inner function of set-up says.
use Rattle.std.specs.Prelude.{List, ℕ}
use Rattle.octets.specs.Choice.{first_of}
use Rattle.table.specs.TheTable.{Account, Table}
use Rattle.setup.specs.SetUp.{share_tests}

-- The numbers of entering that come before 11.
unfoldable pub share_number : (t : Table) → (shares : List ℕ) → Account → ℕ
share_number t shares a = first_of (share_tests t shares a)
