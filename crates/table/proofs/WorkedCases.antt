-- Case 8, computed.
use mathlib.Core.Path.{◌≡◌, refl}
use mathlib.Core.Bool.{true}
use Rattle.octets.specs.Texts.{same, zeros}
use Rattle.table.specs.TheTable.{sums_from}
use Rattle.table.specs.WorkedCases.{case8}

pub worked : case8 ≡ true
unfolding case8 same zeros sums_from
worked = refl
