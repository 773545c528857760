-- The same sum as in the definition.
use mathlib.Core.Path.{refl}
use Rattle.table.specs.TheTable.{row_length}
use Rattle.table.proofs.row_length.Goals as goal

pub returns : goal.returns
unfolding row_length
returns c = refl
