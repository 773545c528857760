-- The part lent is the label, of the length in the first byte.
use native.Mathlib.Omega.{arith}
use Rattle.row.proofs.Places.{label-lent}
use Rattle.table.specs.TheTable.{read_entry}
use Rattle.row.proofs.label.Goals as goal

pub returns : goal.returns
unfolding read_entry
returns c =
    let given = c.args in
    let asked = c.requires in
    let size = c.from in
    label-lent given.room.now given.i size.result size.ensures (omega (arith, size.ensures, asked.2))
