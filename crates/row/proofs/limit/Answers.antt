-- Byte 102 of the entry.
use mathlib.Core.Path.{sym}
use native.Mathlib.Omega.{arith}
use Rattle.row.proofs.Places.{entry-byte}
use Rattle.table.specs.TheTable.{read_entry}
use Rattle.row.proofs.limit.Goals as goal

pub returns : goal.returns
unfolding read_entry
returns c =
    let given = c.args in
    sym (entry-byte given.room.now given.i 102 (omega arith))
