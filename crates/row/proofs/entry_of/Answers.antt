-- Byte 1 of the first block.
use native.Mathlib.Omega.{arith}
use Rattle.row.proofs.Places.{byte_at}
use Rattle.table.specs.TheTable.{access_at, read_access}
use Rattle.row.proofs.entry_of.Goals as goal

pub returns : goal.returns
unfolding access_at read_access
returns c =
    let given = c.args in
    let start-was = c.start in
    let pre-was = c.requires in
    byte_at given.r.now given.k start-was.result 1 pre-was.0 start-was.ensures.0 (omega arith)
