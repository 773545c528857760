-- The part lent is the text from byte 8 on, of the length in byte 2.
use native.Mathlib.Omega.{arith}
use Prim.Native.Nat.{◌+◌}
use Rattle.row.proofs.Places.{text-lent}
use Rattle.table.specs.TheTable.{access_at, read_access}
use Rattle.row.proofs.session.Goals as goal

pub returns : goal.returns
unfolding access_at read_access
returns c =
    let given = c.args in
    let start-was = c.start-from in
    let from-was = c.from in
    let pre-was = c.requires in
    text-lent given.r.now given.k start-was.result 8 2 from-was.result pre-was.0 start-was.ensures.0 from-was.ensures (omega arith) (omega (arith, from-was.ensures, c.type_inv.r (start-was.result + 2)))
