-- The part lent is the entry.
use Rattle.table.proofs.Rows.{lent-part}
use Prim.Native.Nat.{◌*◌}
use mathlib.Core.Path.{refl}
use Rattle.row.proofs.entry.Goals as goal

pub returns : goal.returns
returns c =
    let given = c.args in
    lent-part given.room.now (104 * given.i) 104 104 refl
