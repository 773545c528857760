-- The i-th byte of the line's room.
use mathlib.Core.Path.{sym, ◌∙◌}
use native.Mathlib.Omega.{arith}
use Prim.Native.Nat.{◌+◌}
use Rattle.row.proofs.Places.{line-byte}
use Rattle.row.proofs.line_place.Goals as goal

pub returns : goal.returns
returns c =
    let given = c.args in
    (c.from.ensures ∙ sym (line-byte given.r.now given.i (omega arith)), omega (arith, c.from.ensures, c.type_inv.r (20 + given.i)))
