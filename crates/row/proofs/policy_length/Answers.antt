-- Byte 5 of the first block.
use mathlib.Core.Path.{◌∙◌}
use native.Mathlib.Omega.{arith}
use Prim.Native.Nat.{◌+◌}
use Rattle.row.proofs.Places.{byte_at}
use Rattle.row.proofs.policy_length.Goals as goal

pub returns : goal.returns
returns c =
    let from-was = c.from in
    let given = c.args in
    let start-was = c.start in
    let pre-was = c.requires in
    (from-was.ensures ∙ byte_at given.r.now given.k start-was.result 5 pre-was.0 start-was.ensures.0 (omega arith), omega (arith, from-was.ensures, c.type_inv.r (start-was.result + 5)))
