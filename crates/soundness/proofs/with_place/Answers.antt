-- Setting a clear bit adds its weight: `or-adds` of Bits, a test over all bytes.
use Prim.Native.Nat.{◌-◌}
use native.Mathlib.Omega.{arith}
use borrow.Author.Rules.{rules}
use Rattle.soundness.proofs.Bits.{or-adds}
use Rattle.soundness.proofs.with_place.Goals as goal

pub returns : goal.returns
returns c =
    let given = c.args in
    let pre-was = c.requires in
    or-adds given.bits (given.k - 1) (search rules) (omega arith) pre-was.2
