-- The lowest bit of what the shift leaves: `low_bit` of Bits.
use Prim.Native.Nat.{◌-◌, ◌/◌, ◌^◌}
use Rattle.soundness.proofs.Bits.{low_bit}
use Rattle.soundness.proofs.in_use.Goals as goal

pub returns : goal.returns
returns c =
    let given = c.args in
    low_bit (given.bits / 2 ^ (given.k - 1))
