-- A test over the 255 bytes with a clear bit: `lowest-clear` of Bits.
use native.Mathlib.Omega.{arith}
use Rattle.changes.proofs.Bits.{clear_in, lowest-clear}
use Rattle.changes.proofs.lowest_free.Goals as goal

pub returns : goal.returns
returns c =
    let lowest = lowest-clear c.args.bits c.requires in
    let in-8 = clear_in c.args.bits c.requires in
    (lowest, omega (arith, lowest, in-8.0), omega (arith, lowest, in-8.1))

pub overflow_cast-result : goal.overflow_cast-result
overflow_cast-result c = omega (arith, lowest-clear c.args.bits c.requires, clear_in c.args.bits c.requires)

pub overflow_add-result : goal.overflow_add-result
overflow_add-result c = omega (arith, lowest-clear c.args.bits c.requires, clear_in c.args.bits c.requires)
