-- A shift within the byte: `bit-small` of Blocks.
use Prim.Native.Nat.{◌-◌}
use native.Mathlib.Omega.{arith}
use Rattle.changes.proofs.Blocks.{bit-small}
use Rattle.changes.proofs.bit_of.Goals as goal

pub returns : goal.returns
returns c = bit-small (c.args.k - 1) (omega arith)
