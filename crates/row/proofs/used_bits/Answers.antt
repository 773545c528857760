-- Byte 17 of block 0.
use mathlib.Core.Path.{sym}
use native.Mathlib.Omega.{arith}
use Rattle.row.proofs.Places.{head_byte}
use Rattle.row.proofs.used_bits.Goals as goal

pub returns : goal.returns
returns c =
    sym (head_byte c.args.r.now 17 (omega arith))
