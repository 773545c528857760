-- Byte 18 of block 0.
use mathlib.Core.Path.{sym}
use native.Mathlib.Omega.{arith}
use Rattle.row.proofs.Places.{head_byte}
use Rattle.row.proofs.entry_count.Goals as goal

pub returns : goal.returns
returns c =
    sym (head_byte c.args.r.now 18 (omega arith))
