-- Bytes 32 to 447.
use mathlib.Core.Path.{sym}
use native.Mathlib.Omega.{arith}
use Rattle.row.proofs.Places.{head-part}
use Rattle.row.proofs.entries_room.Goals as goal

pub returns : goal.returns
returns c =
    sym (head-part c.args.r.now 32 416 (omega arith))
