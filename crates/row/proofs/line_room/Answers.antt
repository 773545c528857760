-- Bytes 20 to 27.
use mathlib.Core.Path.{sym}
use native.Mathlib.Omega.{arith}
use Rattle.row.proofs.Places.{head-part}
use Rattle.row.proofs.line_room.Goals as goal

pub returns : goal.returns
returns c =
    sym (head-part c.args.r.now 20 8 (omega arith))
