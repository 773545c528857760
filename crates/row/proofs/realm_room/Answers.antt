-- Bytes 8 to 135 of the block.
use mathlib.Core.Path.{refl}
use Rattle.row.proofs.realm_room.Goals as goal

pub returns : goal.returns
returns c = refl
