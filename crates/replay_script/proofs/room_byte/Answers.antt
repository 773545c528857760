-- The byte of a room is its definition.
use Rattle.replay_script.specs.TheScript.{room_byte}
use borrow.Author.Rules.{rules}
use Rattle.replay_script.proofs.room_byte.Goals as goal

pub returns : goal.returns
unfolding room_byte
returns c = search rules
