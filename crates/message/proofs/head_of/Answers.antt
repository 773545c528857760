-- By the slot's number.
use borrow.Author.Tests.{lt-ltb, le-ltb}
use Rattle.octets.specs.Choice.{pick}
use Rattle.message.specs.Positions.{head_of}
use Rattle.message.proofs.head_of.Goals as goal

pub returns-then-slot-lt-VISITED_NETWORK : goal.returns-then-slot-lt-VISITED_NETWORK
unfolding head_of pick
returns-then-slot-lt-VISITED_NETWORK c = rw (lt-ltb _ _ c.if-slot-lt-VISITED_NETWORK.true)

pub returns : goal.returns
unfolding head_of pick
returns c = rw (le-ltb _ _ c.if-slot-lt-VISITED_NETWORK.false)
