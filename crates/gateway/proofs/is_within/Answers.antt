-- Both ends of the range.
use borrow.Author.Tests.{le-leb, lt-leb}
use Rattle.octets.specs.Choice.{within}
use Rattle.gateway.proofs.is_within.Goals as goal

pub returns-then-low-n : goal.returns-then-low-n
unfolding within
returns-then-low-n c = rw (le-leb c.args.low c.args.n c.if-low-n.true)

pub returns-else-low-n : goal.returns-else-low-n
unfolding within
returns-else-low-n c = rw (lt-leb c.args.low c.args.n c.if-low-n.false)
