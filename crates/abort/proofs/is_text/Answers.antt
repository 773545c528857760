-- Both ends of the range.
use borrow.Author.Tests.{le-leb, lt-leb}
use Rattle.octets.specs.Choice.{within}
use Rattle.abort.proofs.is_text.Goals as goal

pub returns-then-n-ge1 : goal.returns-then-n-ge1
unfolding within
returns-then-n-ge1 c = rw (le-leb 1 c.args.n c.if-n-ge1.true)

pub returns-else-n-ge1 : goal.returns-else-n-ge1
unfolding within
returns-else-n-ge1 c = rw (lt-leb 1 c.args.n c.if-n-ge1.false)
