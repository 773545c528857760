-- `within` is the two tests in order.
use borrow.Author.Tests.{lt-leb}
use Rattle.table.proofs.Tests.{low-enough, too-low}
use Rattle.blocks.proofs.is_within.Goals as goal

pub returns-then-low-n : goal.returns-then-low-n
returns-then-low-n c = low-enough c.args.low c.args.high c.args.n c.if-low-n.true

pub returns-else-low-n : goal.returns-else-low-n
returns-else-low-n c = rw (lt-leb c.args.low c.args.n c.if-low-n.false) (too-low c.args.low c.args.high c.args.n c.if-low-n.false)
