-- The first byte of the entry, tested from below, then from above.
use native.Mathlib.Omega.{arith}
use borrow.Author.Tests.{lt-leb}
use Rattle.table.proofs.Tests.{low-enough, too-low}
use Rattle.row.proofs.has_label.Goals as goal

pub returns-then-n-ge1 : goal.returns-then-n-ge1
returns-then-n-ge1 c = low-enough 1 100 _ (omega (arith, c.if-n-ge1.true))

pub returns-else-n-ge1 : goal.returns-else-n-ge1
returns-else-n-ge1 c =
    let under = c.if-n-ge1.false in
    rw (lt-leb 1 _ under) (too-low 1 100 _ under)
