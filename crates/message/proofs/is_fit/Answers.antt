-- By whether it is there, then by its length.
use mathlib.Core.Bool.{true, false}
use mathlib.Core.Path.{◌≡◌}
use borrow.Author.Tests.{lt-leb, le-leb}
use lib.Dec.{leb}
use Rattle.octets.specs.Choice.{within}
use Rattle.message.specs.Spans.{is_fit}
use Rattle.message.proofs.is_fit.Goals as goal

pub returns-in_default : goal.returns-in_default
unfolding is_fit
returns-in_default c = rw c.in_default.is

pub returns-then-s-ge1 : goal.returns-then-s-ge1
unfolding is_fit within
returns-then-s-ge1 c = rw (c.in-Some.is, le-leb 1 c.in-Some.s.len c.if-s-ge1.true)

pub returns-else-s-ge1 : goal.returns-else-s-ge1
unfolding is_fit within
returns-else-s-ge1 c = rw (c.in-Some.is, lt-leb 1 c.in-Some.s.len c.if-s-ge1.false)
