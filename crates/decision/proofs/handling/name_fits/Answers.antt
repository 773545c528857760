-- By the two ends of the range.
use mathlib.Core.Path.{sym}
use native.Mathlib.Omega.{arith}
use lib.ListN.{length}
use borrow.Author.Tests.{le-leb, lt-leb}
use Rattle.octets.specs.Choice.{within}
use Rattle.decision.proofs.handling.name_fits.Goals as goal

pub returns-then-s-lt1 : goal.returns-then-s-lt1
unfolding within
returns-then-s-lt1 c = sym (rw (lt-leb 1 (length c.args.s.now) (omega arith)))

pub returns : goal.returns
unfolding within
returns c = rw (le-leb 1 (length c.args.s.now) (omega arith))
