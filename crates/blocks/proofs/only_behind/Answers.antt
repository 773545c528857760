-- With no bytes, and with some.
use native.Mathlib.Omega.{arith}
use borrow.Author.Tests.{eq-eqb, le-leb, lt-leb}
use Rattle.octets.specs.Choice.{pick}
use Rattle.table.specs.Soundness.{only_behind}
use Rattle.blocks.proofs.only_behind.Goals as goal

pub returns-then-n-eq0 : goal.returns-then-n-eq0
unfolding only_behind pick
returns-then-n-eq0 c = rw (lt-leb 1 c.args.n (omega arith), eq-eqb c.args.n 0 c.if-n-eq0.true)

pub returns-else-n-eq0 : goal.returns-else-n-eq0
unfolding only_behind pick
returns-else-n-eq0 c = rw (le-leb 1 c.args.n (omega arith))
