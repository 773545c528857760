-- Both ways compute.
use borrow.Author.Tests.{eq-eqb, ne_eqb}
use Rattle.octets.specs.Choice.{pick}
use Rattle.likeness.proofs.first_of.Goals as goal

pub returns-then-mark-eq0 : goal.returns-then-mark-eq0
unfolding pick
returns-then-mark-eq0 c =
    let given = c.args in
    let test1 = c.if-mark-eq0 in
    rw (eq-eqb given.mark 0 test1.true)

pub returns : goal.returns
unfolding pick
returns c =
    let given = c.args in
    let test1 = c.if-mark-eq0 in
    rw (ne_eqb given.mark 0 test1.false)
