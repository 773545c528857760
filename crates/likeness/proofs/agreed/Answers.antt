-- Both ways compute.
use borrow.Author.Tests.{eq-eqb, ne_eqb}
use Rattle.octets.specs.Choice.{pick}
use Rattle.likeness.proofs.agreed.Goals as goal

pub returns-then-x-y : goal.returns-then-x-y
unfolding pick
returns-then-x-y c =
    let given = c.args in
    let test1 = c.if-x-y in
    rw (eq-eqb given.x given.y test1.true)

pub returns : goal.returns
unfolding pick
returns c =
    let given = c.args in
    let test1 = c.if-x-y in
    rw (ne_eqb given.x given.y test1.false)
