-- Both ways compute.
use borrow.Author.Tests.{lt-ltb, le-ltb}
use Rattle.octets.specs.Choice.{pick}
use Rattle.likeness.proofs.smaller.Goals as goal

pub returns-then-x-y : goal.returns-then-x-y
unfolding pick
returns-then-x-y c =
    let given = c.args in
    let test1 = c.if-x-y in
    rw (lt-ltb given.x given.y test1.true)

pub returns : goal.returns
unfolding pick
returns c =
    let given = c.args in
    let test1 = c.if-x-y in
    rw (le-ltb given.x given.y test1.false)
