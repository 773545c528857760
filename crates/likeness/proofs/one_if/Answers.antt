-- Both ways compute.
use Rattle.octets.specs.Choice.{pick}
use Rattle.likeness.proofs.one_if.Goals as goal

pub returns-then-b : goal.returns-then-b
unfolding pick
returns-then-b c =
    let test1 = c.if-b in
    rw test1.true

pub returns : goal.returns
unfolding pick
returns c =
    let test1 = c.if-b in
    rw test1.false
