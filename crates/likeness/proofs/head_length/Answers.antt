-- Both ways compute.
use borrow.Author.Tests.{le-leb, lt-leb}
use Rattle.octets.specs.Choice.{pick}
use Rattle.likeness.proofs.head_length.Goals as goal

pub returns-then-word-ge2147483656 : goal.returns-then-word-ge2147483656
unfolding pick
returns-then-word-ge2147483656 c =
    let given = c.args in
    let test1 = c.if-word-ge2147483656 in
    rw (le-leb 2147483656 given.word test1.true)

pub returns : goal.returns
unfolding pick
returns c =
    let given = c.args in
    let test1 = c.if-word-ge2147483656 in
    rw (lt-leb 2147483656 given.word test1.false)
