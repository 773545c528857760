-- The part lent is the first block.
use Rattle.row.proofs.Places.{first-lent}
use Rattle.row.proofs.first.Goals as goal

pub returns : goal.returns
returns c =
    let given = c.args in
    let start-was = c.start-at in
    let pre-was = c.requires in
    first-lent given.r.now given.k start-was.result pre-was.0 start-was.ensures.0
