-- The part lent is what the place has behind its first block.
use Rattle.row.proofs.Places.{second-lent, stride-is}
use Rattle.row.proofs.second.Goals as goal

pub returns : goal.returns
returns c =
    let given = c.args in
    let start-was = c.start-from in
    let pre-was = c.requires in
    second-lent given.r.now given.k start-was.result pre-was.0 start-was.ensures.0 _ (stride-is given.r.now pre-was.0)
