-- The part lent is the place.
use Rattle.row.proofs.Places.{place-lent, stride-is}
use Rattle.row.proofs.place.Goals as goal

pub returns : goal.returns
returns c =
    let given = c.args in
    let start-was = c.start-at in
    let pre-was = c.requires in
    place-lent given.r.now given.k start-was.result pre-was.0 start-was.ensures.0 _ (stride-is given.r.now pre-was.0)
