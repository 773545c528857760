-- The word tells it as a whole: `word-v`.
use Rattle.likeness.proofs.Places.{word-v}
use Rattle.likeness.proofs.has_v.Goals as goal

pub returns : goal.returns
returns c =
    let given = c.args in
    let flags-and-length-was = c.flags_and_length in
    let pre-was = c.requires in
    word-v given.m.now given.at flags-and-length-was.result flags-and-length-was.ensures pre-was
