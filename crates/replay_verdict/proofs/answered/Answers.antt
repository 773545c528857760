-- Four numbers in their order.
use mathlib.Core.Path.{refl}
use Rattle.replay_verdict.specs.Verdicts.{answer_numbers}
use Rattle.replay_verdict.proofs.Laws.{two, numbers}
use Rattle.replay_verdict.proofs.answered.Goals as goal

pub returns : goal.returns
unfolding answer_numbers
returns c =
    two c.both-3.ensures (numbers c.unless-code.ensures c.number.ensures.0 refl)
    (two c.both-2.ensures (numbers c.unless-kind.ensures c.number-2.ensures.0 refl)
    (two c.both.ensures (numbers c.unless-length.ensures c.number-3.ensures.0 refl)
    (numbers c.unless-place.ensures c.number-4.ensures.0 refl)))
