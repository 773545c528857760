-- Four numbers in their order.
use mathlib.Core.Path.{refl}
use Rattle.replay_verdict.specs.Verdicts.{cut_numbers}
use Rattle.replay_verdict.proofs.Laws.{two, numbers}
use Rattle.replay_verdict.proofs.cut.Goals as goal

pub returns : goal.returns
unfolding cut_numbers
returns c =
    two c.both-3.ensures (numbers c.unless-made.ensures c.number.ensures.0 refl)
    (two c.both-2.ensures (numbers c.unless-session.ensures c.number-2.ensures.0 refl)
    (two c.both.ensures (numbers c.unless-host.ensures c.number-3.ensures.0 refl)
    (numbers c.unless-realm.ensures c.number-4.ensures.0 refl)))
