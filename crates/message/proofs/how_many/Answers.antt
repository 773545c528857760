-- By the three tests in turn.
use Rattle.octets.specs.Choice.{pick}
use Rattle.message.specs.Spans.{how_many}
use Rattle.message.proofs.how_many.Goals as goal

pub returns-then-fourth : goal.returns-then-fourth
unfolding how_many pick
returns-then-fourth c = rw c.if-fourth.true

pub returns-then-third : goal.returns-then-third
unfolding how_many pick
returns-then-third c = rw (c.if-fourth.false, c.if-third.true)

pub returns-then-second : goal.returns-then-second
unfolding how_many pick
returns-then-second c = rw (c.if-fourth.false, c.if-third.false, c.if-second.true)

pub returns : goal.returns
unfolding how_many pick
returns c = rw (c.if-fourth.false, c.if-third.false, c.if-second.false)
