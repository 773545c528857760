-- No digests are given, or both are compared.
use lib.ListN.{get_or}
use borrow.Author.Tests.{eq-eqb, ne_eqb}
use Rattle.octets.specs.Choice.{pick}
use Rattle.replay_verdict.specs.Verdicts.{agreed, digests_as}
use Rattle.replay_verdict.proofs.Laws.{two, numbers}
use Rattle.replay_verdict.proofs.digests.Goals as goal

pub returns-then-s-eq0 : goal.returns-then-s-eq0
unfolding agreed digests_as pick
returns-then-s-eq0 c =
    let s = c.args.s.now in
    rw (eq-eqb (get_or s 0 0) 0 c.if-s-eq0.true)

pub returns : goal.returns
unfolding digests_as pick
returns c =
    let s = c.args.s.now in
    rw (ne_eqb (get_or s 0 0) 0 c.if-s-eq0.false)
    (two c.both.ensures (numbers c.unless-first.ensures c.number.ensures.0 c.digest.ensures.0)
    (numbers c.unless-second.ensures c.number-2.ensures.0 c.digest-2.ensures.0))
