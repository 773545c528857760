-- A mark of another value, a table of zeros, and another table.
use mathlib.Core.Path.{◌∙◌, sym}
use borrow.Author.Tests.{eq-eqb, ne_eqb}
use Rattle.octets.specs.Choice.{pick}
use Rattle.replay_verdict.specs.Verdicts.{agreed, cleared_as}
use Rattle.replay_verdict.proofs.cleared.Goals as goal

pub returns-then-mark-ne1 : goal.returns-then-mark-ne1
unfolding agreed cleared_as pick
returns-then-mark-ne1 c = rw (ne_eqb c.args.mark 1 c.if-mark-ne1.true)

pub returns-then-all_zero : goal.returns-then-all_zero
unfolding agreed cleared_as pick
returns-then-all_zero c =
    let a = c.args in
    rw (eq-eqb a.mark 1 c.if-mark-ne1.false, sym c.all_zero.ensures ∙ c.if-all_zero.true)

pub returns : goal.returns
unfolding agreed cleared_as pick
returns c =
    let a = c.args in
    rw (eq-eqb a.mark 1 c.if-mark-ne1.false, sym c.all_zero.ensures ∙ c.if-all_zero.false)
