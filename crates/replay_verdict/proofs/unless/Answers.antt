-- The two numbers are the same, or not.
use mathlib.Core.Path.{sym}
use borrow.Author.Tests.{eq-eqb, ne_eqb}
use Rattle.replay_verdict.specs.Verdicts.{agreed}
use Rattle.replay_verdict.proofs.unless.Goals as goal

pub returns-then-expected-got : goal.returns-then-expected-got
unfolding agreed
returns-then-expected-got c = sym (eq-eqb c.args.expected c.args.got c.if-expected-got.true)

pub returns : goal.returns
unfolding agreed
returns c = sym (ne_eqb c.args.expected c.args.got c.if-expected-got.false)
