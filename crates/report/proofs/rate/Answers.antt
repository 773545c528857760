-- In lowest terms, or refused.
use Rattle.std.proofs.Common.{sym, ◌∙◌}
use Rattle.report.specs.Code.{ratio_said}
use Rattle.report.proofs.Leaving.{rate-some, rate-none}
use Rattle.report.proofs.rate.Goals as goal

pub returns-in-Some : goal.returns-in-Some
returns-in-Some c = c.lowest_of.ensures ∙ rate-some c.args.report.now _ _ (sym c.in-Some.is ∙ c.totals.ensures)

pub returns-in-None : goal.returns-in-None
unfolding ratio_said
returns-in-None c = rate-none c.args.report.now (sym c.in-None.is ∙ c.totals.ensures)
