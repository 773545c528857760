-- Test by test: `fault-entry` of Laws.
use mathlib.Core.Path.{sym, ap, ◌∙◌}
use Rattle.reasons.specs.Reasons.{check_named}
use Rattle.reasons.proofs.Laws.{fault_at, fault-entry}
use Rattle.reasons.proofs.avp_failed.Goals as goal

pub returns-in-Few : goal.returns-in-Few
unfolding check_named fault_at
returns-in-Few c = λ s bad e. ap (fault_at c.args.at) (sym (e ∙ c.in-Few.is)) ∙ fault-entry c.args.at s bad

pub returns-in-Bits : goal.returns-in-Bits
unfolding check_named fault_at
returns-in-Bits c = λ s bad e. ap (fault_at c.args.at) (sym (e ∙ c.in-Bits.is)) ∙ fault-entry c.args.at s bad

pub returns-in-Short : goal.returns-in-Short
unfolding check_named fault_at
returns-in-Short c = λ s bad e. ap (fault_at c.args.at) (sym (e ∙ c.in-Short.is)) ∙ fault-entry c.args.at s bad

pub returns-in-Past : goal.returns-in-Past
unfolding check_named fault_at
returns-in-Past c = λ s bad e. ap (fault_at c.args.at) (sym (e ∙ c.in-Past.is)) ∙ fault-entry c.args.at s bad
