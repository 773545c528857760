-- Euclid: the divisor stays the same, and the second number falls.
use mathlib.Core.Path.{◌≡◌}
use Rattle.report.specs.Rates.{divisor}
use Rattle.report.proofs.divisor_of.Given as goal

abbrev pub invariant-loop-b : goal.invariant-loop-b
invariant-loop-b l = divisor l.a l.b ≡ divisor l.cuts l.opened

abbrev pub decreases-loop-b : goal.decreases-loop-b
decreases-loop-b l = l.b
