use mathlib.Core.Path.{◌≡◌, sym, ◌∙◌}
use native.Mathlib.Nat.{mod-lt}
use native.Mathlib.Omega.{arith}
use Rattle.report.proofs.Divisors.{divisor-end, divisor-step}
use Rattle.report.proofs.divisor_of.Goals as goal

pub loop-b-smaller : goal.loop-b-smaller
loop-b-smaller c = mod-lt c.loop-b.a (omega arith)

pub loop-b-preserved : goal.loop-b-preserved
loop-b-preserved c = divisor-step c.loop-b.a c.loop-b.b (λ e. omega arith) ∙ c.loop-b.invariant

pub returns : goal.returns
returns c =
    let none : c.loop-b.b ≡ 0 = omega arith in
    sym (divisor-end c.loop-b.a c.loop-b.b none) ∙ c.loop-b.invariant
