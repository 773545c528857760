-- The hours one by one.
use Rattle.std.proofs.Common.{◌≡◌, ℕ, ◌+◌, ◌≤◌, None, ap, ◌∙◌, arith, rules}
use Rattle.report.specs.TheReport.{year}
use Rattle.report.specs.Code.{summed}
use Rattle.report.proofs.Loops.{year-start, year-step, year-end, is_sum, is-passed}
use Rattle.report.proofs.year_and.Goals as goal

pub loop-hour-init : goal.loop-hour-init
loop-hour-init c = (ap (λ (n : ℕ). c.args.more + n) (year-start c.args.report.now c.args.k), search rules)

pub returns-in_err-sum : goal.returns-in_err-sum
returns-in_err-sum c =
    let report = c.args.report.now in
    let k = c.args.k in
    let most : 18446744073709551616 ≤ c.args.more + year report k =
    omega (arith, year-step report k c.loop-hour.hour (omega arith), c.in_err-sum.ensures) in
    let none : c.from_residual.result ≡ None = grind arith in
    none ∙ is-passed _ most

pub loop-hour-preserved : goal.loop-hour-preserved
loop-hour-preserved c =
    let report = c.args.report.now in
    let k = c.args.k in
    (omega (arith, year-step report k c.loop-hour.hour (omega arith), c.in_ok-sum.ensures), omega (arith, c.in_ok-sum.ensures))

pub returns : goal.returns
returns c =
    let report = c.args.report.now in
    let k = c.args.k in
    let all : c.loop-hour.sum ≡ c.args.more + year report k = omega (arith, year-end report k c.loop-hour.hour (omega arith)) in
    is_sum _ c.loop-hour.invariant.1 ∙ ap summed all
