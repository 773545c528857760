-- Each column has a year that 64 bits hold, or there is none.
use Rattle.std.proofs.Common.{◌≡◌, ◌+◌, None, Some, true, sym, ◌∙◌, arith}
use Rattle.report.specs.TheReport.{held, year}
use Rattle.report.specs.Code.{summed}
use Rattle.report.proofs.Tables.{held-four, held-not}
use Rattle.report.proofs.Loops.{was-sum, was-passed}
use Rattle.report.proofs.Leaving.{not_held, is_held}
use Rattle.report.proofs.totals.Goals as goal

pub returns-in_err-opened : goal.returns-in_err-opened
returns-in_err-opened c =
    let report = c.args.report.now in
    let passed : summed (0 + year report 0) ≡ None = sym c.year_and.ensures ∙ c.in_err-opened.was in
    let none : c.from_residual.result ≡ None = grind arith in
    none ∙ not_held report (held-not report 0 (omega arith) (omega (arith, was-passed _ passed)))

pub returns-in_err-cuts : goal.returns-in_err-cuts
returns-in_err-cuts c =
    let report = c.args.report.now in
    let passed : summed (0 + year report 1) ≡ None = sym c.year_and-2.ensures ∙ c.in_err-cuts.was in
    let none : c.from_residual-in_err-cuts.result ≡ None = grind arith in
    none ∙ not_held report (held-not report 1 (omega arith) (omega (arith, was-passed _ passed)))

pub returns-in_err-year_and : goal.returns-in_err-year_and
returns-in_err-year_and c =
    let report = c.args.report.now in
    let passed : summed (0 + year report 2) ≡ None = sym c.year_and-3.ensures ∙ c.in_err-year_and.was in
    let none : c.from_residual-in_err-year_and.result ≡ None = grind arith in
    none ∙ not_held report (held-not report 2 (omega arith) (omega (arith, was-passed _ passed)))

pub returns-in_err-year_and-2 : goal.returns-in_err-year_and-2
returns-in_err-year_and-2 c =
    let report = c.args.report.now in
    let passed : summed (0 + year report 3) ≡ None = sym c.year_and-4.ensures ∙ c.in_err-year_and-2.was in
    let none : c.from_residual-in_err-year_and-2.result ≡ None = grind arith in
    none ∙ not_held report (held-not report 3 (omega arith) (omega (arith, was-passed _ passed)))

pub returns : goal.returns
returns c =
    let report = c.args.report.now in
    let opened : summed (0 + year report 0) ≡ Some c.in_ok-opened.opened = sym c.year_and.ensures ∙ c.in_ok-opened.was in
    let cuts : summed (0 + year report 1) ≡ Some c.in_ok-cuts.cuts = sym c.year_and-2.ensures ∙ c.in_ok-cuts.was in
    let ended : summed (0 + year report 2) ≡ Some _ = sym c.year_and-3.ensures ∙ c.in_ok-year_and.was in
    let others : summed (0 + year report 3) ≡ Some _ = sym c.year_and-4.ensures ∙ c.in_ok-year_and-2.was in
    let all : held report ≡ true =
    held-four report (omega (arith, (was-sum _ _ opened).0)) (omega (arith, (was-sum _ _ cuts).0)) (omega (arith, (was-sum _ _ ended).0)) (omega (arith, (was-sum _ _ others).0)) in
    let o : c.in_ok-opened.opened ≡ year report 0 = omega (arith, (was-sum _ _ opened).1) in
    let u : c.in_ok-cuts.cuts ≡ year report 1 = omega (arith, (was-sum _ _ cuts).1) in
    is_held report _ _ all u o
