use Rattle.std.proofs.Common.{◌≡◌, ℕ, ◌+◌, ◌<◌, ◌≤◌, None, Some, true, false, sym, ap, ◌∙◌, arith}
use mathlib.Core.Bool.{not}
use Rattle.std.specs.Option.{is_some}
use borrow.Author.Count.{below_more}
use Rattle.report.specs.Code.{summed}
use Rattle.report.specs.TheReport.{year, plus}
use Rattle.report.proofs.Counting.{year-plus}
use Rattle.report.proofs.Loops.{was-sum, was-passed, none-past, some-within}
use Rattle.report.proofs.Tables.{held-if, held-not}
use Rattle.report.proofs.holds_both.Goals as goal

pub returns-in_default : goal.returns-in_default
returns-in_default c =
    let a = c.args in
    let k = c.loop-k.k in
    let passed : summed (0 + year a.more.now k) ≡ None = sym c.year_and.ensures ∙ c.in_default.is in
    let most : 18446744073709551616 ≤ year (plus a.report.now a.more.now) k =
    omega (arith, was-passed _ passed, year-plus a.report.now a.more.now k (omega arith)) in
    sym (held-not _ k (omega arith) most)

pub returns-then-is_none : goal.returns-then-is_none
returns-then-is_none c =
    let a = c.args in
    let k = c.loop-k.k in
    let n = c.in-Some.n in
    let first : summed (0 + year a.more.now k) ≡ Some n = sym c.year_and.ensures ∙ c.in-Some.is in
    let passed : is_some (summed (n + year a.report.now k)) ≡ false = ap is_some (sym c.year_and-in-loop-k.ensures) ∙ c.is_none.ensures ∙ ap not c.if-is_none.true in
    let most : 18446744073709551616 ≤ year (plus a.report.now a.more.now) k =
    omega (arith, (was-sum _ _ first).1, none-past _ passed, year-plus a.report.now a.more.now k (omega arith)) in
    sym (held-not _ k (omega arith) most)

pub loop-k-preserved : goal.loop-k-preserved
loop-k-preserved c =
    let a = c.args in
    let k = c.loop-k.k in
    let n = c.in-Some.n in
    let first : summed (0 + year a.more.now k) ≡ Some n = sym c.year_and.ensures ∙ c.in-Some.is in
    let second : is_some (summed (n + year a.report.now k)) ≡ true = ap is_some (sym c.year_and-in-loop-k.ensures) ∙ c.is_none.ensures ∙ ap not c.if-is_none.false in
    let less : year (plus a.report.now a.more.now) k < 18446744073709551616 =
    omega (arith, (was-sum _ _ first).1, some-within _ second, year-plus a.report.now a.more.now k (omega arith)) in
    below_more (λ (j : ℕ). year (plus a.report.now a.more.now) j < 18446744073709551616) k c.loop-k.invariant less

pub returns : goal.returns
returns c = sym (held-if _ (λ k q. c.loop-k.invariant k (omega arith)))
