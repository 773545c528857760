use mathlib.Core.Path.{sym, ◌∙◌}
use Prim.Native.Nat.{ℕ, ◌<◌, ◌≤◌}
use native.Mathlib.Omega.{arith}
use borrow.Author.Count.{below_more}
use Rattle.report.specs.Code.{told_by}
use Rattle.report.specs.TheReport.{year, with}
use Rattle.report.proofs.Counting.{year-with}
use Rattle.report.proofs.Loops.{was-in, was-past}
use Rattle.report.proofs.Tables.{held-if, held-not}
use Rattle.report.proofs.holds_list.Goals as goal

pub returns-then-not-year_holds : goal.returns-then-not-year_holds
returns-then-not-year_holds c =
    let a = c.args in
    let k = c.loop-k.k in
    let y = c.year_holds in
    let over = was-past _ (sym y.ensures ∙ c.if-not-year_holds.true) in
    let most : 18446744073709551616 ≤ year (with a.report.now (told_by a.told.now)) k =
    omega (arith, over, year-with a.report.now (told_by a.told.now) k (omega arith) c.requires.1) in
    sym (held-not _ k (omega arith) most)

pub loop-k-preserved : goal.loop-k-preserved
loop-k-preserved c =
    let a = c.args in
    let k = c.loop-k.k in
    let y = c.year_holds in
    let here = was-in _ (sym y.ensures ∙ c.if-not-year_holds.false) in
    let less : year (with a.report.now (told_by a.told.now)) k < 18446744073709551616 =
    omega (arith, here, year-with a.report.now (told_by a.told.now) k (omega arith) c.requires.1) in
    below_more (λ (j : ℕ). year (with a.report.now (told_by a.told.now)) j < 18446744073709551616) k c.loop-k.invariant less

pub returns : goal.returns
returns c =
    sym (held-if _ (λ k q. c.loop-k.invariant k (omega arith)))
