-- Tested first, so that a refusal has nothing to undo.
use mathlib.Core.Path.{◌≡◌, sym, ap, ◌∙◌}
use mathlib.Core.List.{List}
use borrow.Author.Rules.{rules}
use mathlib.Core.Bool.{true, false}
use Prim.Native.Nat.{ℕ}
use Rattle.report.specs.Code.{leaves}
use Rattle.report.specs.TheReport.{held, plus}
use Rattle.report.proofs.Leaving.{sum-passed, added-all}
use Rattle.report.proofs.add.Goals as goal

pub returns-then-not-holds_both : goal.returns-then-not-holds_both
returns-then-not-holds_both c = let a = c.args in
    let no : held (plus a.report.now a.more.now) ≡ false = sym c.holds_both.ensures ∙ c.if-not-holds_both.true in
    sum-passed a.report.now a.more.now no

pub add_all-requires : goal.add_all-requires
add_all-requires c = let yes : held (plus c.args.report.now c.args.more.now) ≡ true = sym c.holds_both.ensures ∙ c.if-not-holds_both.false in
    (search rules, search rules, yes)

pub returns : goal.returns
returns c = let yes : held (plus c.args.report.now c.args.more.now) ≡ true =
    sym c.holds_both.ensures ∙ c.if-not-holds_both.false in
    ap (λ (r : List ℕ). leaves 0 r) c.add_all.ensures ∙ added-all c.args.report.now c.args.more.now yes
