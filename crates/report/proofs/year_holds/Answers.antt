-- The length of the list is no less than what a column has of it.
use Rattle.std.proofs.Common.{◌≡◌, ℕ, ◌+◌, length, true, sym, ap, ◌∙◌, arith}
use Rattle.std.specs.Option.{is_some}
use Rattle.report.specs.TheReport.{year, in64}
use Rattle.report.proofs.Loops.{was-in, some-in, in-bits, column-most}
use Rattle.report.proofs.year_holds.Goals as goal

pub returns-then-is_some : goal.returns-then-is_some
returns-then-is_some c =
    let a = c.args in
    let here : in64 (length a.told.now + year a.report.now a.k) ≡ true =
    sym (c.is_some.ensures ∙ ap is_some c.year_and.ensures ∙ some-in _) ∙ c.if-is_some.true in
    c.if-is_some.true ∙ sym (in-bits _ (omega (arith, was-in _ here, column-most a.told.now a.k)))

pub returns-else-is_some : goal.returns-else-is_some
returns-else-is_some c =
    let a = c.args in
    c.is_some-else-is_some.ensures ∙ ap is_some c.year_and-else-is_some.ensures ∙ some-in _ ∙ ap (λ (n : ℕ). in64 (n + year a.report.now a.k)) c.count_of.ensures
