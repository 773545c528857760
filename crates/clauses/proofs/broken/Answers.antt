-- The form, then the contents: `form-first` and `form-then` of Laws.
use mathlib.Core.Path.{◌≡◌, refl, sym, ap, ◌∙◌}
use Prim.Native.Nat.{◌≤◌}
use native.Mathlib.Omega.{arith}
use Rattle.clauses.specs.declared.Clause.{Clause}
use Rattle.clauses.specs.declared.Clause.TheVariants.{NoClause, HeadForm, EntryForm, PlaceForm, Sums, Line, Labels, Limits, Sessions, NoEntry, OverLimit, PolicyMark, PolicyOrder}
use Rattle.clauses.specs.Clauses.{clause_number, broken_form}
use Rattle.clauses.proofs.Laws.{form-first, form-then}
use Rattle.clauses.proofs.broken.Goals as goal

-- every clause but the first has a number
some-clause : (x : Clause) → (x ≡ NoClause → ⊥) → 1 ≤ clause_number x
unfolding clause_number
some-clause NoClause o = absurd (o refl)
some-clause HeadForm o = omega arith
some-clause EntryForm o = omega arith
some-clause PlaceForm o = omega arith
some-clause Sums o = omega arith
some-clause Line o = omega arith
some-clause Labels o = omega arith
some-clause Limits o = omega arith
some-clause Sessions o = omega arith
some-clause NoEntry o = omega arith
some-clause OverLimit o = omega arith
some-clause PolicyMark o = omega arith
some-clause PolicyOrder o = omega arith

pub returns-in_default : goal.returns-in_default
returns-in_default c =
    let f = c.broken_form-c in
    f.ensures ∙ form-first c.args.r.now (omega (arith, f.ensures, some-clause f.result c.in_default.not-NoClause))

pub broken_contents-requires : goal.broken_contents-requires
unfolding clause_number
broken_contents-requires c =
    let f = c.broken_form-c in
    (c.requires, sym f.ensures ∙ ap clause_number c.in-NoClause.is)

pub returns : goal.returns
unfolding clause_number
returns c =
    let f = c.broken_form-c in
    let r = c.args.r.now in
    let z : broken_form r ≡ 0 = sym f.ensures ∙ ap clause_number c.in-NoClause.is in
    c.broken_contents.ensures ∙ form-then r z
