-- Without M it passes; with M it has to be a Failed-AVP.
use mathlib.Core.Path.{◌∙◌}
use mathlib.Core.Bool.{or-true, or-false}
use native.Mathlib.Omega.{arith}
use borrow.Author.Tests.{eq-eqb, ne_eqb}
use Rattle.likeness.proofs.Fitting.{mandatory-is}
use Rattle.likeness.proofs.passes.Goals as goal

pub overflow_add-at : goal.overflow_add-at
overflow_add-at c =
    let pre-was = c.requires in
    omega (arith, pre-was.eight)

pub bounds-theirs-at : goal.bounds-theirs-at
bounds-theirs-at c =
    let pre-was = c.requires in
    omega (arith, pre-was.eight)

pub returns-then-theirs-at-ne1 : goal.returns-then-theirs-at-ne1
returns-then-theirs-at-ne1 c =
    let given = c.args in
    let test1 = c.if-theirs-at-ne1 in
    rw (mandatory-is given.theirs.now given.at, ne_eqb _ 1 test1.true, or-true)

pub returns : goal.returns
returns c =
    let is-base-was = c.is_base in
    let given = c.args in
    let test1 = c.if-theirs-at-ne1 in
    is-base-was.ensures ∙ rw (mandatory-is given.theirs.now given.at, eq-eqb _ 1 test1.false, or-false)
