-- Form 2 holds three, any other one.
use mathlib.Core.Path.{refl}
use native.Mathlib.Omega.{arith}
use borrow.Author.Tests.{eq-eqb, ne_eqb}
use Rattle.octets.specs.Choice.{pick}
use Rattle.rules.specs.Calls.{most_policies}
use Rattle.decision.proofs.handling.most_policies.Goals as goal

pub returns-then-form-eq2 : goal.returns-then-form-eq2
unfolding most_policies pick
returns-then-form-eq2 c =
    let given = c.args in
    let test1 = c.if-form-eq2 in
    (rw (eq-eqb given.form 2 test1.true) refl, omega arith, omega arith)

pub returns : goal.returns
unfolding most_policies pick
returns c =
    let given = c.args in
    let test1 = c.if-form-eq2 in
    (rw (ne_eqb given.form 2 test1.false) refl, omega arith, omega arith)
