use mathlib.Core.Bool.{true, and-true}
use mathlib.Core.Path.{◌≡◌, sym, ◌∙◌}
use native.Mathlib.Omega.{arith}
use lib.Dec.{eqb}
use lib.ListN.{drop}
use Rattle.octets.specs.Texts.{same}
use Rattle.octets.proofs.Texts.{same_end, same-lengths}
use Rattle.likeness.proofs.Prefixes.{least_step}
use Rattle.likeness.proofs.same_throughout.Goals as goal

pub returns-then-a-b : goal.returns-then-a-b
returns-then-a-b c =
    let given = c.args in
    let test1 = c.if-a-b in
    sym (same-lengths given.a.now given.b.now test1.true)

pub loop-i-preserved : goal.loop-i-preserved
loop-i-preserved c =
    let given = c.args in
    let loop-was = c.loop-i in
    let agreed-was = c.agreed in
    let smaller-was = c.smaller-least in
    let loop-test-was = c.loop-i-test in
    let s = least_step given.a.now given.b.now loop-was.i loop-was.least agreed-was.result smaller-was.result (omega (arith, loop-test-was.true)) (omega (arith, loop-test-was.true, loop-was.invariant.1)) loop-was.invariant.2 agreed-was.ensures smaller-was.ensures in
    (omega (arith, loop-test-was.true), loop-was.invariant.1, s.0, s.1 ∙ loop-was.invariant.3)

pub returns : goal.returns
returns c =
    let loop-was = c.loop-i in
    let given = c.args in
    let loop-test-was = c.loop-i-test in
    let none : same (drop loop-was.i given.a.now) (drop loop-was.i given.b.now) ≡ true = same_end given.a.now given.b.now loop-was.i (omega (arith, loop-test-was.false)) (omega (arith, loop-test-was.false, loop-was.invariant.1)) in
    sym (and-true (eqb loop-was.least 255)) ∙ (rw none at loop-was.invariant.3)
