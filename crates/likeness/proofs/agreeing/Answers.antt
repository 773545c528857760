use mathlib.Core.Path.{◌≡◌}
use Prim.Native.Nat.{suc, ◌+◌}
use native.Mathlib.Omega.{arith}
use lib.ListN.{drop}
use Rattle.likeness.specs.TheSameAnswer.{agreeing}
use Rattle.likeness.proofs.Prefixes.{agree-end, agree-short, agree_differ, agree-step}
use Rattle.likeness.proofs.agreeing.Goals as goal

pub loop-i-init : goal.loop-i-init
loop-i-init c = (omega arith, omega arith)

pub returns-then-b-i : goal.returns-then-b-i
returns-then-b-i c =
    let loop-was = c.loop-i in
    let given = c.args in
    let test1 = c.if-b-i in
    let z : agreeing (drop loop-was.i given.a.now) (drop loop-was.i given.b.now) ≡ 0 = agree-short given.a.now given.b.now loop-was.i test1.true in
    omega (arith, z, loop-was.invariant.1)

pub returns-then-a-i : goal.returns-then-a-i
returns-then-a-i c =
    let loop-was = c.loop-i in
    let given = c.args in
    let loop-test-was = c.loop-i-test in
    let test1 = c.if-b-i in
    let test2 = c.if-a-i in
    let z : agreeing (drop loop-was.i given.a.now) (drop loop-was.i given.b.now) ≡ 0 = agree_differ given.a.now given.b.now loop-was.i loop-test-was.true (omega (arith, test1.false)) test2.true in
    omega (arith, z, loop-was.invariant.1)

pub loop-i-preserved : goal.loop-i-preserved
loop-i-preserved c =
    let loop-was = c.loop-i in
    let given = c.args in
    let loop-test-was = c.loop-i-test in
    let test1 = c.if-b-i in
    let test2 = c.if-a-i in
    let z : agreeing (drop loop-was.i given.a.now) (drop loop-was.i given.b.now) ≡ suc (agreeing (drop (loop-was.i + 1) given.a.now) (drop (loop-was.i + 1) given.b.now)) = agree-step given.a.now given.b.now loop-was.i loop-test-was.true (omega (arith, test1.false)) test2.false in
    (omega (arith, loop-test-was.true), omega (arith, z, loop-was.invariant.1))

pub returns : goal.returns
returns c =
    let loop-was = c.loop-i in
    let given = c.args in
    let loop-test-was = c.loop-i-test in
    let z : agreeing (drop loop-was.i given.a.now) (drop loop-was.i given.b.now) ≡ 0 = agree-end given.a.now given.b.now loop-was.i (omega (arith, loop-test-was.false)) in
    omega (arith, z, loop-was.invariant.1)
