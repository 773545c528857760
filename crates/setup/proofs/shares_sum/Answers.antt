use mathlib.Core.Path.{ap, ◌∙◌}
use native.Mathlib.Omega.{arith}
use lib.Seq.{take_all}
use Rattle.octets.specs.Lists.{sum_of}
use Rattle.setup.proofs.SetUps.{sum-none, sum_step}
use Rattle.setup.proofs.shares_sum.Goals as goal

pub loop-i-init : goal.loop-i-init
loop-i-init c =
    let given = c.args in
    (omega arith, omega (arith, sum-none given.shares.now), omega arith)

pub overflow_add-sum : goal.overflow_add-sum
overflow_add-sum c =
    let whole-was = c.whole-sum in
    omega (arith, whole-was.ensures.1)

pub loop-i-preserved : goal.loop-i-preserved
loop-i-preserved c =
    let given = c.args in
    let loop-was = c.loop-i in
    let whole-was = c.whole-sum in
    (omega arith, omega (arith, sum_step given.shares.now loop-was.i (omega arith), whole-was.ensures.0), omega (arith, whole-was.ensures.1))

pub returns : goal.returns
returns c =
    let loop-was = c.loop-i in
    let given = c.args in
    loop-was.invariant.1 ∙ ap sum_of (take_all loop-was.i given.shares.now (omega arith))
