use native.Mathlib.Omega.{arith}
use Rattle.report.proofs.Loops.{count-step, count-end}
use Rattle.report.proofs.count_of.Goals as goal

pub loop-t-preserved : goal.loop-t-preserved
loop-t-preserved c = let told = c.args.told.now in
    (omega arith, omega (arith, count-step told c.loop-t.t-index c.args.k (omega arith), c.adds_to-n.ensures.0))

pub returns : goal.returns
returns c = omega (arith, count-end c.args.told.now c.loop-t.t-index c.args.k (omega arith))
