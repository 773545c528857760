use mathlib.Core.Path.{sym, ◌∙◌}
use native.Mathlib.Omega.{arith}
use Rattle.report.proofs.Loops.{hours-step, hours-wrong, hours-end}
use Rattle.report.proofs.hours_right.Goals as goal

pub returns-then-t-gt23 : goal.returns-then-t-gt23
returns-then-t-gt23 c = let told = c.args.told.now in
    sym (hours-wrong told c.loop-t.t-index (omega arith) (omega arith)) ∙ c.loop-t.invariant

pub loop-t-preserved : goal.loop-t-preserved
loop-t-preserved c = let told = c.args.told.now in
    hours-step told c.loop-t.t-index (omega arith) (omega arith) ∙ c.loop-t.invariant

pub returns : goal.returns
returns c = let told = c.args.told.now in
    sym (hours-end told c.loop-t.t-index (omega arith)) ∙ c.loop-t.invariant
