use Rattle.replay_script.specs.TheScript.{unlike}
use Rattle.replay_script.proofs.Steps.{unlike-step, unlike-differ, unlike-end}
use mathlib.Core.Path.{◌≡◌}
use Prim.Native.Nat.{suc, ◌+◌}
use native.Mathlib.Omega.{arith}
use lib.ListN.{drop}
use Rattle.replay_script.proofs.first_unlike.Goals as goal

pub returns-then-a-i : goal.returns-then-a-i
returns-then-a-i c =
    let a = c.args.a.now in
    let b = c.args.b.now in
    let here : unlike (drop c.loop-i.i a) (drop c.loop-i.i b) ≡ 0 = unlike-differ a b c.loop-i.i (omega arith) (omega arith) c.if-a-i.true in
    omega arith

pub loop-i-preserved : goal.loop-i-preserved
loop-i-preserved c =
    let a = c.args.a.now in
    let b = c.args.b.now in
    let step : unlike (drop c.loop-i.i a) (drop c.loop-i.i b) ≡ suc (unlike (drop (c.loop-i.i + 1) a) (drop (c.loop-i.i + 1) b)) =
    unlike-step a b c.loop-i.i (omega arith) (omega arith) c.if-a-i.false in
    omega arith

pub returns : goal.returns
returns c =
    let a = c.args.a.now in
    let b = c.args.b.now in
    let none : unlike (drop c.loop-i.i a) (drop c.loop-i.i b) ≡ 0 = unlike-end a b c.loop-i.i (omega arith) in
    omega arith
