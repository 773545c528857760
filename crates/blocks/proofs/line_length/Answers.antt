use mathlib.Core.Path.{◌≡◌}
use Prim.Native.Nat.{◌+◌, suc}
use native.Mathlib.Omega.{arith}
use lib.ListN.{drop, length}
use Rattle.octets.specs.Lists.{up_to0}
use Rattle.table.proofs.Tests.{line-more, line-over, line-stop}
use Rattle.blocks.proofs.line_length.Goals as goal

pub returns-then-x-eq0 : goal.returns-then-x-eq0
returns-then-x-eq0 c =
    let stop : length (up_to0 (drop c.loop-i.i c.args.l.now)) ≡ 0 = line-stop c.args.l.now c.loop-i.i (omega arith) c.if-x-eq0.true in
    (omega arith, omega arith)

pub loop-i-preserved : goal.loop-i-preserved
loop-i-preserved c =
    let more : length (up_to0 (drop c.loop-i.i c.args.l.now)) ≡ suc (length (up_to0 (drop (c.loop-i.i + 1) c.args.l.now))) = line-more c.args.l.now c.loop-i.i (omega arith) c.if-x-eq0.false in
    omega arith

pub returns : goal.returns
returns c =
    let over : length (up_to0 (drop c.loop-i.i c.args.l.now)) ≡ 0 = line-over c.args.l.now c.loop-i.i (omega arith) in
    (omega arith, omega arith)
