-- The tests in their order: each way out is a law of Laws.
use mathlib.Core.Path.{sym}
use native.Mathlib.Omega.{arith}
use lib.ListN.{drop}
use Rattle.message.proofs.Walks.{head-least}
use Rattle.reader.proofs.Laws.{head-12, head-8, fault-few, fault-bits, fault-short, fault_past}
use Rattle.reader.proofs.fault_at.Goals as goal

pub returns-then-m-at-lt8 : goal.returns-then-m-at-lt8
returns-then-m-at-lt8 c =
    let a = c.args in
    sym (fault-few a.m.now a.at (omega arith))

pub returns-then-flags-ne0 : goal.returns-then-flags-ne0
returns-then-flags-ne0 c =
    let a = c.args in
    sym (fault-bits a.m.now a.at (omega arith) c.if-flags-ne0.true)

pub returns-then-n-lt8 : goal.returns-then-n-lt8
returns-then-n-lt8 c =
    let a = c.args in
    sym (fault-short a.m.now a.at (omega arith) c.if-flags-ne0.false (omega (arith, head-least (drop a.at a.m.now))))

pub returns-then-flags-lt128 : goal.returns-then-flags-lt128
returns-then-flags-lt128 c =
    let a = c.args in
    sym (fault_past a.m.now a.at (omega arith) c.if-flags-ne0.false (omega (arith, head-8 a.m.now a.at c.if-flags-lt128.true)))

pub returns-then-n-lt12 : goal.returns-then-n-lt12
returns-then-n-lt12 c =
    let a = c.args in
    sym (fault-short a.m.now a.at (omega arith) c.if-flags-ne0.false (omega (arith, head-12 a.m.now a.at c.if-flags-lt128.false)))

pub returns : goal.returns
returns c =
    let a = c.args in
    sym (fault_past a.m.now a.at (omega arith) c.if-flags-ne0.false (omega (arith, head-12 a.m.now a.at c.if-flags-lt128.false)))
