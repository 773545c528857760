-- The table is too short, differs, or has the text.
use mathlib.Core.Path.{sym}
use Prim.Native.Nat.{◌+◌, ◌-◌}
use native.Mathlib.Omega.{arith}
use lib.ListN.{length}
use Rattle.replay_verdict.specs.Verdicts.{agreed}
use Rattle.replay_verdict.proofs.Laws.{change-short, change-differs, change-stands}
use Rattle.replay_verdict.proofs.change.Goals as goal

pub returns-then-table-to : goal.returns-then-table-to
unfolding agreed
returns-then-table-to c =
    let a = c.args in
    sym (change-short a.table.now a.from a.text.now (omega arith))

pub returns-then-i-n : goal.returns-then-i-n
unfolding agreed
returns-then-i-n c =
    let a = c.args in
    let u = c.first_unlike-i in
    sym (change-differs a.table.now a.from a.text.now (a.from + length a.text.now - a.from) u.result (omega arith) (omega arith) u.ensures.0 (omega arith))

pub returns : goal.returns
unfolding agreed
returns c =
    let a = c.args in
    let u = c.first_unlike-i in
    sym (change-stands a.table.now a.from a.text.now (a.from + length a.text.now - a.from) u.result (omega arith) (omega arith) u.ensures.0 (omega arith))
