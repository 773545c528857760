use mathlib.Core.Path.{sym, ◌∙◌}
use Prim.Native.Nat.{◌<◌}
use native.Mathlib.Omega.{arith}
use lib.ListN.{length}
use Rattle.clauses.proofs.Laws.{ordered_at}
use Rattle.row.proofs.Entries.{row-least}
use Rattle.soundness.proofs.Line.{line_low, line-most, place-high}
use Rattle.table.proofs.Tests.{every-end, every-on-true, every-out, fails, passes_on}
use Rattle.table.specs.Soundness.{policies_in_order}
use Rattle.table.specs.TheTable.{order_line}
use Rattle.clauses.proofs.policies_ordered.Goals as goal

pub accesses_in_use-n-requires : goal.accesses_in_use-n-requires
accesses_in_use-n-requires c =
    let given = c.args in
    let pre-was = c.requires in
    (row-least given.r.now pre-was.0, pre-was.1)

pub line_place-requires : goal.line_place-requires
line_place-requires c =
    let given = c.args in
    let pre-was = c.requires in
    let accesses-in-use-was = c.accesses_in_use-n in
    (row-least given.r.now pre-was.0, omega (arith, line-most given.r.now, accesses-in-use-was.ensures.0))

pub policies_in_order-requires : goal.policies_in_order-requires
policies_in_order-requires c =
    let pre-was = c.requires in
    let given = c.args in
    let loop-was = c.loop-i in
    let accesses-in-use-was = c.accesses_in_use-n in
    let line-place-was = c.line_place in
    (pre-was.0, omega (arith, line_low given.r.now loop-was.i (omega (arith, accesses-in-use-was.ensures.0)), line-place-was.ensures.0), omega (arith, place-high given.r.now loop-was.i pre-was.1 (omega (arith, accesses-in-use-was.ensures.0)), line-place-was.ensures.0))

pub returns-then-not-policies_in_order : goal.returns-then-not-policies_in_order
returns-then-not-policies_in_order c =
    let loop-was = c.loop-i in
    let given = c.args in
    let accesses-in-use-was = c.accesses_in_use-n in
    let line-place-was = c.line_place in
    let policies-in-order-was = c.policies_in_order in
    let test1 = c.if-not-policies_in_order in
    let inside : loop-was.i < length (order_line given.r.now) = omega (arith, accesses-in-use-was.ensures.0) in
    sym (every-out 0 (policies_in_order given.r.now) (order_line given.r.now) loop-was.i inside (ordered_at given.r.now loop-was.i line-place-was.result inside line-place-was.ensures.0 ∙ fails policies-in-order-was.ensures test1.true)) ∙ loop-was.invariant.1

pub loop-i-preserved : goal.loop-i-preserved
loop-i-preserved c =
    let loop-was = c.loop-i in
    let given = c.args in
    let accesses-in-use-was = c.accesses_in_use-n in
    let line-place-was = c.line_place in
    let policies-in-order-was = c.policies_in_order in
    let test1 = c.if-not-policies_in_order in
    let inside : loop-was.i < length (order_line given.r.now) = omega (arith, accesses-in-use-was.ensures.0) in
    (omega arith, every-on-true 0 (policies_in_order given.r.now) (order_line given.r.now) loop-was.i inside (ordered_at given.r.now loop-was.i line-place-was.result inside line-place-was.ensures.0 ∙ passes_on policies-in-order-was.ensures test1.false) ∙ loop-was.invariant.1)

pub returns : goal.returns
returns c =
    let given = c.args in
    let loop-was = c.loop-i in
    let accesses-in-use-was = c.accesses_in_use-n in
    sym (every-end 0 (policies_in_order given.r.now) (order_line given.r.now) loop-was.i (omega (arith, accesses-in-use-was.ensures.0))) ∙ loop-was.invariant.1
