use mathlib.Core.Path.{◌∙◌, ap, sym}
use mathlib.Core.List.{List}
use Prim.Native.Nat.{ℕ, ◌<◌}
use native.Mathlib.Omega.{arith}
use lib.Dec.{eqb, leb}
use lib.ListN.{length, get_or}
use Rattle.octets.specs.Choice.{pick}
use Rattle.table.specs.Soundness.{policy_marked}
use Rattle.table.specs.TheTable.{order_line}
use Rattle.table.proofs.Form.{length-first-of, sized}
use Rattle.table.proofs.Tests.{every-end, every-on-true, every-out, fails, passes_on}
use Rattle.row.proofs.Entries.{row-least}
use Rattle.soundness.proofs.Line.{line_low, line-most, place-high}
use Rattle.clauses.proofs.Laws.{marked-at}
use Rattle.clauses.proofs.policies_marked.Goals as goal

pub accesses_in_use-n-requires : goal.accesses_in_use-n-requires
accesses_in_use-n-requires c =
    let given = c.args in
    let pre-was = c.requires in
    (row-least given.r.now pre-was.0, pre-was.1)

pub line_place-requires : goal.line_place-requires
line_place-requires c =
    let pre-was = c.requires in
    let given = c.args in
    let accesses-in-use-was = c.accesses_in_use-n in
    (row-least given.r.now pre-was.0, omega (arith, line-most given.r.now, accesses-in-use-was.ensures.0))

pub first-block-requires : goal.first-block-requires
first-block-requires c =
    let pre-was = c.requires in
    let given = c.args in
    let loop-was = c.loop-i in
    let accesses-in-use-was = c.accesses_in_use-n in
    let line-place-was = c.line_place in
    (pre-was.0, omega (arith, line_low given.r.now loop-was.i (omega (arith, accesses-in-use-was.ensures.0)), line-place-was.ensures.0), omega (arith, place-high given.r.now loop-was.i pre-was.1 (omega (arith, accesses-in-use-was.ensures.0)), line-place-was.ensures.0))

pub bounds-block-4 : goal.bounds-block-4
bounds-block-4 c =
    let first-was = c.first-block in
    let given = c.args in
    let line-place-was = c.line_place in
    let pre-was = c.requires in
    let loop-was = c.loop-i in
    let accesses-in-use-was = c.accesses_in_use-n in
    omega (arith, ap length first-was.ensures, length-first-of given.r.now line-place-was.result (sized given.r.now pre-was.0) (omega (arith, line_low given.r.now loop-was.i (omega (arith, accesses-in-use-was.ensures.0)), line-place-was.ensures.0)) (omega (arith, place-high given.r.now loop-was.i pre-was.1 (omega (arith, accesses-in-use-was.ensures.0)), line-place-was.ensures.0)))

pub bounds-block-5 : goal.bounds-block-5
bounds-block-5 c =
    let first-was = c.first-block in
    let given = c.args in
    let line-place-was = c.line_place in
    let pre-was = c.requires in
    let loop-was = c.loop-i in
    let accesses-in-use-was = c.accesses_in_use-n in
    omega (arith, ap length first-was.ensures, length-first-of given.r.now line-place-was.result (sized given.r.now pre-was.0) (omega (arith, line_low given.r.now loop-was.i (omega (arith, accesses-in-use-was.ensures.0)), line-place-was.ensures.0)) (omega (arith, place-high given.r.now loop-was.i pre-was.1 (omega (arith, accesses-in-use-was.ensures.0)), line-place-was.ensures.0)))

pub returns-then-not-policy_marked : goal.returns-then-not-policy_marked
returns-then-not-policy_marked c =
    let loop-was = c.loop-i in
    let given = c.args in
    let accesses-in-use-was = c.accesses_in_use-n in
    let line-place-was = c.line_place in
    let policy-marked-was = c.policy_marked in
    let first-was = c.first-block in
    let test1 = c.if-not-policy_marked in
    let inside : loop-was.i < length (order_line given.r.now) = omega (arith, accesses-in-use-was.ensures.0) in
    sym (every-out 0 (policy_marked given.r.now) (order_line given.r.now) loop-was.i inside (marked-at given.r.now loop-was.i line-place-was.result inside line-place-was.ensures.0 ∙ fails (policy-marked-was.ensures ∙ ap (λ (b : List ℕ). eqb (get_or b 4 0) (pick (leb 1 (get_or b 5 0)) 1 0)) first-was.ensures) test1.true)) ∙ loop-was.invariant.1

pub loop-i-preserved : goal.loop-i-preserved
loop-i-preserved c =
    let loop-was = c.loop-i in
    let given = c.args in
    let accesses-in-use-was = c.accesses_in_use-n in
    let line-place-was = c.line_place in
    let policy-marked-was = c.policy_marked in
    let first-was = c.first-block in
    let test1 = c.if-not-policy_marked in
    let inside : loop-was.i < length (order_line given.r.now) = omega (arith, accesses-in-use-was.ensures.0) in
    (omega arith, every-on-true 0 (policy_marked given.r.now) (order_line given.r.now) loop-was.i inside (marked-at given.r.now loop-was.i line-place-was.result inside line-place-was.ensures.0 ∙ passes_on (policy-marked-was.ensures ∙ ap (λ (b : List ℕ). eqb (get_or b 4 0) (pick (leb 1 (get_or b 5 0)) 1 0)) first-was.ensures) test1.false) ∙ loop-was.invariant.1)

pub returns : goal.returns
returns c =
    let given = c.args in
    let loop-was = c.loop-i in
    let accesses-in-use-was = c.accesses_in_use-n in
    sym (every-end 0 (policy_marked given.r.now) (order_line given.r.now) loop-was.i (omega (arith, accesses-in-use-was.ensures.0))) ∙ loop-was.invariant.1
