use mathlib.Core.Path.{sym, ap, ◌∙◌}
use native.Mathlib.Omega.{arith}
use lib.ListN.{length}
use Rattle.row.proofs.Entries.{head-size, row-least}
use Rattle.soundness.proofs.Line.{places-all, places-end, places-turn}
use Rattle.table.proofs.Tests.{fails, passes_on}
use Rattle.table.specs.Soundness.{place_sums, sums_agree}
use Rattle.clauses.proofs.sums_agree.Goals as goal

pub head-requires : goal.head-requires
head-requires c =
    let given = c.args in
    let pre-was = c.requires in
    row-least given.r.now pre-was

pub block_sums_agree-requires : goal.block_sums_agree-requires
block_sums_agree-requires c =
    let head-was = c.head in
    let given = c.args in
    let pre-was = c.requires in
    ap length head-was.ensures ∙ head-size given.r.now (row-least given.r.now pre-was)

pub returns-then-not-block_sums_agree : goal.returns-then-not-block_sums_agree
returns-then-not-block_sums_agree c =
    let block-sums-agree-was = c.block_sums_agree in
    let head-was = c.head in
    let test1 = c.if-not-block_sums_agree in
    rw (fails (block-sums-agree-was.ensures ∙ ap sums_agree head-was.ensures) test1.true)

pub loop-place-init : goal.loop-place-init
loop-place-init c =
    let block-sums-agree-was = c.block_sums_agree in
    let head-was = c.head in
    let test1 = c.if-not-block_sums_agree in
    let given = c.args in
    (omega arith, omega arith, passes_on (block-sums-agree-was.ensures ∙ ap sums_agree head-was.ensures) test1.false, places-all (place_sums given.r.now))

pub returns-then-not-place_sums : goal.returns-then-not-place_sums
returns-then-not-place_sums c =
    let loop-was = c.loop-place in
    let given = c.args in
    let place-sums-was = c.place_sums in
    let test2 = c.if-not-place_sums in
    rw loop-was.invariant.2 (sym (places-turn (place_sums given.r.now) loop-was.place (omega arith) ∙ rw (fails place-sums-was.ensures test2.true)) ∙ loop-was.invariant.3)

pub loop-place-preserved : goal.loop-place-preserved
loop-place-preserved c =
    let loop-was = c.loop-place in
    let given = c.args in
    let place-sums-was = c.place_sums in
    let test2 = c.if-not-place_sums in
    (omega arith, omega arith, loop-was.invariant.2, sym (places-turn (place_sums given.r.now) loop-was.place (omega arith) ∙ rw (passes_on place-sums-was.ensures test2.false)) ∙ loop-was.invariant.3)

pub returns : goal.returns
returns c =
    let loop-was = c.loop-place in
    let given = c.args in
    rw loop-was.invariant.2 (sym (places-end (place_sums given.r.now) loop-was.place (omega arith)) ∙ loop-was.invariant.3)
