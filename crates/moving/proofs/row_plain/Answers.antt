use mathlib.Core.Path.{sym, ◌∙◌}
use native.Mathlib.Omega.{arith}
use Rattle.row.proofs.Entries.{row-least}
use Rattle.soundness.proofs.Line.{line_low, line-most, place-high}
use Rattle.moving.proofs.Loops.{plain-all, plain-on, plain_over, plain-stop}
use Rattle.moving.proofs.row_plain.Goals as goal

pub accesses_in_use-n-requires : goal.accesses_in_use-n-requires
accesses_in_use-n-requires c =
    let given = c.args in
    let pre-was = c.requires in
    (row-least given.r.now pre-was.0, pre-was.1)

pub loop-i-init : goal.loop-i-init
loop-i-init c =
    let given = c.args in
    (omega arith, plain-all given.r.now)

pub line_place-requires : goal.line_place-requires
line_place-requires c =
    let given = c.args in
    let pre-was = c.requires in
    let accesses-in-use-was = c.accesses_in_use-n in
    (row-least given.r.now pre-was.0, omega (arith, line-most given.r.now, accesses-in-use-was.ensures.0))

pub place_plain-requires : goal.place_plain-requires
place_plain-requires c =
    let pre-was = c.requires in
    let given = c.args in
    let loop-was = c.loop-i in
    let accesses-in-use-was = c.accesses_in_use-n in
    let line-place-was = c.line_place in
    (pre-was.0, omega (arith, line_low given.r.now loop-was.i (omega (arith, accesses-in-use-was.ensures.0)), line-place-was.ensures.0), omega (arith, place-high given.r.now loop-was.i pre-was.1 (omega (arith, accesses-in-use-was.ensures.0)), line-place-was.ensures.0))

pub returns-then-not-place_plain : goal.returns-then-not-place_plain
returns-then-not-place_plain c =
    let given = c.args in
    let loop-was = c.loop-i in
    let line-place-was = c.line_place in
    let place-plain-was = c.place_plain in
    let accesses-in-use-was = c.accesses_in_use-n in
    let test1 = c.if-not-place_plain in
    sym (plain-stop given.r.now loop-was.i line-place-was.result place-plain-was.result (omega (arith, accesses-in-use-was.ensures.0)) line-place-was.ensures.0 place-plain-was.ensures (test1.true)) ∙ loop-was.invariant.1

pub loop-i-preserved : goal.loop-i-preserved
loop-i-preserved c =
    let given = c.args in
    let loop-was = c.loop-i in
    let line-place-was = c.line_place in
    let place-plain-was = c.place_plain in
    let accesses-in-use-was = c.accesses_in_use-n in
    let test1 = c.if-not-place_plain in
    (omega arith, plain-on given.r.now loop-was.i line-place-was.result place-plain-was.result (omega (arith, accesses-in-use-was.ensures.0)) line-place-was.ensures.0 place-plain-was.ensures (test1.false) ∙ loop-was.invariant.1)

pub returns : goal.returns
returns c =
    let given = c.args in
    let loop-was = c.loop-i in
    let accesses-in-use-was = c.accesses_in_use-n in
    sym (plain_over given.r.now loop-was.i (omega (arith, accesses-in-use-was.ensures.0))) ∙ loop-was.invariant.1
