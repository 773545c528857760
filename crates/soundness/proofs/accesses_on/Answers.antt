use mathlib.Core.Path.{◌∙◌, ◌≡◌}
use Prim.Native.Nat.{◌<◌}
use native.Mathlib.Omega.{arith}
use lib.ListN.{get_or, length}
use lib.Dec.{eqb}
use borrow.Author.Tests.{eq-eqb, ne_eqb}
use Rattle.table.specs.TheTable.{order_line}
use Rattle.soundness.proofs.Line.{line_low, line-most, place-high}
use Rattle.soundness.proofs.Accesses.{at_entry, is_at, keep-hit, keep-miss, keep-over, on_line}
use Rattle.row.proofs.Entries.{row-least}
use Rattle.soundness.proofs.accesses_on.Goals as goal
use Rattle.soundness.proofs.accesses_on.Goals.{then-from-e, else-from-e}

pub accesses_in_use-n-requires : goal.accesses_in_use-n-requires
accesses_in_use-n-requires c =
    let given = c.args in
    let pre-was = c.requires in
    (row-least given.r.now pre-was.0, pre-was.1)

pub line_place-requires : goal.line_place-requires
line_place-requires c =
    let pre-was = c.requires in
    let given = c.args in
    let accesses-in-use-was = c.accesses_in_use-n in
    (row-least given.r.now pre-was.0, omega (arith, line-most given.r.now, accesses-in-use-was.ensures.0))

pub entry_of-on-requires : goal.entry_of-on-requires
entry_of-on-requires c =
    let pre-was = c.requires in
    let given = c.args in
    let loop-was = c.loop-i in
    let accesses-in-use-was = c.accesses_in_use-n in
    let line-place-was = c.line_place in
    (pre-was.0, omega (arith, line_low given.r.now loop-was.i (omega (arith, accesses-in-use-was.ensures.0)), line-place-was.ensures.0), omega (arith, place-high given.r.now loop-was.i pre-was.1 (omega (arith, accesses-in-use-was.ensures.0)), line-place-was.ensures.0))

pub loop-i-preserved : goal.loop-i-preserved
loop-i-preserved c =
    let loop-was = c.loop-i in
    let given = c.args in
    let from-was = c.from in
    let line-place-was = c.line_place in
    let entry-of-was = c.entry_of-on in
    let test1 = c.if-from-e in
    let inside : loop-was.i < length (order_line given.r.now) = omega arith in
    let this : is_at given.r.now given.e (get_or (order_line given.r.now) loop-was.i 0) ≡ eqb from-was.result given.e = at_entry given.r.now loop-was.i line-place-was.result from-was.result given.e inside line-place-was.ensures.0 (from-was.ensures ∙ entry-of-was.ensures) in
    elim test1.branch [
      | then-from-e w ↦ let hit = keep-hit (is_at given.r.now given.e) (order_line given.r.now) loop-was.i inside (this ∙ eq-eqb from-was.result given.e w.if-from-e.true) in (omega arith, omega arith)
      | else-from-e w ↦ let miss = keep-miss (is_at given.r.now given.e) (order_line given.r.now) loop-was.i inside (this ∙ ne_eqb from-was.result given.e w.if-from-e.false) in (omega arith, omega arith)
    ]

pub returns : goal.returns
returns c =
    let given = c.args in
    let loop-was = c.loop-i in
    let over = keep-over (is_at given.r.now given.e) (order_line given.r.now) loop-was.i (omega arith) in
    (omega (arith, on_line given.r.now given.e), omega arith)
