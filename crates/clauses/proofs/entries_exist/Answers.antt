use mathlib.Core.Path.{◌∙◌, ap, sym}
use Prim.Native.Nat.{ℕ, ◌<◌}
use native.Mathlib.Omega.{arith}
use lib.ListN.{length, get_or}
use Rattle.octets.specs.Choice.{within}
use Rattle.table.specs.TheTable.{head, order_line}
use Rattle.table.proofs.Tests.{every-end, every-on-true, every-out, fails, passes_on}
use Rattle.row.proofs.Entries.{row-least}
use Rattle.soundness.proofs.Line.{line_low, line-most, place-high}
use Rattle.clauses.proofs.Laws.{names-all, names_at, names_entry}
use Rattle.clauses.proofs.entries_exist.Goals as goal

pub accesses_in_use-n-requires : goal.accesses_in_use-n-requires
accesses_in_use-n-requires c =
    let given = c.args in
    let pre-was = c.requires in
    (row-least given.r.now pre-was.0, pre-was.1)

pub entry_count-most-requires : goal.entry_count-most-requires
entry_count-most-requires c =
    let given = c.args in
    let pre-was = c.requires in
    row-least given.r.now pre-was.0

pub line_place-requires : goal.line_place-requires
line_place-requires c =
    let pre-was = c.requires in
    let given = c.args in
    let accesses-in-use-was = c.accesses_in_use-n in
    (row-least given.r.now pre-was.0, omega (arith, line-most given.r.now, accesses-in-use-was.ensures.0))

pub entry_of-on-requires : goal.entry_of-on-requires
entry_of-on-requires c =
    let pre-was = c.requires in
    let given = c.args in
    let loop-was = c.loop-i in
    let accesses-in-use-was = c.accesses_in_use-n in
    let line-place-was = c.line_place in
    (pre-was.0, omega (arith, line_low given.r.now loop-was.i (omega (arith, accesses-in-use-was.ensures.0)), line-place-was.ensures.0), omega (arith, place-high given.r.now loop-was.i pre-was.1 (omega (arith, accesses-in-use-was.ensures.0)), line-place-was.ensures.0))

pub returns-then-not-is_within : goal.returns-then-not-is_within
returns-then-not-is_within c =
    let loop-was = c.loop-i in
    let given = c.args in
    let accesses-in-use-was = c.accesses_in_use-n in
    let line-place-was = c.line_place in
    let is-within-was = c.is_within in
    let entry-of-was = c.entry_of-on in
    let entry-count-was = c.entry_count-most in
    let test1 = c.if-not-is_within in
    let inside : loop-was.i < length (order_line given.r.now) = omega (arith, accesses-in-use-was.ensures.0) in
    sym (every-out 0 (names_entry given.r.now) (order_line given.r.now) loop-was.i inside (names_at given.r.now loop-was.i line-place-was.result inside line-place-was.ensures.0 ∙ fails (is-within-was.ensures ∙ ap (λ (n : ℕ). within 1 n entry-of-was.result) entry-count-was.ensures ∙ ap (within 1 (get_or (head given.r.now) 18 0)) entry-of-was.ensures) test1.true)) ∙ loop-was.invariant.1 ∙ sym (names-all given.r.now)

pub loop-i-preserved : goal.loop-i-preserved
loop-i-preserved c =
    let loop-was = c.loop-i in
    let given = c.args in
    let accesses-in-use-was = c.accesses_in_use-n in
    let line-place-was = c.line_place in
    let is-within-was = c.is_within in
    let entry-of-was = c.entry_of-on in
    let entry-count-was = c.entry_count-most in
    let test1 = c.if-not-is_within in
    let inside : loop-was.i < length (order_line given.r.now) = omega (arith, accesses-in-use-was.ensures.0) in
    (omega arith, every-on-true 0 (names_entry given.r.now) (order_line given.r.now) loop-was.i inside (names_at given.r.now loop-was.i line-place-was.result inside line-place-was.ensures.0 ∙ passes_on (is-within-was.ensures ∙ ap (λ (n : ℕ). within 1 n entry-of-was.result) entry-count-was.ensures ∙ ap (within 1 (get_or (head given.r.now) 18 0)) entry-of-was.ensures) test1.false) ∙ loop-was.invariant.1)

pub returns : goal.returns
returns c =
    let given = c.args in
    let loop-was = c.loop-i in
    let accesses-in-use-was = c.accesses_in_use-n in
    sym (every-end 0 (names_entry given.r.now) (order_line given.r.now) loop-was.i (omega (arith, accesses-in-use-was.ensures.0))) ∙ loop-was.invariant.1 ∙ sym (names-all given.r.now)
