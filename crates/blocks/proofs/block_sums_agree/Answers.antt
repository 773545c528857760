-- The two sums as `sums_of` gives them are compared byte by byte: `two_bytes` of Tests.
use mathlib.Core.Path.{◌∙◌, sym}
use lib.ListN.{get_or}
use borrow.Author.Tests.{eq-eqb, ne_eqb}
use Rattle.table.specs.Soundness.{sums_agree}
use Rattle.table.proofs.Tests.{two_bytes}
use Rattle.blocks.proofs.block_sums_agree.Goals as goal

pub returns-then-from-second : goal.returns-then-from-second
unfolding sums_agree
returns-then-from-second c =
    let sums-of-was = c.sums_of-s in
    let given = c.args in
    let pre-was = c.requires in
    let test1 = c.if-from-second in
    let from-was = c.from in
    sym (rw (← sums-of-was.ensures.0, two_bytes given.b.now sums-of-was.result.second sums-of-was.result.first pre-was, ne_eqb (get_or given.b.now 510 0) sums-of-was.result.second (λ e. test1.true (from-was.ensures ∙ e))))

pub returns : goal.returns
unfolding sums_agree
returns c =
    let sums-of-was = c.sums_of-s in
    let given = c.args in
    let pre-was = c.requires in
    let from-was = c.from in
    let test1 = c.if-from-second in
    let from2-was = c.from-2 in
    rw (← sums-of-was.ensures.0, two_bytes given.b.now sums-of-was.result.second sums-of-was.result.first pre-was, eq-eqb (get_or given.b.now 510 0) sums-of-was.result.second (sym from-was.ensures ∙ test1.false), from2-was.ensures)
