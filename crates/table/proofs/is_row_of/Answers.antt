-- The operator's byte first, then the name.
use mathlib.Core.Path.{sym, ◌∙◌}
use lib.ListN.{get_or}
use borrow.Author.Tests.{eq-eqb, ne_eqb}
use Rattle.table.specs.TheTable.{is_row_of}
use Rattle.table.proofs.is_row_of.Goals as goal

pub returns-then-from-op : goal.returns-then-from-op
unfolding is_row_of
returns-then-from-op c =
    let given = c.args in
    let test1 = c.if-from-op in
    let from-was = c.from in
    sym (rw (ne_eqb (get_or given.r.now 19 0) given.op (λ e. test1.true (from-was.ensures ∙ e))))

pub returns : goal.returns
unfolding is_row_of
returns c =
    let has-name-was = c.has_name in
    let given = c.args in
    let from-was = c.from in
    let test1 = c.if-from-op in
    has-name-was.ensures ∙ sym (rw (eq-eqb (get_or given.r.now 19 0) given.op (sym from-was.ensures ∙ test1.false)))
