-- The part lent is the text from byte `at` on, of the length in byte `size`.
use mathlib.Core.Path.{sym, ◌∙◌}
use borrow.Author.Tests.{eqb-true}
use lib.ListN.{length}
use Rattle.row.proofs.Places.{none_lent}
use Rattle.table.proofs.Rows.{lent-part}
use Rattle.row.proofs.text.Goals as goal

pub returns-then-is_empty : goal.returns-then-is_empty
returns-then-is_empty c =
    let given = c.args in
    none_lent given.c.now given.at given.size (eqb-true (length given.c.now) 0 (sym c.is_empty.ensures ∙ c.if-is_empty.true))

pub returns : goal.returns
returns c =
    let given = c.args in
    lent-part given.c.now given.at c.from.result _ c.from.ensures
