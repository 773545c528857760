-- What is shown is a row.
use mathlib.Core.Path.{sym, ◌∙◌}
use borrow.Author.Rules.{rules}
use Rattle.tool_show.proofs.show_or_skip.Goals as goal

pub show_row-requires : goal.show_row-requires
show_row-requires c =
    let is-row-was = c.is_row in
    let test4 = c.if-is_row in
    (sym is-row-was.ensures.0 ∙ test4.true, is-row-was.ensures.1 test4.true)
