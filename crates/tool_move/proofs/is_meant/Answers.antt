-- What is looked at is a row.
use mathlib.Core.Path.{sym, ◌∙◌}
use borrow.Author.Tests.{not-false}
use borrow.Author.Rules.{rules}
use Rattle.tool_move.proofs.is_meant.Goals as goal

pub is_unsound-requires : goal.is_unsound-requires
is_unsound-requires c =
    let is-row-was = c.is_row in
    let test3 = c.if-not-is_row in
    (sym is-row-was.ensures.0 ∙ test3.false, is-row-was.ensures.1 (test3.false))

pub is_wide-requires : goal.is_wide-requires
is_wide-requires c =
    let is-row-was = c.is_row in
    let test3 = c.if-not-is_row in
    sym is-row-was.ensures.0 ∙ test3.false
