-- What stands behind the host is of the same row and place.
use borrow.Author.Rules.{rules}
use Rattle.tool_row_lines.proofs.access_at.Goals as goal

pub rest-h-requires : goal.rest-h-requires
rest-h-requires c =
    let pre-was = c.requires in
    (pre-was.0, pre-was.2, pre-was.3)
