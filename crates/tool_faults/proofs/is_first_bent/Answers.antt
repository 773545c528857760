-- A block has 512 bytes.
use mathlib.Core.Path.{ap, ◌∙◌}
use lib.ListN.{length}
use Rattle.table.proofs.Form.{length-first-of, sized}
use borrow.Author.Rules.{rules}
use Rattle.tool_faults.proofs.is_first_bent.Goals as goal

pub access_form-requires : goal.access_form-requires
access_form-requires c =
    let first-was = c.first-block in
    let given = c.args in
    let pre-was = c.requires in
    ap length first-was.ensures ∙ length-first-of given.row.now given.k (sized given.row.now pre-was.0) pre-was.2 pre-was.3
