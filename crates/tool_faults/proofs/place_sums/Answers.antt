-- A block has 512 bytes.
use mathlib.Core.Path.{ap, ◌∙◌}
use lib.ListN.{length}
use Rattle.table.proofs.Form.{length-first-of, sized}
use borrow.Author.Rules.{rules}
use Rattle.tool_faults.proofs.place_sums.Goals as goal

pub block_sums_agree-agree-requires : goal.block_sums_agree-agree-requires
block_sums_agree-agree-requires c =
    let first-was = c.first in
    let given = c.args in
    let pre-was = c.requires in
    ap length first-was.ensures ∙ length-first-of given.row.now given.k (sized given.row.now pre-was.0) pre-was.1 pre-was.2
