-- Block 0 has 512 bytes.
use mathlib.Core.Path.{ap, ◌∙◌}
use lib.ListN.{length}
use Rattle.table.proofs.Form.{length-head-of, sized}
use borrow.Author.Rules.{rules}
use Rattle.tool_faults.proofs.sums.Goals as goal

pub block_sums_agree-requires : goal.block_sums_agree-requires
block_sums_agree-requires c =
    let head-was = c.head in
    let given = c.args in
    let pre-was = c.requires in
    ap length head-was.ensures ∙ length-head-of given.row.now (sized given.row.now pre-was.0)
