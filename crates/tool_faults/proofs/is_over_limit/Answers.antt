-- The room of the entries has four.
use mathlib.Core.Path.{ap, ◌∙◌}
use native.Mathlib.Omega.{arith}
use lib.ListN.{length}
use Rattle.row.proofs.Entries.{length-room}
use borrow.Author.Rules.{rules}
use Rattle.tool_faults.proofs.is_over_limit.Goals as goal

pub limit-limit-requires : goal.limit-limit-requires
limit-limit-requires c =
    let entries-room-was = c.entries_room in
    let given = c.args in
    let pre-was = c.requires in
    (ap length entries-room-was.ensures ∙ length-room given.row.now pre-was.1, omega arith)
