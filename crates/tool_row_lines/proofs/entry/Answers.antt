-- The room of the entries has four.
use mathlib.Core.Path.{ap, ◌∙◌}
use native.Mathlib.Omega.{arith}
use lib.ListN.{length}
use Rattle.row.proofs.Entries.{length-room}
use borrow.Author.Rules.{rules}
use Rattle.tool_row_lines.proofs.entry.Goals as goal

pub limit-requires : goal.limit-requires
limit-requires c =
    let entries-room-was = c.entries_room-entries in
    let given = c.args in
    let pre-was = c.requires in
    (ap length entries-room-was.ensures ∙ length-room given.row.now pre-was.1, omega arith)

pub flags-requires : goal.flags-requires
flags-requires c =
    let entries-room-was = c.entries_room-entries in
    let given = c.args in
    let pre-was = c.requires in
    (ap length entries-room-was.ensures ∙ length-room given.row.now pre-was.1, omega arith)

pub standing-requires : goal.standing-requires
standing-requires c =
    let pre-was = c.requires in
    pre-was.0
