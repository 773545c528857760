-- The room of the entries has four, and a label that is there has at most 100 bytes.
use mathlib.Core.Path.{ap, sym, ◌∙◌}
use native.Mathlib.Omega.{arith}
use lib.ListN.{length}
use Rattle.octets.proofs.Lists.{within-high}
use Rattle.row.proofs.Entries.{length-room}
use borrow.Author.Rules.{rules}
use Rattle.tool_row_lines.proofs.label.Goals as goal

pub has_label-requires : goal.has_label-requires
has_label-requires c =
    let entries-room-was = c.entries_room-entries in
    let given = c.args in
    let pre-was = c.requires in
    (ap length entries-room-was.ensures ∙ length-room given.row.now pre-was, omega arith)

pub label-requires : goal.label-requires
label-requires c =
    let entries-room-was = c.entries_room-entries in
    let given = c.args in
    let pre-was = c.requires in
    let has-label-was = c.has_label in
    let test3 = c.if-has_label in
    (ap length entries-room-was.ensures ∙ length-room given.row.now pre-was, omega arith, within-high 1 100 _ (sym has-label-was.ensures ∙ test3.true))
