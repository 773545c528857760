-- The room of the entries has four, of 104 bytes each.
use mathlib.Core.Path.{ap, ◌∙◌}
use native.Mathlib.Omega.{arith}
use Prim.Native.Nat.{◌*◌, ◌-◌}
use lib.ListN.{length}
use Rattle.octets.proofs.Texts.{length_part}
use Rattle.row.proofs.Entries.{length-room}
use borrow.Author.Rules.{rules}
use Rattle.tool_faults.proofs.is_entry_bent.Goals as goal

pub entry-bytes-requires : goal.entry-bytes-requires
entry-bytes-requires c =
    let entries-room-was = c.entries_room in
    let given = c.args in
    let pre-was = c.requires in
    (ap length entries-room-was.ensures ∙ length-room given.row.now pre-was.0, omega arith)

pub put_bytes-requires : goal.put_bytes-requires
put_bytes-requires c =
    let entry-was = c.entry-bytes in
    let entries-room-was = c.entries_room in
    let given = c.args in
    let pre-was = c.requires in
    omega (arith, ap length entry-was.ensures, length_part entries-room-was.result.now (104 * (given.e - 1)) 104 (omega (arith, ap length entries-room-was.ensures ∙ length-room given.row.now pre-was.0)))
