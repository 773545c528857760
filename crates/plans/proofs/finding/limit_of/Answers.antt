-- The entry's limit.
use mathlib.Core.Path.{ap, sym, ◌∙◌}
use mathlib.Core.List.{List}
use Prim.Native.Nat.{ℕ, ◌*◌, ◌-◌}
use native.Mathlib.Omega.{arith}
use lib.ListN.{length}
use Rattle.octets.specs.Texts.{part}
use Rattle.table.specs.TheTable.{Entry, read_entry}
use Rattle.row.proofs.Entries.{length-room, most-four, least-of}
use Rattle.plans.proofs.Entries.{entry-is}
use Rattle.plans.proofs.finding.limit_of.Goals as goal

pub entries_room-requires : goal.entries_room-requires
entries_room-requires c =
    let given = c.args in
    let pre-was = c.requires in
    least-of given.row.now pre-was.0

pub limit-requires : goal.limit-requires
limit-requires c =
    let entries-room-was = c.entries_room in
    let given = c.args in
    let pre-was = c.requires in
    (ap length entries-room-was.ensures ∙ length-room given.row.now (least-of given.row.now pre-was.0), omega (arith, most-four given.row.now pre-was.0))

pub returns : goal.returns
returns c =
    let limit-was = c.limit in
    let given = c.args in
    let entries-room-was = c.entries_room in
    let pre-was = c.requires in
    limit-was.ensures ∙ ap (λ (t : List ℕ). (read_entry (part t (104 * (given.n - 1)) 104)).limit) entries-room-was.ensures
    ∙ ap (λ (e : Entry). e.limit) (sym (entry-is given.row.now pre-was.0 given.n pre-was.1 pre-was.2))
