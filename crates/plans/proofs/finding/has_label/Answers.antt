-- The entry's label.
use mathlib.Core.Path.{ap, sym, ◌∙◌}
use mathlib.Core.List.{List}
use Prim.Native.Nat.{ℕ, ◌*◌, ◌-◌}
use native.Mathlib.Omega.{arith}
use lib.ListN.{length}
use Rattle.octets.specs.Texts.{part}
use Rattle.table.specs.Soundness.{same_label}
use Rattle.table.specs.TheTable.{Entry, read_entry}
use Rattle.row.proofs.Entries.{length-room, most-four, least-of}
use Rattle.plans.proofs.Entries.{entry-is, label-short}
use Rattle.plans.proofs.finding.has_label.Goals as goal

pub entries_room-requires : goal.entries_room-requires
entries_room-requires c =
    let given = c.args in
    let pre-was = c.requires in
    least-of given.row.now pre-was.0

pub label-requires : goal.label-requires
label-requires c =
    let entries-room-was = c.entries_room in
    let given = c.args in
    let pre-was = c.requires in
    (ap length entries-room-was.ensures ∙ length-room given.row.now (least-of given.row.now pre-was.0), omega (arith, most-four given.row.now pre-was.0), rw entries-room-was.ensures (label-short given.row.now pre-was.0 given.n pre-was.1 pre-was.2))

pub returns : goal.returns
returns c =
    let same-label-was = c.same_label in
    let given = c.args in
    let label-was = c.label in
    let entries-room-was = c.entries_room in
    let pre-was = c.requires in
    same-label-was.ensures
    ∙ ap (same_label given.label.now) (label-was.ensures ∙ ap (λ (t : List ℕ). (read_entry (part t (104 * (given.n - 1)) 104)).label) entries-room-was.ensures
    ∙ ap (λ (e : Entry). e.label) (sym (entry-is given.row.now pre-was.0 given.n pre-was.1 pre-was.2)))
