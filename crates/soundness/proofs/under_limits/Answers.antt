use mathlib.Core.Path.{◌∙◌, ◌≡◌, ap, sym}
use mathlib.Core.Bool.{false, true}
use mathlib.Core.List.{List}
use Prim.Native.Nat.{◌*◌, ◌+◌, ℕ}
use native.Mathlib.Omega.{arith}
use lib.ListN.{get_or, length}
use lib.Dec.{leb}
use borrow.Author.Tests.{le-leb, lt-leb}
use Rattle.octets.specs.Texts.{part}
use Rattle.row.proofs.Entries.{length-room, row-least}
use Rattle.table.specs.Soundness.{limits, on_entry}
use Rattle.table.specs.TheTable.{read_entry, read_row}
use Rattle.soundness.proofs.Accesses.{limit-at, limit-count, under-end, under-turn}
use Rattle.soundness.proofs.under_limits.Goals as goal

pub entries_room-entries-requires : goal.entries_room-entries-requires
entries_room-entries-requires c =
    let given = c.args in
    let pre-was = c.requires in
    row-least given.r.now pre-was.0

pub limit-requires : goal.limit-requires
limit-requires c =
    let entries-room-was = c.entries_room-entries in
    let given = c.args in
    let pre-was = c.requires in
    (ap length entries-room-was.ensures ∙ length-room given.r.now (row-least given.r.now pre-was.0), omega arith)

pub returns-then-from-accesses_on : goal.returns-then-from-accesses_on
returns-then-from-accesses_on c =
    let given = c.args in
    let loop-was = c.loop-i in
    let from-was = c.from in
    let entries-room-was = c.entries_room-entries in
    let limit-was = c.limit in
    let accesses-on-was = c.accesses_on in
    let s = read_row given.r.now in
    let limit : get_or (limits s.entries) loop-was.i 0 ≡ from-was.result =
    limit-at given.r.now loop-was.i (omega arith) ∙ ap (λ (t : List ℕ). (read_entry (part t (104 * loop-was.i) 104)).limit) (sym entries-room-was.ensures) ∙ sym (from-was.ensures ∙ limit-was.ensures) in
    let over : leb (length (on_entry (loop-was.i + 1) s.accesses)) (get_or (limits s.entries) loop-was.i 0) ≡ false = lt-leb (length (on_entry (loop-was.i + 1) s.accesses)) (get_or (limits s.entries) loop-was.i 0) (omega (arith, accesses-on-was.ensures.0)) in
    sym (under-turn (limits s.entries) s.accesses loop-was.i (omega (arith, limit-count given.r.now)) ∙ rw over) ∙ loop-was.invariant

pub loop-i-preserved : goal.loop-i-preserved
loop-i-preserved c =
    let given = c.args in
    let loop-was = c.loop-i in
    let from-was = c.from in
    let entries-room-was = c.entries_room-entries in
    let limit-was = c.limit in
    let accesses-on-was = c.accesses_on in
    let s = read_row given.r.now in
    let limit : get_or (limits s.entries) loop-was.i 0 ≡ from-was.result =
    limit-at given.r.now loop-was.i (omega arith) ∙ ap (λ (t : List ℕ). (read_entry (part t (104 * loop-was.i) 104)).limit) (sym entries-room-was.ensures) ∙ sym (from-was.ensures ∙ limit-was.ensures) in
    let under : leb (length (on_entry (loop-was.i + 1) s.accesses)) (get_or (limits s.entries) loop-was.i 0) ≡ true = le-leb (length (on_entry (loop-was.i + 1) s.accesses)) (get_or (limits s.entries) loop-was.i 0) (omega (arith, accesses-on-was.ensures.0)) in
    (sym (under-turn (limits s.entries) s.accesses loop-was.i (omega (arith, limit-count given.r.now)) ∙ rw under) ∙ loop-was.invariant)

pub returns : goal.returns
returns c =
    let given = c.args in
    let loop-was = c.loop-i in
    let s = read_row given.r.now in
    sym (under-end (limits s.entries) s.accesses (loop-was.i + 1) loop-was.i (omega (arith, limit-count given.r.now))) ∙ loop-was.invariant
