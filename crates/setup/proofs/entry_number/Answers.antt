-- An unsound row is 13: `entry-13` of SetUps; the other numbers are those of a sound row.
use Rattle.table.specs.TheTable.{Entry}
use Rattle.table.proofs.Tests.{fails, passes_on}
use Rattle.setup.proofs.SetUps.{entry-13}
use Rattle.setup.proofs.entry_number.Goals as goal

pub returns-then-not-row_sound : goal.returns-then-not-row_sound
returns-then-not-row_sound c = let e : Entry = record { label = c.args.label.now; flags = c.args.flags; limit = c.args.limit } in
    entry-13 c.args.row.now e (fails c.row_sound.ensures c.if-not-row_sound.true)

pub next_number-requires : goal.next_number-requires
next_number-requires c = passes_on c.row_sound.ensures c.if-not-row_sound.false
