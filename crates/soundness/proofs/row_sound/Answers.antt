-- The tests say it; that there are at most four entries adds nothing: `few-said` and `many-unsound`.
use mathlib.Core.Path.{◌≡◌, sym}
use mathlib.Core.Bool.{true}
use Rattle.row.proofs.Entries.{row-least}
use Rattle.table.proofs.Tests.{fails, passes_on}
use Rattle.table.specs.Soundness.{sound}
use Rattle.soundness.proofs.Tested.{few-said, many-unsound}
use Rattle.soundness.proofs.row_sound.Goals as goal

pub returns-then-not-all_sound : goal.returns-then-not-all_sound
returns-then-not-all_sound c = sym (fails c.all_sound.ensures c.if-not-all_sound.true)

pub entry_count-requires : goal.entry_count-requires
entry_count-requires c = row-least c.args.r.now c.requires

pub returns-then-r-eq-ROW_LENGTH_1 : goal.returns-then-r-eq-ROW_LENGTH_1
returns-then-r-eq-ROW_LENGTH_1 c =
    let tested : sound c.args.r.now ≡ true = passes_on c.all_sound.ensures c.if-not-all_sound.false in
    few-said c.args.r.now c.entry_count.result c.entry_count.ensures tested

pub entry_count-requires-2 : goal.entry_count-requires-2
entry_count-requires-2 c = row-least c.args.r.now c.requires

pub returns-then-entry_count-gt4 : goal.returns-then-entry_count-gt4
returns-then-entry_count-gt4 c = many-unsound c.args.r.now c.entry_count-2.result c.entry_count-2.ensures c.if-entry_count-gt4.true

pub returns : goal.returns
returns c = c.all_sound-2.ensures
