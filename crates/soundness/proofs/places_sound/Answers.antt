-- The first blocks fail; they pass and form 1 has no others; or the second ones say: `places-cut` of Forms.
use mathlib.Core.Path.{◌≡◌, sym, ◌∙◌}
use mathlib.Core.Bool.{true, false}
use native.Mathlib.Omega.{arith}
use Rattle.octets.specs.Lists.{every}
use Rattle.row.proofs.Places.{row-sizes}
use Rattle.soundness.specs.Blocks.{first_sound}
use Rattle.soundness.proofs.Forms.{first_out, one_block, places-cut, two_blocks}
use Rattle.table.proofs.Tests.{fails, passes_on}
use Rattle.table.specs.TheTable.{form_of, places}
use Rattle.soundness.proofs.places_sound.Goals as goal

pub returns-then-not-firsts_sound : goal.returns-then-not-firsts_sound
returns-then-not-firsts_sound c =
    let given = c.args in
    let r = c.args.r.now in
    let first : every (first_sound given.n r) places ≡ false = fails c.firsts_sound.ensures c.if-not-firsts_sound.true in
    first_out (form_of r) _ _ first ∙ sym (places-cut given.n r c.requires)

pub returns-then-r-eq-ROW_LENGTH_1 : goal.returns-then-r-eq-ROW_LENGTH_1
returns-then-r-eq-ROW_LENGTH_1 c =
    let given = c.args in
    let r = c.args.r.now in
    let row = c.requires in
    let first : every (first_sound given.n r) places ≡ true = passes_on c.firsts_sound.ensures c.if-not-firsts_sound.false in
    let one : form_of r ≡ 1 = omega (arith, (row-sizes r row).0, c.if-r-eq-ROW_LENGTH_1.true) in
    sym first ∙ one_block (form_of r) _ _ one ∙ sym (places-cut given.n r row)

pub seconds_sound-requires : goal.seconds_sound-requires
seconds_sound-requires c =
    let r = c.args.r.now in
    let row = c.requires in
    (row, omega (arith, (row-sizes r row).0, (row-sizes r row).1, (row-sizes r row).2, c.if-r-eq-ROW_LENGTH_1.false))

pub returns : goal.returns
returns c =
    let given = c.args in
    let r = c.args.r.now in
    let row = c.requires in
    let first : every (first_sound given.n r) places ≡ true = passes_on c.firsts_sound.ensures c.if-not-firsts_sound.false in
    let two : form_of r ≡ 2 = omega (arith, (row-sizes r row).0, (row-sizes r row).1, (row-sizes r row).2, c.if-r-eq-ROW_LENGTH_1.false) in
    c.seconds_sound.ensures ∙ two_blocks (form_of r) _ _ two first ∙ sym (places-cut given.n r row)
