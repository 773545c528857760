-- Of a place in use and of a free one, by byte 17.
use mathlib.Core.Path.{◌≡◌, sym, ap, ◌∙◌}
use mathlib.Core.Bool.{true, false}
use lib.ListN.{length}
use Rattle.blocks.specs.RowTests.{access_sound}
use Rattle.octets.specs.Choice.{pick}
use Rattle.octets.specs.Texts.{all_zero}
use Rattle.row.proofs.Entries.{row-least}
use Rattle.soundness.specs.Blocks.{first_sound}
use Rattle.soundness.proofs.Line.{used-by}
use Rattle.table.proofs.Form.{length-first-of, sized}
use Rattle.table.specs.Soundness.{in_use}
use Rattle.table.specs.TheTable.{first_block, place}
use Rattle.soundness.proofs.first_sound.Goals as goal

pub used_bits-requires : goal.used_bits-requires
used_bits-requires c = row-least c.args.r.now c.requires.0

pub access_sound-requires : goal.access_sound-requires
access_sound-requires c =
    let given = c.args in
    let pre-was = c.requires in
    ap length c.first-block.ensures ∙ length-first-of given.r.now given.k (sized given.r.now pre-was.0) pre-was.1 pre-was.2

pub returns-then-in_use : goal.returns-then-in_use
unfolding first_sound pick
returns-then-in_use c =
    let given = c.args in
    let used : in_use given.r.now given.k ≡ true = sym (used-by given.r.now given.k _ c.used_bits.ensures) ∙ sym c.in_use.ensures ∙ c.if-in_use.true in
    rw used (c.access_sound.ensures ∙ ap (access_sound given.n) c.first-block.ensures)

pub returns : goal.returns
unfolding first_sound pick
returns c =
    let given = c.args in
    let free : in_use given.r.now given.k ≡ false = sym (used-by given.r.now given.k _ c.used_bits.ensures) ∙ sym c.in_use.ensures ∙ c.if-in_use.false in
    let clear : c.all_zero.result ≡ all_zero (first_block (place given.r.now given.k)) = c.all_zero.ensures ∙ ap all_zero c.first-block.ensures in
    rw free clear
