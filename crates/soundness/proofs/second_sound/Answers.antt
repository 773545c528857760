-- Of a place in use and of a free one, by byte 17.
use mathlib.Core.Path.{◌≡◌, sym, ap, ◌∙◌}
use mathlib.Core.Bool.{true, false}
use native.Mathlib.Omega.{arith}
use lib.ListN.{length, get_or}
use Rattle.blocks.specs.RowTests.{second_sound}
use Rattle.octets.specs.Choice.{pick}
use Rattle.octets.specs.Texts.{all_zero}
use Rattle.row.proofs.Entries.{row-least}
use Rattle.soundness.specs.Blocks.{other_sound}
use Rattle.soundness.proofs.Line.{used-by}
use Rattle.table.proofs.Form.{length-first-of, length-second-of, sized}
use Rattle.table.specs.Soundness.{in_use}
use Rattle.table.specs.TheTable.{first_block, place, second_block}
use Rattle.soundness.proofs.second_sound.Goals as goal

pub first-block-requires : goal.first-block-requires
first-block-requires c = let p = c.requires in
    (p.0, p.2, p.3)

pub second-more-requires : goal.second-more-requires
second-more-requires c = let p = c.requires in
    (p.0, p.2, p.3)

pub used_bits-requires : goal.used_bits-requires
used_bits-requires c = row-least c.args.r.now c.requires.0

pub bounds-block-5 : goal.bounds-block-5
bounds-block-5 c =
    let given = c.args in
    let pre-was = c.requires in
    omega (arith, ap length c.first-block.ensures ∙ length-first-of given.r.now given.k (sized given.r.now pre-was.0) pre-was.2 pre-was.3)

pub second_sound-requires : goal.second_sound-requires
second_sound-requires c =
    let given = c.args in
    let pre-was = c.requires in
    ap length c.second-more.ensures ∙ omega (arith, length-second-of given.r.now given.k (sized given.r.now pre-was.0) pre-was.2 pre-was.3, pre-was.1)

pub returns-then-in_use : goal.returns-then-in_use
unfolding other_sound pick
returns-then-in_use c =
    let given = c.args in
    let used : in_use given.r.now given.k ≡ true = sym (used-by given.r.now given.k _ c.used_bits.ensures) ∙ sym c.in_use.ensures ∙ c.if-in_use.true in
    let second : c.second_sound.result ≡ second_sound (second_block (place given.r.now given.k)) (get_or (first_block (place given.r.now given.k)) 5 0) = c.second_sound.ensures ∙ (λ i. second_sound (c.second-more.ensures i) (get_or (c.first-block.ensures i) 5 0)) in
    rw used second

pub returns : goal.returns
unfolding other_sound pick
returns c =
    let given = c.args in
    let free : in_use given.r.now given.k ≡ false = sym (used-by given.r.now given.k _ c.used_bits.ensures) ∙ sym c.in_use.ensures ∙ c.if-in_use.false in
    let clear : c.all_zero.result ≡ all_zero (second_block (place given.r.now given.k)) = c.all_zero.ensures ∙ ap all_zero c.second-more.ensures in
    rw free clear
