-- The stores give the place: `one_block`, `free-block` and `used-block` of Loops.
use mathlib.Core.Path.{◌≡◌, ◌∙◌}
use native.Mathlib.Omega.{arith}
use lib.ListN.{length, length-set, set}
use Rattle.moving.proofs.Loops.{free-block, one_block, used-block}
use Rattle.table.specs.TheTable.{block_length}
use Rattle.moving.proofs.move_place.Goals as goal

pub returns : goal.returns
returns c =
    let given = c.args in
    let clear-was = c.clear in
    let put-text-was = c.put_text in
    let pre-was = c.requires in
    used-block given.first.now given.place.now clear-was.new.s put-text-was.new.room pre-was.0 (omega arith) clear-was.ensures put-text-was.ensures (omega arith)

pub returns-then-first-ne2 : goal.returns-then-first-ne2
returns-then-first-ne2 c =
    let given = c.args in
    let clear-was = c.clear in
    let put-text-was = c.put_text in
    let pre-was = c.requires in
    let test2 = c.if-first-ne2 in
    free-block given.first.now given.place.now clear-was.new.s put-text-was.new.room pre-was.0 (omega arith) clear-was.ensures put-text-was.ensures (λ e. omega (arith, test2.true, e))

pub returns-then-place-lt-TWO_BLOCKS : goal.returns-then-place-lt-TWO_BLOCKS
returns-then-place-lt-TWO_BLOCKS c =
    let given = c.args in
    let clear-was = c.clear in
    let put-text-was = c.put_text in
    let pre-was = c.requires in
    one_block given.first.now given.place.now clear-was.new.s put-text-was.new.room pre-was.0 (omega arith) clear-was.ensures put-text-was.ensures

pub shape_of-place : goal.shape_of-place
shape_of-place c =
    let put-text-was = c.put_text in
    let given = c.args in
    let clear-was = c.clear in
    let q = c.put_text.new.room in
    let e : length (set (set q block_length 3) 1023 3) ≡ length given.place.now = length-set (set q block_length 3) 1023 3 ∙ length-set q block_length 3 ∙ omega (arith, put-text-was.auto.room, clear-was.auto.s) in
    e
