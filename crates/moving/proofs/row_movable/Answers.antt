-- Sound, or else wholly zero: `movable-sound` and `movable-zero` of Loops.
use Rattle.moving.proofs.Loops.{movable-sound, movable-zero}
use Rattle.moving.proofs.row_movable.Goals as goal

pub returns-then-row_sound : goal.returns-then-row_sound
returns-then-row_sound c =
    let given = c.args in
    let row-sound-was = c.row_sound in
    let test1 = c.if-row_sound in
    movable-sound given.r.now row-sound-was.result row-sound-was.ensures test1.true

pub returns : goal.returns
returns c =
    let given = c.args in
    let row-sound-was = c.row_sound in
    let all-zero-was = c.all_zero in
    let test1 = c.if-row_sound in
    movable-zero given.r.now row-sound-was.result all-zero-was.result row-sound-was.ensures test1.false all-zero-was.ensures
