-- Block 0 is put, and the rest comes back: `row_back` of Steps.
use mathlib.Core.Path.{ap}
use native.Mathlib.Omega.{arith}
use lib.ListN.{length}
use Rattle.row.proofs.Entries.{head-size, row-least}
use Rattle.row.proofs.Places.{row-sizes}
use Rattle.moving.proofs.Steps.{put-long, rest-long, row_back}
use Rattle.moving.proofs.move_row.Goals as goal

pub head-requires : goal.head-requires
head-requires c =
    let given = c.args in
    let pre-was = c.requires in
    row-least given.from.now pre-was.0

pub put_text-requires : goal.put_text-requires
put_text-requires c =
    let head-was = c.head in
    let given = c.args in
    let pre-was = c.requires in
    omega (arith, ap length head-was.ensures, head-size given.from.now (row-least given.from.now pre-was.0), row-least given.room.now pre-was.1)

pub slice_bounds-move_places-count : goal.slice_bounds-move_places-count
slice_bounds-move_places-count c =
    let given = c.args in
    let head-was = c.head in
    let put-text-was = c.put_text in
    let pre-was = c.requires in
    omega (arith, put-long given.room.now given.from.now head-was.result.now put-text-was.new.room pre-was.1 pre-was.0 head-was.ensures put-text-was.ensures, row-least given.room.now pre-was.1)

pub slice_bounds-move_places-start : goal.slice_bounds-move_places-start
slice_bounds-move_places-start c =
    let given = c.args in
    let head-was = c.head in
    let put-text-was = c.put_text in
    let pre-was = c.requires in
    omega (arith, put-long given.room.now given.from.now head-was.result.now put-text-was.new.room pre-was.1 pre-was.0 head-was.ensures put-text-was.ensures, row-least given.room.now pre-was.1)

pub move_places-requires : goal.move_places-requires
move_places-requires c =
    let given = c.args in
    let head-was = c.head in
    let put-text-was = c.put_text in
    let pre-was = c.requires in
    let l = rest-long given.room.now given.from.now head-was.result.now put-text-was.new.room pre-was.1 pre-was.0 head-was.ensures put-text-was.ensures in let z = row-sizes given.room.now pre-was.1 in (pre-was.0, omega (arith, l, z.1), omega (arith, l, z.2), omega (arith, l))

pub returns : goal.returns
returns c =
    let given = c.args in
    let head-was = c.head in
    let put-text-was = c.put_text in
    let pre-was = c.requires in
    let move-places-was = c.move_places in
    row_back given.room.now given.from.now head-was.result.now put-text-was.new.room pre-was.1 pre-was.0 head-was.ensures put-text-was.ensures move-places-was.new.places move-places-was.ensures
