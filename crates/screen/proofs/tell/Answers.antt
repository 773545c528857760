-- The entry has the two numbers that the table gives it; its Session-Id stays.
use Rattle.std.proofs.Common.{get_or, set, ap}
use Rattle.screen.specs.Code.{none, event_said}
use Rattle.screen.proofs.Table.{told-stays, told-moves}
use Rattle.screen.proofs.tell.Goals as goal

pub returns-in-Some : goal.returns-in-Some
returns-in-Some c =
    let ys = c.args.screens.now in
    let e = get_or ys c.args.i none in
    ap (set ys c.args.i) (told-moves c.state_of.result (event_said c.args.event) e c.state_of.ensures c.move_after.result c.move_after.ensures c.in-Some.then _ _ c.in-Some.is c.number_of-e.ensures c.place_of-e.ensures)

pub returns-in_default : goal.returns-in_default
returns-in_default c =
    let ys = c.args.screens.now in
    let e = get_or ys c.args.i none in
    ap (set ys c.args.i) (told-stays c.state_of.result (event_said c.args.event) e c.state_of.ensures c.move_after.result c.move_after.ensures c.in_default.is)
