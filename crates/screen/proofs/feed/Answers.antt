-- The entry is told, or a refusal leaves the list as it was.
use Rattle.std.proofs.Common.{subst}
use Rattle.screen.specs.Code.{event_said, Finds}
use Rattle.screen.proofs.Leaving.{refused, told-one}
use Rattle.screen.proofs.feed.Goals as goal

pub returns-in-Ok : goal.returns-in-Ok
returns-in-Ok c =
    let ys = c.args.screens.now in
    let session = c.args.session.now in
    told-one ys session (event_said c.args.event) c.in-Ok.at (subst (Finds ys session) c.in-Ok.is c.find.ensures) c.tell.new.screens c.tell.ensures

pub returns-in-Err : goal.returns-in-Err
returns-in-Err c =
    let ys = c.args.screens.now in
    let session = c.args.session.now in
    refused ys session (event_said c.args.event) c.in-Err.refusal (subst (Finds ys session) c.in-Err.is c.find.ensures)
