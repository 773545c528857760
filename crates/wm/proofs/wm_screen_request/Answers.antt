-- The list is told what the request says.
use Rattle.std.proofs.Common.{ap, ◌∙◌}
use Rattle.screen.specs.TheBoard.{feed, feed_request}
use Rattle.wm.proofs.wm_screen_request.Goals as goal

pub returns : goal.returns
unfolding feed_request
returns c = c.feed.ensures ∙ ap (feed c.args.screens.now c.args.session.now) c.request_says.ensures
