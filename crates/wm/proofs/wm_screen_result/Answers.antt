-- The list is told what the result says.
use Rattle.std.proofs.Common.{ap, ◌∙◌}
use Rattle.screen.specs.TheBoard.{feed, feed_result}
use Rattle.wm.proofs.wm_screen_result.Goals as goal

pub returns : goal.returns
unfolding feed_result
returns c = c.feed.ensures ∙ ap (feed c.args.screens.now c.args.session.now) c.result_says.ensures
