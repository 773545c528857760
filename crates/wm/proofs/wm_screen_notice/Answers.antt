-- The notice is a cut.
use Rattle.screen.specs.TheBoard.{feed_notice}
use Rattle.screen.specs.Code.{event_said}
use Rattle.wm.proofs.wm_screen_notice.Goals as goal

pub returns : goal.returns
unfolding feed_notice event_said
returns c = c.feed.ensures
