-- The Session-Id comes first, since its length is the same in all turns.
use mathlib.Core.Path.{ap, ◌∙◌}
use Rattle.octets.specs.Texts.{same}
use Rattle.octets.proofs.Lists.{same-comm}
use Rattle.screen.specs.TheBoard.{is_of}
use Rattle.screen.proofs.is_of.Goals as goal

pub returns : goal.returns
unfolding is_of
returns c =
    let session = c.args.session.now in
    c.same_session.ensures ∙ ap (same session) c.session_of.ensures ∙ same-comm session _
