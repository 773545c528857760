-- 1 for yes, 0 for no.
use mathlib.Core.Path.{◌≡◌, refl, sym, ◌∙◌}
use mathlib.Core.Bool.{true, false}
use Rattle.octets.specs.Choice.{pick}
use Rattle.abort.specs.TheDisconnection.{belongs}
use Rattle.wm.proofs.wm_abort_answered.Goals as goal

pub returns-then-answered : goal.returns-then-answered
unfolding pick
returns-then-answered c =
    let given = c.args in
    let is : belongs given.answer.now given.session.now given.hop given.end ≡ true = sym c.answered.ensures ∙ c.if-answered.true in
    rw is refl

pub returns : goal.returns
unfolding pick
returns c =
    let given = c.args in
    let is : belongs given.answer.now given.session.now given.hop given.end ≡ false = sym c.answered.ensures ∙ c.if-answered.false in
    rw is refl
