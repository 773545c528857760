-- Two texts of 128 bytes, and three in form 2.
use mathlib.Core.Path.{refl}
use borrow.Author.Tests.{eq-eqb, ne_eqb}
use Rattle.octets.specs.Choice.{pick}
use Rattle.message.specs.TheRooms.{notice_length}
use Rattle.decision.proofs.handling.notice_length.Goals as goal

pub returns-then-form-ne2 : goal.returns-then-form-ne2
unfolding notice_length pick
returns-then-form-ne2 c =
    let given = c.args in
    rw (ne_eqb given.form 2 c.if-form-ne2.true) refl

pub returns : goal.returns
unfolding notice_length pick
returns c =
    let given = c.args in
    rw (eq-eqb given.form 2 c.if-form-ne2.false) refl
