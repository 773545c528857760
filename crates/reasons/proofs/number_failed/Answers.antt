-- The field has the code that its reader gives.
use mathlib.Core.Path.{refl, ◌∙◌}
use Rattle.message.specs.ReadingAMessage.{avps, having, number_field, field_code}
use Rattle.message.specs.Positions.{name_at}
use Rattle.reasons.proofs.Laws.{field-one}
use Rattle.reasons.proofs.number_failed.Goals as goal

pub returns : goal.returns
unfolding number_field field_code
returns c =
    let a = c.args in
    let f = number_field (name_at a.slot) a.low a.high in
    c.field_failed.ensures f (having (name_at a.slot) (avps a.m.now)) refl c.number_field-g.ensures.code
    ∙ field-one a.m.now f
