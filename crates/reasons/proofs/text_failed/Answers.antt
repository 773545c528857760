-- The field has the code that its reader gives.
use mathlib.Core.Path.{refl, ◌∙◌}
use Rattle.message.specs.ReadingAMessage.{avps, having, field_code}
use Rattle.message.specs.Positions.{name_at}
use Rattle.message.specs.Spans.{bytes_field}
use Rattle.reasons.proofs.Laws.{field-one}
use Rattle.reasons.proofs.text_failed.Goals as goal

pub returns : goal.returns
unfolding bytes_field field_code
returns c =
    let a = c.args in
    let f = bytes_field (name_at a.slot) a.required a.low a.high in
    c.field_failed.ensures f (having (name_at a.slot) (avps a.m.now)) refl (c.text_field-g.ensures a.required).code
    ∙ field-one a.m.now f
