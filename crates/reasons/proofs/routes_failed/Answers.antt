-- The field has the code that its reader gives, of whatever policy it is.
use mathlib.Core.Path.{refl, ◌∙◌}
use Rattle.message.specs.ReadingAMessage.{avps, having, field_code, routing_policy, texts_field}
use Rattle.message.specs.Positions.{names, name_at}
use Rattle.reasons.proofs.Laws.{field-one}
use Rattle.reasons.proofs.routes_failed.Goals as goal

pub returns : goal.returns
unfolding texts_field field_code name_at names
returns c =
    let a = c.args in
    let f = texts_field a.most routing_policy a.required in
    c.field_failed.ensures f (having routing_policy (avps a.m.now)) refl (c.routes_field-g.ensures.code a.required)
    ∙ field-one a.m.now f
