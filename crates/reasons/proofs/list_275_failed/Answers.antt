-- Field by field: `fields-joined` of Laws.
use mathlib.Core.List.{[], ◌∷◌}
use Rattle.message.specs.ReadingAMessage.{text_field, label_field, number_field, for275}
use Rattle.message.specs.Positions.{names, name_at}
use Rattle.message.specs.Spans.{bytes_field}
use Rattle.reasons.proofs.Laws.{fields-joined}
use Rattle.reasons.proofs.list_275_failed.Goals as goal

pub returns : goal.returns
unfolding for275 text_field label_field number_field bytes_field name_at names
returns c =
    let m = c.args.m.now in
    let join = fields-joined m in
    join (_ ∷ []) _ _ _ _ c.first_of-3.ensures c.number_failed-cause.ensures
    (join (_ ∷ []) _ _ _ _ c.first_of-2.ensures c.text_failed-host.ensures
    (join (_ ∷ []) (_ ∷ []) _ _ _ c.first_of.ensures c.text_failed-user.ensures c.text_failed-label.ensures))
