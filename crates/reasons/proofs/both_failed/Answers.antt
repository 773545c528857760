-- Field by field: `fields-joined` of Laws.
use mathlib.Core.List.{[], ◌∷◌}
use Rattle.message.specs.ReadingAMessage.{text_field, number_field, for_both}
use Rattle.message.specs.Positions.{names, name_at}
use Rattle.message.specs.Spans.{bytes_field}
use Rattle.reasons.proofs.Laws.{fields-joined}
use Rattle.reasons.proofs.both_failed.Goals as goal

pub returns : goal.returns
unfolding for_both text_field number_field bytes_field name_at names
returns c =
    let m = c.args.m.now in
    let join = fields-joined m in
    join (_ ∷ []) _ _ _ _ c.first_of-3.ensures c.text_failed-session.ensures
    (join (_ ∷ []) _ _ _ _ c.first_of-2.ensures c.number_failed-application.ensures
    (join (_ ∷ []) _ _ _ _ c.first_of.ensures c.text_failed-host.ensures
    (join (_ ∷ []) (_ ∷ []) _ _ _ c.first_of-realms.ensures c.text_failed-realm.ensures c.text_failed-destination.ensures)))
