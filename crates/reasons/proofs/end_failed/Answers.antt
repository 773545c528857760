-- Field by field: `fields-joined` of Laws.
use mathlib.Core.List.{[], ◌∷◌}
use Rattle.message.specs.ReadingAMessage.{text_field, label_field}
use Rattle.message.specs.Positions.{names, name_at}
use Rattle.message.specs.Spans.{bytes_field}
use Rattle.reasons.specs.Parts.{behind_type}
use Rattle.reasons.proofs.Laws.{fields-joined}
use Rattle.reasons.proofs.end_failed.Goals as goal

pub returns : goal.returns
unfolding behind_type text_field label_field bytes_field name_at names
returns c =
    let m = c.args.m.now in
    let join = fields-joined m in
    join (_ ∷ []) _ _ _ _ c.first_of-2.ensures c.text_failed-visited.ensures
    (join (_ ∷ []) (_ ∷ []) _ _ _ c.first_of.ensures c.text_failed-label.ensures c.routes_failed-routes.ensures)
