-- Session-Id first, then the fields of both requests, then those of the command.
use mathlib.Core.Path.{sym, ◌∙◌}
use Rattle.reasons.specs.Reasons.{check_named}
use Rattle.reasons.proofs.Laws.{fields-joined, not_first, list-265, list-275}
use Rattle.reasons.proofs.lists_failed.Goals as goal

pub returns-then-not-starts : goal.returns-then-not-starts
unfolding check_named
returns-then-not-starts c = not_first c.args.m.now c.args.most (sym c.starts.ensures ∙ c.if-not-starts.true)

pub returns-then-read24-eq265 : goal.returns-then-read24-eq265
returns-then-read24-eq265 c =
    let given = c.args in
    let m = c.args.m.now in
    fields-joined m _ _ _ _ _ c.first_of.ensures c.both_failed-both.ensures c.list_265_failed.ensures
    ∙ list-265 m given.most (sym c.starts.ensures ∙ c.if-not-starts.false) (sym c.read24.ensures.0 ∙ c.if-read24-eq265.true)

pub returns : goal.returns
returns c =
    let given = c.args in
    let m = c.args.m.now in
    fields-joined m _ _ _ _ _ c.first_of-2.ensures c.both_failed-both.ensures c.list_275_failed.ensures
    ∙ list-275 m given.most (sym c.starts.ensures ∙ c.if-not-starts.false) (λ e. c.if-read24-eq265.false (c.read24.ensures.0 ∙ e))
