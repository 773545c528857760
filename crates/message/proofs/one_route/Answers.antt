-- The text's answer is that of the policies, where one is there at most or one is allowed.
use mathlib.Core.Path.{ap, ◌∙◌}
use Rattle.std.specs.Prelude.{Ok}
use Rattle.std.proofs.lemmas.Result.{err_from_is_err_and}
use Rattle.message.specs.Positions.{names, name_at}
use Rattle.message.proofs.Policies.{one_found, one-absent, one-wrong}
use Rattle.message.proofs.one_route.Goals as goal

pub returns : goal.returns
unfolding name_at names
returns c =
    let t = c.text_field in
    λ most h o. one_found c.args.m.now c.args.index.now c.requires most h o t.result t.ensures c.in-Some.first (c.in_ok-first.was ∙ ap Ok c.in-Some.is)

pub returns-in_default : goal.returns-in_default
unfolding name_at names
returns-in_default c =
    let t = c.text_field in
    λ most h o. one-absent c.args.m.now c.args.index.now c.requires most h o t.result t.ensures (c.in_ok-first.was ∙ ap Ok c.in_default.is)

pub returns-in_err-first : goal.returns-in_err-first
unfolding name_at names
returns-in_err-first c =
    let t = c.text_field in
    let p = err_from_is_err_and c.from_residual.result c.from_residual.ensures.1 in
    rw (p.1, p.2) (λ most h o. one-wrong c.args.m.now c.args.index.now c.requires most h o t.result t.ensures c.in_err-first.field-0.0 c.in_err-first.was)
