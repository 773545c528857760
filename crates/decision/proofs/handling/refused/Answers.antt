-- A refusal has no place, no cut and no user.
use mathlib.Core.Path.{refl}
use mathlib.Core.List.{[]}
use Rattle.rules.specs.Calls.{refusal, notice_room}
use Rattle.effects.specs.Carrying.{cut_for}
use Rattle.decision.proofs.Answered.{answered-is}
use Rattle.decision.proofs.handling.refused.Goals as goal

pub returns : goal.returns
unfolding refusal notice_room cut_for
returns c =
    let a = c.args in
    (refl, λ o m host realm room table notice wag. answered-is table.form a.kind a.code (record { at = 0; len = 0 }) o m host realm room notice wag 0 [] table notice refl)
