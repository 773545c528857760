-- Asked as if the gateway said yes, the plan tells whether there is an access: `policy-planned` of OnRow.
use borrow.Enum.Refused.{opened}
use mathlib.Core.Path.{sym, ap, ◌∙◌}
use Rattle.order.specs.ChecksInOrder.{check, gateway_says_no}
use Rattle.message.specs.Codes.{plain}
use Rattle.octets.specs.Choice.{pick}
use Rattle.plans.specs.declared.Plan.{Plan}
use Rattle.message.specs.Codes.{number_of}
use Rattle.plans.specs.Plans.{plan_code}
use Rattle.table.specs.TheTable.{read_row}
use Rattle.reasons.specs.Reasons.{check_named}
use Rattle.reasons.proofs.OnRow.{opening, policy_entry, policy-planned, policy-goes}
use Rattle.reasons.proofs.policy_failed.Goals as goal

pub returns-in-UnableToComply : goal.returns-in-UnableToComply
unfolding check_named policy_entry plan_code number_of pick
returns-in-UnableToComply c =
    let a = c.args in
    let p = c.plan_policy-plan in
    λ first second third.
    ap (λ (x : Plan). policy_entry a.wag (number_of (plan_code x))) (sym c.in-UnableToComply.is)
    ∙ policy-planned a.session.now first second third (read_row a.row.now) (opening a.session.now) a.wag p.result (p.ensures.0 _ _)

pub returns-then-wag : goal.returns-then-wag
unfolding check_named check
returns-then-wag c =
    let a = c.args in
    let p = c.plan_policy-plan in
    λ first second third.
    ap (λ b. check gateway_says_no b (plain 5012)) (sym c.if-wag.true)
    ∙ policy-goes a.wag p.result (opened c.in_default.in_default-own.keys2)
    ∙ policy-planned a.session.now first second third (read_row a.row.now) (opening a.session.now) a.wag p.result (p.ensures.0 _ _)

pub returns : goal.returns
unfolding check_named check
returns c =
    let a = c.args in
    let p = c.plan_policy-plan in
    λ first second third.
    ap (λ b. check gateway_says_no b (plain 5012)) (sym c.if-wag.false)
    ∙ policy-goes a.wag p.result (opened c.in_default.in_default-own.keys2)
    ∙ policy-planned a.session.now first second third (read_row a.row.now) (opening a.session.now) a.wag p.result (p.ensures.0 _ _)
