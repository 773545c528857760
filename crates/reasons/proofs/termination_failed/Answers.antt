-- `end-planned` of OnRow.
use borrow.Enum.Refused.{opened}
use mathlib.Core.Path.{sym, ap, ◌∙◌}
use Rattle.octets.specs.Choice.{pick}
use Rattle.plans.specs.declared.Plan.{Plan}
use Rattle.message.specs.Codes.{number_of}
use Rattle.plans.specs.Plans.{plan_code}
use Rattle.table.specs.TheTable.{read_row}
use Rattle.reasons.specs.Reasons.{check_named}
use Rattle.reasons.proofs.OnRow.{opening, end_entry, end-planned, end-passes}
use Rattle.reasons.proofs.termination_failed.Goals as goal

pub returns-in-UnusedByUser : goal.returns-in-UnusedByUser
unfolding check_named end_entry plan_code number_of pick
returns-in-UnusedByUser c =
    let a = c.args in
    let p = c.plan_termination in
    λ wag.
    ap (λ (x : Plan). end_entry (number_of (plan_code x))) (sym c.in-UnusedByUser.is)
    ∙ end-planned a.session.now a.label.now wag (read_row a.row.now) (opening a.session.now) p.result (p.ensures.0 _ _)

pub returns-in_default : goal.returns-in_default
unfolding check_named
returns-in_default c =
    let a = c.args in
    let p = c.plan_termination in
    λ wag.
    end-passes p.result (opened c.in_default.in_default-own.keys2)
    ∙ end-planned a.session.now a.label.now wag (read_row a.row.now) (opening a.session.now) p.result (p.ensures.0 _ _)
