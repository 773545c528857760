-- Refusal by refusal: `tunnel-planned` of OnRow.
use borrow.Enum.Refused.{opened}
use mathlib.Core.Path.{refl, sym, ap, ◌∙◌}
use Rattle.octets.specs.Choice.{pick}
use Rattle.plans.specs.declared.Plan.{Plan}
use Rattle.message.specs.Codes.{number_of}
use Rattle.plans.specs.Plans.{plan_code}
use Rattle.table.specs.TheTable.{read_row}
use Rattle.reasons.specs.Reasons.{check_named}
use Rattle.reasons.proofs.OnRow.{opening, tunnel_entry, tunnel-planned, tunnel-passes}
use Rattle.reasons.proofs.tunnel_failed.Goals as goal

pub returns-in-NotSubscribed : goal.returns-in-NotSubscribed
unfolding check_named tunnel_entry plan_code number_of pick
returns-in-NotSubscribed c =
    let a = c.args in
    let p = c.plan_tunnel in
    λ host realm wag.
    ap (λ (x : Plan). tunnel_entry (number_of (plan_code x))) (sym c.in-NotSubscribed.is)
    ∙ tunnel-planned host realm a.label.now a.visited wag (read_row a.row.now) (opening a.session.now) p.result (p.ensures.0 _ _ refl)

pub returns-in-Barred : goal.returns-in-Barred
unfolding check_named tunnel_entry plan_code number_of pick
returns-in-Barred c =
    let a = c.args in
    let p = c.plan_tunnel in
    λ host realm wag.
    ap (λ (x : Plan). tunnel_entry (number_of (plan_code x))) (sym c.in-Barred.is)
    ∙ tunnel-planned host realm a.label.now a.visited wag (read_row a.row.now) (opening a.session.now) p.result (p.ensures.0 _ _ refl)

pub returns-in-RoamingNotAllowed : goal.returns-in-RoamingNotAllowed
unfolding check_named tunnel_entry plan_code number_of pick
returns-in-RoamingNotAllowed c =
    let a = c.args in
    let p = c.plan_tunnel in
    λ host realm wag.
    ap (λ (x : Plan). tunnel_entry (number_of (plan_code x))) (sym c.in-RoamingNotAllowed.is)
    ∙ tunnel-planned host realm a.label.now a.visited wag (read_row a.row.now) (opening a.session.now) p.result (p.ensures.0 _ _ refl)

pub returns-in-UnableToComply : goal.returns-in-UnableToComply
unfolding check_named tunnel_entry plan_code number_of pick
returns-in-UnableToComply c =
    let a = c.args in
    let p = c.plan_tunnel in
    λ host realm wag.
    ap (λ (x : Plan). tunnel_entry (number_of (plan_code x))) (sym c.in-UnableToComply.is)
    ∙ tunnel-planned host realm a.label.now a.visited wag (read_row a.row.now) (opening a.session.now) p.result (p.ensures.0 _ _ refl)

pub returns-in_default : goal.returns-in_default
unfolding check_named
returns-in_default c =
    let a = c.args in
    let p = c.plan_tunnel in
    λ host realm wag.
    tunnel-passes p.result (opened c.in_default.in_default-own.keys5)
    ∙ tunnel-planned host realm a.label.now a.visited wag (read_row a.row.now) (opening a.session.now) p.result (p.ensures.0 _ _ refl)
