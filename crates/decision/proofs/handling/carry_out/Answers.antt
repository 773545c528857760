-- The texts are those of the spans.
use mathlib.Core.Bool.{true}
use mathlib.Core.Path.{◌≡◌, ap, ◌∙◌}
use native.Mathlib.Omega.{arith}
use lib.ListN.{length}
use Rattle.table.specs.Answers.{lent}
use Rattle.table.specs.TheTable.{Policies, Subscriber, read_row, row_at}
use Rattle.rules.specs.Calls.{notice_room, table_after}
use Rattle.plans.specs.Plans.{Brought, fit_plan, planned}
use Rattle.effects.specs.Carrying.{brought_in, done_for}
use Rattle.decision.specs.Outcomes.{brought, policies_at}
use Rattle.decision.proofs.Answered.{inside-1, inside-2, inside-3, inside-4, inside-5, inside-6}
use Rattle.decision.proofs.handling.carry_out.Goals as goal

pub text-session-requires : goal.text-session-requires
text-session-requires c =
    let given = c.args in
    let pre-was = c.requires in
    inside-1 given.m.now given.t pre-was.5

pub text-gateway-requires : goal.text-gateway-requires
text-gateway-requires c =
    let given = c.args in
    let pre-was = c.requires in
    inside-2 given.m.now given.t pre-was.5

pub text-realm-requires : goal.text-realm-requires
text-realm-requires c =
    let given = c.args in
    let pre-was = c.requires in
    inside-3 given.m.now given.t pre-was.5

pub text-first-requires : goal.text-first-requires
text-first-requires c =
    let given = c.args in
    let pre-was = c.requires in
    inside-4 given.m.now given.t pre-was.5

pub text-second-requires : goal.text-second-requires
text-second-requires c =
    let given = c.args in
    let pre-was = c.requires in
    inside-5 given.m.now given.t pre-was.5

pub text-third-requires : goal.text-third-requires
text-third-requires c =
    let given = c.args in
    let pre-was = c.requires in
    inside-6 given.m.now given.t pre-was.5

pub carry-requires : goal.carry-requires
unfolding policies_at
carry-requires c =
    let text4-was = c.text-first in
    let text5-was = c.text-second in
    let text6-was = c.text-third in
    let given = c.args in
    let pre-was = c.requires in
    let text-was = c.text-session in
    let text2-was = c.text-gateway in
    let text3-was = c.text-realm in
    let first = c.text-first.ensures in
    let second = c.text-second.ensures in
    let third = c.text-third.ensures in
    let policies : record { first = text4-was.result.now; second = text5-was.result.now; third = text6-was.result.now } ≡ policies_at given.m.now given.t =
    λ i. record { first = first i; second = second i; third = third i } in
    let fits : fit_plan (record { first = text4-was.result.now; second = text5-was.result.now; third = text6-was.result.now }) given.plan (row_at (lent given.form given.table.now) given.i) ≡ true =
    ap (λ (p : Policies). fit_plan p given.plan (row_at (lent given.form given.table.now) given.i)) policies ∙ pre-was.4 in (
      pre-was.0,
      pre-was.1,
      pre-was.2,
      pre-was.3,
      fits,
      omega (arith, ap length text-was.ensures, pre-was.6),
      omega (arith, ap length text2-was.ensures, pre-was.7),
      omega (arith, ap length text3-was.ensures, pre-was.8),
    )

pub returns : goal.returns
unfolding brought policies_at
returns c =
    let given = c.args in
    let text-was = c.text-session in
    let text2-was = c.text-gateway in
    let text3-was = c.text-realm in
    let text4-was = c.text-first in
    let text5-was = c.text-second in
    let text6-was = c.text-third in
    let carry-was = c.carry in
    let t = lent given.form given.table.now in
    let s : Subscriber = read_row (row_at t given.i) in
    let b : brought_in given.form text-was.result.now text2-was.result.now text3-was.result.now text4-was.result.now text5-was.result.now text6-was.result.now ≡ brought given.form given.m.now given.t =
    λ i. brought_in given.form (text-was.ensures i) (text2-was.ensures i) (text3-was.ensures i) (text4-was.ensures i) (text5-was.ensures i) (text6-was.ensures i) in (
      carry-was.ensures.0 ∙ ap (λ (x : Brought). table_after t given.i (planned x given.plan s)) b,
      carry-was.ensures.1 ∙ ap (λ (x : Brought). notice_room given.form (planned x given.plan s).cut given.notice.now) b,
      carry-was.ensures.2 ∙ ap (λ (x : Brought). done_for (planned x given.plan s)) b,
    )
