-- The message's walk tests the AVP; each of its answers is a step.
use mathlib.Core.Path.{◌≡◌, sym, ap, ◌∙◌}
use native.Mathlib.Omega.{arith}
use lib.ListN.{drop}
use Rattle.message.specs.ReadingAMessage.{avp_code, avp_of}
use Rattle.message.specs.Positions.{spot_at}
use Rattle.message.specs.Failures.{failed_with}
use Rattle.message.proofs.Failures.{failure-least}
use Rattle.message.proofs.Gathering.{slot-says}
use Rattle.reader.specs.declared.Step.TheVariants.{One, Bad}
use Rattle.reader.proofs.Laws.{step_end, step-one, step-bad}
use Rattle.reader.proofs.step_at.Goals as goal

pub returns-then-m-at : goal.returns-then-m-at
returns-then-m-at c =
    let a = c.args in
    sym (step_end a.m.now a.at (omega arith))

pub seen_at-requires : goal.seen_at-requires
unfolding spot_at failed_with
seen_at-requires c =
    let a = c.args in
    let passes : avp_code (drop a.at a.m.now) ≡ 0 = c.head_at.ensures.code ∙ ap failed_with c.in-Ok.is in
    let is = c.head_at.ensures.one c.in-Ok.a c.in-Ok.is in
    (omega arith, passes, ap (λ s. s.next) is, rw is (sym (slot-says (avp_of (drop a.at a.m.now)).name)))

pub returns-in-Err : goal.returns-in-Err
unfolding failed_with
returns-in-Err c =
    let a = c.args in
    let code = c.head_at.ensures.code ∙ ap failed_with c.in-Err.is in
    ap Bad c.fault_at.ensures ∙ sym (step-bad a.m.now a.at (omega arith) (rw code (failure-least c.in-Err.field-0)))

pub returns-in-Ok : goal.returns-in-Ok
unfolding failed_with
returns-in-Ok c =
    let a = c.args in
    ap One c.seen_at.ensures ∙ sym (step-one a.m.now a.at (omega arith) (c.head_at.ensures.code ∙ ap failed_with c.in-Ok.is))
