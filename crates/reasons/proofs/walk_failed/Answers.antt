use mathlib.Core.Path.{◌≡◌, refl, sym, ◌∙◌}
use native.Mathlib.Omega.{arith}
use lib.ListN.{drop}
use Rattle.reader.specs.Steps.{step_at}
use Rattle.reader.specs.declared.Step.TheVariants.{One}
use Rattle.reader.proofs.Laws.{placed}
use Rattle.order.specs.ChecksInOrder.{walk_checks}
use Rattle.reasons.specs.Reasons.{check_named}
use Rattle.reasons.proofs.Laws.{walk_ends, walk-stops, walk-refuses, walk-goes}
use Rattle.reasons.proofs.walk_failed.Goals as goal

pub loop-fault-init : goal.loop-fault-init
unfolding walk_checks
loop-fault-init c = (c.requires, refl)

pub returns-in-End : goal.returns-in-End
unfolding check_named
returns-in-End c =
    let m = c.args.m.now in
    let l = c.loop-fault in
    walk_ends m l.at (sym c.avp_at-step.ensures ∙ c.in-End.is) ∙ l.invariant.1

pub returns-in-Bad : goal.returns-in-Bad
returns-in-Bad c =
    let m = c.args.m.now in
    let l = c.loop-fault in
    let fault = c.in-Bad.fault in
    let s = walk-stops m l.at fault (sym c.avp_at-step.ensures ∙ c.in-Bad.is) in
    c.avp_failed.ensures (drop l.at m) s.bad s.which ∙ s.first ∙ l.invariant.1

pub returns-then-not-is_supported : goal.returns-then-not-is_supported
unfolding check_named
returns-then-not-is_supported c =
    let m = c.args.m.now in
    let l = c.loop-fault in
    let a = c.in-One.a in
    let e : step_at m l.at ≡ One a = sym c.avp_at-step.ensures ∙ c.in-One.is in
    let s = c.is_supported in
    walk-refuses m l.at a e (sym s.ensures ∙ c.if-not-is_supported.true) ∙ l.invariant.1

pub loop-fault-smaller : goal.loop-fault-smaller
loop-fault-smaller c =
    let m = c.args.m.now in
    let l = c.loop-fault in
    let a = c.in-One.a in
    let p = placed m l.at a (sym c.avp_at-step.ensures ∙ c.in-One.is) in
    omega (arith, p.on, p.inside)

pub loop-fault-preserved : goal.loop-fault-preserved
loop-fault-preserved c =
    let m = c.args.m.now in
    let l = c.loop-fault in
    let a = c.in-One.a in
    let e : step_at m l.at ≡ One a = sym c.avp_at-step.ensures ∙ c.in-One.is in
    let s = c.is_supported in
    ((placed m l.at a e).inside, walk-goes m l.at a e (sym s.ensures ∙ c.if-not-is_supported.false) ∙ l.invariant.1)
