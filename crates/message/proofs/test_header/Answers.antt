-- The header's tests in their order: each way out is a law of Heads.
use mathlib.Core.Path.{sym, ◌∙◌}
use native.Mathlib.Omega.{arith}
use Rattle.message.proofs.Heads.{header-bits, header-error, header-command, header-265, header-265-other, header-275, header-275-other}
use Rattle.message.specs.Failures.{failure_code, failed_with}
use Rattle.message.proofs.test_header.Goals as goal

pub returns-then-flags-ne0 : goal.returns-then-flags-ne0
unfolding failed_with failure_code
returns-then-flags-ne0 c = sym (header-bits c.args.m.now c.if-flags-ne0.true)

pub returns-then-flags-ne0-2 : goal.returns-then-flags-ne0-2
unfolding failed_with failure_code
returns-then-flags-ne0-2 c = sym (header-error c.args.m.now c.if-flags-ne0.false c.if-flags-ne0-2.true)

pub returns-then-application-eq1 : goal.returns-then-application-eq1
unfolding failed_with failure_code
returns-then-application-eq1 c =
    let m = c.args.m.now in
    sym (header-265 m c.if-flags-ne0.false c.if-flags-ne0-2.false (sym c.read24-command.ensures.0 ∙ c.if-command-eq265.true)
    (sym c.read32-application.ensures ∙ c.if-application-eq1.true))

pub returns-then-command-eq265 : goal.returns-then-command-eq265
unfolding failed_with failure_code
returns-then-command-eq265 c =
    let m = c.args.m.now in
    sym (header-265-other m c.if-flags-ne0.false c.if-flags-ne0-2.false (sym c.read24-command.ensures.0 ∙ c.if-command-eq265.true)
    (λ z. c.if-application-eq1.false (c.read32-application.ensures ∙ z)))

pub returns-then-application-le1 : goal.returns-then-application-le1
unfolding failed_with failure_code
returns-then-application-le1 c =
    let m = c.args.m.now in
    let p = sym c.read24-command.ensures.0 ∙ c.if-command-eq275.true in
    let e = c.read32-application.ensures in
    sym (header-275 m c.if-flags-ne0.false c.if-flags-ne0-2.false p (omega (arith, e)))

pub returns-then-command-eq275 : goal.returns-then-command-eq275
unfolding failed_with failure_code
returns-then-command-eq275 c =
    let m = c.args.m.now in
    let p = sym c.read24-command.ensures.0 ∙ c.if-command-eq275.true in
    let e = c.read32-application.ensures in
    sym (header-275-other m c.if-flags-ne0.false c.if-flags-ne0-2.false p (omega (arith, e)))

pub returns : goal.returns
unfolding failed_with failure_code
returns c =
    let m = c.args.m.now in
    let e = c.read24-command.ensures.0 in
    sym (header-command m c.if-flags-ne0.false c.if-flags-ne0-2.false (λ z. c.if-command-eq265.false (e ∙ z)) (λ z. c.if-command-eq275.false (e ∙ z)))
