-- The tests in their order: each way out is a law of Reading.
use mathlib.Core.Path.{sym, ◌∙◌}
use Rattle.message.specs.Failures.{failure_code, failed_with}
use Rattle.gateway.proofs.Reading.{header-bits, header-error, header-command, header-application, header-none}
use Rattle.gateway.proofs.test_header.Goals as goal

pub returns-then-flags-ne0 : goal.returns-then-flags-ne0
unfolding failed_with failure_code
returns-then-flags-ne0 c =
    let given = c.args in
    let test1 = c.if-flags-ne0 in
    sym (header-bits given.m.now test1.true)

pub returns-then-flags-ne0-2 : goal.returns-then-flags-ne0-2
unfolding failed_with failure_code
returns-then-flags-ne0-2 c =
    let given = c.args in
    let test1 = c.if-flags-ne0 in
    let test2 = c.if-flags-ne0-2 in
    sym (header-error given.m.now test1.false test2.true)

pub returns-then-read24-ne258 : goal.returns-then-read24-ne258
unfolding failed_with failure_code
returns-then-read24-ne258 c =
    let given = c.args in
    let test1 = c.if-flags-ne0 in
    let test2 = c.if-flags-ne0-2 in
    let test3 = c.if-read24-ne258 in
    let read24-was = c.read24 in
    sym (header-command given.m.now test1.false test2.false (λ z. test3.true (read24-was.ensures.0 ∙ z)))

pub returns-then-read32-ne1 : goal.returns-then-read32-ne1
unfolding failed_with failure_code
returns-then-read32-ne1 c =
    let given = c.args in
    let test1 = c.if-flags-ne0 in
    let test2 = c.if-flags-ne0-2 in
    let read24-was = c.read24 in
    let test3 = c.if-read24-ne258 in
    let test4 = c.if-read32-ne1 in
    let read32-was = c.read32 in
    sym (header-application given.m.now test1.false test2.false (sym read24-was.ensures.0 ∙ test3.false) (λ z. test4.true (read32-was.ensures ∙ z)))

pub returns : goal.returns
unfolding failed_with failure_code
returns c =
    let given = c.args in
    let test1 = c.if-flags-ne0 in
    let test2 = c.if-flags-ne0-2 in
    let read24-was = c.read24 in
    let test3 = c.if-read24-ne258 in
    let read32-was = c.read32 in
    let test4 = c.if-read32-ne1 in
    sym (header-none given.m.now test1.false test2.false (sym read24-was.ensures.0 ∙ test3.false) (sym read32-was.ensures ∙ test4.false))
