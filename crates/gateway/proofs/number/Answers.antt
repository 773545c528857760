-- The tests in their order: each way out is a law of Calls.
use mathlib.Core.Path.{sym, ◌∙◌}
use native.Mathlib.Omega.{arith}
use Rattle.gateway.proofs.Calls.{number-host, number-realm, number-answer, number-request, number-access, number-message}
use Rattle.gateway.proofs.number.Goals as goal

pub returns-then-not-is_within : goal.returns-then-not-is_within
returns-then-not-is_within c =
    let given = c.args in
    let is-within-was = c.is_within in
    let test1 = c.if-not-is_within in
    sym (number-host given.host given.realm given.answer given.request given.fits given.m.now (sym is-within-was.ensures ∙ test1.true))

pub returns-then-not-is_within-2 : goal.returns-then-not-is_within-2
returns-then-not-is_within-2 c =
    let given = c.args in
    let is-within-was = c.is_within in
    let test1 = c.if-not-is_within in
    let is-within2-was = c.is_within-2 in
    let test2 = c.if-not-is_within-2 in
    sym (number-realm given.host given.realm given.answer given.request given.fits given.m.now (sym is-within-was.ensures ∙ test1.false) (sym is-within2-was.ensures ∙ test2.true))

pub returns-then-answer-lt-ANSWER_LEAST : goal.returns-then-answer-lt-ANSWER_LEAST
returns-then-answer-lt-ANSWER_LEAST c =
    let given = c.args in
    let is-within-was = c.is_within in
    let test1 = c.if-not-is_within in
    let is-within2-was = c.is_within-2 in
    let test2 = c.if-not-is_within-2 in
    let test3 = c.if-answer-lt-ANSWER_LEAST in
    sym (number-answer given.host given.realm given.answer given.request given.fits given.m.now (sym is-within-was.ensures ∙ test1.false) (sym is-within2-was.ensures ∙ test2.false) test3.true)

pub returns-then-request-lt-ANSWER_LEAST : goal.returns-then-request-lt-ANSWER_LEAST
returns-then-request-lt-ANSWER_LEAST c =
    let given = c.args in
    let is-within-was = c.is_within in
    let test1 = c.if-not-is_within in
    let is-within2-was = c.is_within-2 in
    let test2 = c.if-not-is_within-2 in
    let test3 = c.if-answer-lt-ANSWER_LEAST in
    let test4 = c.if-request-lt-ANSWER_LEAST in
    sym (number-request given.host given.realm given.answer given.request given.fits given.m.now (sym is-within-was.ensures ∙ test1.false) (sym is-within2-was.ensures ∙ test2.false) (omega (arith, test3.false)) test4.true)

pub returns-then-not-fits : goal.returns-then-not-fits
returns-then-not-fits c =
    let given = c.args in
    let is-within-was = c.is_within in
    let test1 = c.if-not-is_within in
    let is-within2-was = c.is_within-2 in
    let test2 = c.if-not-is_within-2 in
    let test3 = c.if-answer-lt-ANSWER_LEAST in
    let test4 = c.if-request-lt-ANSWER_LEAST in
    let test5 = c.if-not-fits in
    sym (number-access given.host given.realm given.answer given.request given.fits given.m.now (sym is-within-was.ensures ∙ test1.false) (sym is-within2-was.ensures ∙ test2.false) (omega (arith, test3.false)) (omega (arith, test4.false)) (test5.true))

pub returns : goal.returns
returns c =
    let number-was = c.number in
    let given = c.args in
    let is-within-was = c.is_within in
    let test1 = c.if-not-is_within in
    let is-within2-was = c.is_within-2 in
    let test2 = c.if-not-is_within-2 in
    let test3 = c.if-answer-lt-ANSWER_LEAST in
    let test4 = c.if-request-lt-ANSWER_LEAST in
    let test5 = c.if-not-fits in
    number-was.ensures ∙ sym (number-message given.host given.realm given.answer given.request given.fits given.m.now (sym is-within-was.ensures ∙ test1.false) (sym is-within2-was.ensures ∙ test2.false) (omega (arith, test3.false)) (omega (arith, test4.false)) (test5.false))
