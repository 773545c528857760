-- An answer too short for any AVP; then the header; then the AVPs.
use mathlib.Core.Path.{◌≡◌, sym, ◌∙◌}
use mathlib.Core.Bool.{true, false, and-false}
use native.Mathlib.Omega.{arith}
use Rattle.abort.specs.TheDisconnection.{answers_to, belongs}
use Rattle.abort.proofs.Answers.{to-size, first-few}
use Rattle.abort.proofs.answered.Goals as goal

pub returns-then-answer-lt28 : goal.returns-then-answer-lt28
unfolding belongs
returns-then-answer-lt28 c =
    let given = c.args in
    let test1 = c.if-answer-lt28 in
    let m = c.args.answer.now in
    rw (first-few m given.session.now test1.true) (sym (and-false (answers_to given.hop given.end m)))

pub returns-then-not-answers_to : goal.returns-then-not-answers_to
unfolding belongs
returns-then-not-answers_to c =
    let given = c.args in
    let answers-to-was = c.answers_to in
    let test2 = c.if-not-answers_to in
    let t : answers_to given.hop given.end given.answer.now ≡ false = sym answers-to-was.ensures ∙ test2.true in
    rw t

pub answers_for-requires : goal.answers_for-requires
answers_for-requires c =
    let given = c.args in
    let answers-to-was = c.answers_to in
    let test2 = c.if-not-answers_to in
    let test1 = c.if-answer-lt28 in
    let t : answers_to given.hop given.end given.answer.now ≡ true = sym answers-to-was.ensures ∙ test2.false in
    (omega (arith, test1.false), to-size given.hop given.end given.answer.now t)

pub returns : goal.returns
unfolding belongs
returns c =
    let given = c.args in
    let answers-to-was = c.answers_to in
    let test2 = c.if-not-answers_to in
    let answers-for-was = c.answers_for in
    let t : answers_to given.hop given.end given.answer.now ≡ true = sym answers-to-was.ensures ∙ test2.false in
    rw t answers-for-was.ensures
