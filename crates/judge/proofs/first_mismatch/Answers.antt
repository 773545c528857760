-- Each comparison that tells something tells it before the next is made.
use mathlib.Core.Path.{sym, ap, ◌∙◌}
use Rattle.std.proofs.lemmas.Result.{err_from_is_err_and}
use Rattle.likeness.specs.Code.{mismatch_number, said}
use Rattle.likeness.proofs.Differences.{err-tells, ok-tells-nothing}
use Rattle.judge.proofs.Cases.{by_answer, by-notice, by_row}
use Rattle.judge.proofs.first_mismatch.Goals as goal

pub returns-in_err-answer_found : goal.returns-in_err-answer_found
returns-in_err-answer_found c =
    let given = c.args in
    let answer = c.answer_found in
    let p = err_from_is_err_and c.from_residual.result c.from_residual.ensures.1 in
    rw (p.1, p.2)
    (sym (by_answer given.ours.now given.theirs.now given.our_notice.now given.their_notice.now given.row.now given.after.now (said answer.result) answer.ensures
    (err-tells answer.result c.in_err-answer_found.field-0.0 c.in_err-answer_found.was) ∙ ap said c.in_err-answer_found.was))

pub returns-in_err-compared : goal.returns-in_err-compared
unfolding mismatch_number
returns-in_err-compared c =
    let given = c.args in
    let answer = c.answer_found in
    let notice = c.compared in
    let p = err_from_is_err_and c.from_residual-in_err-compared.result c.from_residual-in_err-compared.ensures.1 in
    rw (p.1, p.2)
    (sym (by-notice given.ours.now given.theirs.now given.our_notice.now given.their_notice.now given.row.now given.after.now (said answer.result) answer.ensures
    (ok-tells-nothing answer.result c.in_ok-answer_found.field-0 c.in_ok-answer_found.was) (said notice.result) notice.ensures
    (err-tells notice.result c.in_err-compared.field-0.0 c.in_err-compared.was) ∙ ap said c.in_err-compared.was))

pub returns : goal.returns
unfolding mismatch_number
returns c =
    let given = c.args in
    let answer = c.answer_found in
    let notice = c.compared in
    c.compared-2.ensures
    ∙ sym (by_row given.ours.now given.theirs.now given.our_notice.now given.their_notice.now given.row.now given.after.now (said answer.result) answer.ensures
    (ok-tells-nothing answer.result c.in_ok-answer_found.field-0 c.in_ok-answer_found.was) (said notice.result) notice.ensures
    (ok-tells-nothing notice.result c.in_ok-compared.field-0 c.in_ok-compared.was))
