-- Where ours is an answer, the header is the one due or the first byte that differs is told; else none is due.
use mathlib.Core.Path.{sym, ◌∙◌}
use native.Mathlib.Omega.{arith}
use Rattle.likeness.specs.Code.{mismatch_number, said}
use Rattle.likeness.proofs.Headers.{none-due, not-due, header-differs, header-same}
use Rattle.likeness.proofs.header_found.Goals as goal

pub returns-then-theirs-eq0 : goal.returns-then-theirs-eq0
unfolding said mismatch_number
returns-then-theirs-eq0 c =
    let given = c.args in
    let test1 = c.if-ours-lt-HEADER_LENGTH in
    let test2 = c.if-theirs-eq0 in
    sym (none-due given.ours.now given.theirs.now test1.true test2.true)

pub returns-then-ours-lt-HEADER_LENGTH : goal.returns-then-ours-lt-HEADER_LENGTH
unfolding said mismatch_number
returns-then-ours-lt-HEADER_LENGTH c =
    let given = c.args in
    let test1 = c.if-ours-lt-HEADER_LENGTH in
    let test2 = c.if-theirs-eq0 in
    sym (not-due given.ours.now given.theirs.now test1.true test2.false)

pub returns-then-header_right : goal.returns-then-header_right
unfolding said mismatch_number
returns-then-header_right c =
    let header-right-was = c.header_right in
    let test3 = c.if-header_right in
    sym (header-right-was.ensures test3.true)

pub returns-then-at-lt-HEADER_LENGTH : goal.returns-then-at-lt-HEADER_LENGTH
unfolding said mismatch_number
returns-then-at-lt-HEADER_LENGTH c =
    let given = c.args in
    let test1 = c.if-ours-lt-HEADER_LENGTH in
    let header-agrees-was = c.header_agrees-at in
    let test4 = c.if-at-lt-HEADER_LENGTH in
    sym (header-differs given.ours.now given.theirs.now (omega (arith, test1.false)) header-agrees-was.result header-agrees-was.ensures.0 test4.true)

pub returns : goal.returns
unfolding said mismatch_number
returns c =
    let given = c.args in
    let test1 = c.if-ours-lt-HEADER_LENGTH in
    let header-agrees-was = c.header_agrees-at in
    let test4 = c.if-at-lt-HEADER_LENGTH in
    sym (header-same given.ours.now given.theirs.now (omega (arith, test1.false)) (sym header-agrees-was.ensures.0 ∙ omega (arith, header-agrees-was.ensures.1, test4.false)))
