-- With V it is 0; without V the four bytes are read.
use mathlib.Core.Path.{sym, ◌∙◌}
use native.Mathlib.Omega.{arith}
use Rattle.abort.proofs.Answers.{code-v, code-base}
use Rattle.abort.proofs.code_at.Goals as goal

pub returns-then-m-at-ge128 : goal.returns-then-m-at-ge128
returns-then-m-at-ge128 c =
    let given = c.args in
    let test1 = c.if-m-at-ge128 in
    sym (code-v given.m.now given.at test1.true)

pub returns : goal.returns
returns c =
    let read32-was = c.read32 in
    let given = c.args in
    let test1 = c.if-m-at-ge128 in
    read32-was.ensures ∙ sym (code-base given.m.now given.at (omega (arith, test1.false)))
