-- A law of Answers for each way out of the header's tests.
use mathlib.Core.Path.{◌≡◌, sym, ap, ◌∙◌}
use Prim.Native.Nat.{ℕ}
use native.Mathlib.Omega.{arith}
use borrow.Author.Tests.{eqb-true, eqb-false}
use lib.Dec.{eqb}
use Rattle.octets.specs.Numbers.{net32}
use Rattle.message.specs.CallsThatGetNoAnswer.{message_number}
use Rattle.message.specs.ReadingAMessage.{command}
use Rattle.abort.proofs.Answers.{to_number, has-header, to-command, to-hop, to_end}
use Rattle.abort.proofs.answers_to.Goals as goal

pub returns-then-number-ne8 : goal.returns-then-number-ne8
returns-then-number-ne8 c =
    let given = c.args in
    let test1 = c.if-number-ne8 in
    let number-was = c.number in
    sym (to_number given.hop given.end given.answer.now (λ z. test1.true (number-was.ensures ∙ z)))

pub is_abort-requires : goal.is_abort-requires
is_abort-requires c =
    let given = c.args in
    let number-was = c.number in
    let test1 = c.if-number-ne8 in
    let h : message_number given.answer.now ≡ 8 = sym number-was.ensures ∙ test1.false in
    omega (arith, has-header given.hop given.end given.answer.now h)

pub returns-then-not-is_abort : goal.returns-then-not-is_abort
returns-then-not-is_abort c =
    let given = c.args in
    let number-was = c.number in
    let test1 = c.if-number-ne8 in
    let is-abort-was = c.is_abort in
    let test2 = c.if-not-is_abort in
    let h : message_number given.answer.now ≡ 8 = sym number-was.ensures ∙ test1.false in
    sym (to-command given.hop given.end given.answer.now h (eqb-false (command given.answer.now) 274 (sym is-abort-was.ensures ∙ test2.true)))

pub read32-requires : goal.read32-requires
read32-requires c =
    let given = c.args in
    let number-was = c.number in
    let test1 = c.if-number-ne8 in
    let h : message_number given.answer.now ≡ 8 = sym number-was.ensures ∙ test1.false in
    omega (arith, has-header given.hop given.end given.answer.now h)

pub returns-then-read32-hop : goal.returns-then-read32-hop
returns-then-read32-hop c =
    let given = c.args in
    let number-was = c.number in
    let test1 = c.if-number-ne8 in
    let is-abort-was = c.is_abort in
    let test2 = c.if-not-is_abort in
    let test3 = c.if-read32-hop in
    let read32-was = c.read32 in
    let h : message_number given.answer.now ≡ 8 = sym number-was.ensures ∙ test1.false in
    let d : command given.answer.now ≡ 274 = eqb-true (command given.answer.now) 274 (sym is-abort-was.ensures ∙ test2.false) in
    sym (to-hop given.hop given.end given.answer.now h d (λ z. test3.true (read32-was.ensures ∙ z)))

pub read32-requires-2 : goal.read32-requires-2
read32-requires-2 c =
    let given = c.args in
    let number-was = c.number in
    let test1 = c.if-number-ne8 in
    let h : message_number given.answer.now ≡ 8 = sym number-was.ensures ∙ test1.false in
    omega (arith, has-header given.hop given.end given.answer.now h)

pub returns : goal.returns
returns c =
    let given = c.args in
    let number-was = c.number in
    let test1 = c.if-number-ne8 in
    let is-abort-was = c.is_abort in
    let test2 = c.if-not-is_abort in
    let read32-was = c.read32 in
    let test3 = c.if-read32-hop in
    let read322-was = c.read32-2 in
    let h : message_number given.answer.now ≡ 8 = sym number-was.ensures ∙ test1.false in
    let d : command given.answer.now ≡ 274 = eqb-true (command given.answer.now) 274 (sym is-abort-was.ensures ∙ test2.false) in
    let p : net32 given.answer.now 12 ≡ given.hop = sym read32-was.ensures ∙ test3.false in
    ap (λ (k : ℕ). eqb k given.end) read322-was.ensures ∙ sym (to_end given.hop given.end given.answer.now h d p)
