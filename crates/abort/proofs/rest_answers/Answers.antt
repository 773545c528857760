use mathlib.Core.Path.{◌≡◌, refl, sym, ap, ◌∙◌}
use mathlib.Core.Bool.{Bool}
use Prim.Native.Nat.{◌+◌}
use native.Mathlib.Omega.{arith}
use lib.ListN.{length, drop, length-drop}
use Rattle.octets.specs.Numbers.{up4}
use Rattle.message.specs.ReadingAMessage.{walk}
use Rattle.abort.specs.Code.{rest_answers}
use Rattle.abort.proofs.Answers.{There, there, rest_end, rest-bad, place-spoilt, place-goes}
use Rattle.abort.proofs.rest_answers.Goals as goal

pub overflow_sub-left : goal.overflow_sub-left
overflow_sub-left c =
    let pre-was = c.requires in
    omega (arith, pre-was.0)

pub loop-left-init : goal.loop-left-init
loop-left-init c =
    let pre-was = c.requires in
    (omega (arith, pre-was.0), refl)

pub length_at-requires : goal.length_at-requires
length_at-requires c =
    let loop-was = c.loop-left in
    let pre-was = c.requires in
    (loop-was.invariant.0, omega (arith, loop-was.invariant.0, pre-was.1))

pub returns-in_default : goal.returns-in_default
returns-in_default c =
    let loop-was = c.loop-left in
    let loop-test-was = c.loop-left-test in
    let m = c.args.answer.now in
    let h : loop-was.at + loop-was.left ≡ length m = loop-was.invariant.0 in
    sym (rest-bad (drop loop-was.at m) (rw length-drop (omega (arith, h, loop-test-was.true))) loop-was.found c.in_default.ensures) ∙ loop-was.invariant.1

pub code_at-code-requires : goal.code_at-code-requires
code_at-code-requires c =
    let loop-was = c.loop-left in
    let n = c.in-Some.n in
    let passed = c.in-Some.ensures in
    let m = c.args.answer.now in
    let h : loop-was.at + loop-was.left ≡ length m = loop-was.invariant.0 in
    let t : There m loop-was.at loop-was.left n = there m loop-was.at loop-was.left n h passed.0 passed.1 in
    omega (arith, h, t.eight)

pub returns-then-is_spoilt : goal.returns-then-is_spoilt
returns-then-is_spoilt c =
    let loop-was = c.loop-left in
    let n = c.in-Some.n in
    let passed = c.in-Some.ensures in
    let code-at-was = c.code_at-code in
    let is-spoilt-was = c.is_spoilt in
    let test2 = c.if-is_spoilt in
    let m = c.args.answer.now in
    let h : loop-was.at + loop-was.left ≡ length m = loop-was.invariant.0 in
    let t : There m loop-was.at loop-was.left n = there m loop-was.at loop-was.left n h passed.0 passed.1 in
    sym (place-spoilt m loop-was.at loop-was.left n t code-at-was.result code-at-was.ensures loop-was.found (sym is-spoilt-was.ensures ∙ test2.true)) ∙ loop-was.invariant.1

pub overflow_add-whole : goal.overflow_add-whole
unfolding up4
overflow_add-whole c =
    let loop-was = c.loop-left in
    let n = c.in-Some.n in
    let passed = c.in-Some.ensures in
    let pre-was = c.requires in
    let m = c.args.answer.now in
    let h : loop-was.at + loop-was.left ≡ length m = loop-was.invariant.0 in
    let t : There m loop-was.at loop-was.left n = there m loop-was.at loop-was.left n h passed.0 passed.1 in
    omega (arith, t.whole, h, pre-was.1)

pub overflow_mul-whole : goal.overflow_mul-whole
unfolding up4
overflow_mul-whole c =
    let loop-was = c.loop-left in
    let n = c.in-Some.n in
    let passed = c.in-Some.ensures in
    let pre-was = c.requires in
    let m = c.args.answer.now in
    let h : loop-was.at + loop-was.left ≡ length m = loop-was.invariant.0 in
    let t : There m loop-was.at loop-was.left n = there m loop-was.at loop-was.left n h passed.0 passed.1 in
    omega (arith, t.whole, h, pre-was.1)

pub overflow_add-at : goal.overflow_add-at
unfolding up4
overflow_add-at c =
    let loop-was = c.loop-left in
    let n = c.in-Some.n in
    let passed = c.in-Some.ensures in
    let pre-was = c.requires in
    let m = c.args.answer.now in
    let h : loop-was.at + loop-was.left ≡ length m = loop-was.invariant.0 in
    let t : There m loop-was.at loop-was.left n = there m loop-was.at loop-was.left n h passed.0 passed.1 in
    omega (arith, t.whole, h, pre-was.1)

pub overflow_sub-left-in-loop-left : goal.overflow_sub-left-in-loop-left
unfolding up4
overflow_sub-left-in-loop-left c =
    let loop-was = c.loop-left in
    let n = c.in-Some.n in
    let passed = c.in-Some.ensures in
    let m = c.args.answer.now in
    let h : loop-was.at + loop-was.left ≡ length m = loop-was.invariant.0 in
    let t : There m loop-was.at loop-was.left n = there m loop-was.at loop-was.left n h passed.0 passed.1 in
    omega (arith, t.whole)

pub loop-left-smaller : goal.loop-left-smaller
unfolding up4
loop-left-smaller c =
    let loop-was = c.loop-left in
    let n = c.in-Some.n in
    let passed = c.in-Some.ensures in
    let m = c.args.answer.now in
    let h : loop-was.at + loop-was.left ≡ length m = loop-was.invariant.0 in
    let t : There m loop-was.at loop-was.left n = there m loop-was.at loop-was.left n h passed.0 passed.1 in
    omega (arith, t.whole, t.least)

pub loop-left-preserved : goal.loop-left-preserved
unfolding up4
loop-left-preserved c =
    let loop-was = c.loop-left in
    let n = c.in-Some.n in
    let passed = c.in-Some.ensures in
    let is-found-was = c.is_found-found in
    let code-at-was = c.code_at-code in
    let is-spoilt-was = c.is_spoilt in
    let test2 = c.if-is_spoilt in
    let m = c.args.answer.now in
    let h : loop-was.at + loop-was.left ≡ length m = loop-was.invariant.0 in
    let t : There m loop-was.at loop-was.left n = there m loop-was.at loop-was.left n h passed.0 passed.1 in
    (omega (arith, t.whole, h), ap (λ (b : Bool). rest_answers b (walk (drop (loop-was.at + up4 n) m))) is-found-was.ensures ∙ place-goes m loop-was.at loop-was.left n t code-at-was.result code-at-was.ensures loop-was.found (sym is-spoilt-was.ensures ∙ test2.false) ∙ loop-was.invariant.1)

pub returns : goal.returns
returns c =
    let loop-was = c.loop-left in
    let loop-test-was = c.loop-left-test in
    let m = c.args.answer.now in
    let z : loop-was.left ≡ 0 = loop-test-was.false in
    sym (rest_end (drop loop-was.at m) loop-was.found (rw length-drop (omega (arith, loop-was.invariant.0, z)))) ∙ loop-was.invariant.1
