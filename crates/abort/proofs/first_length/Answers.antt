-- The code and V decide whether it is a Session-Id; the four tests are those of any AVP, at place 20.
use mathlib.Core.Path.{◌≡◌, sym, ◌∙◌}
use Prim.Native.Nat.{◌+◌, ◌-◌, ◌*◌, ◌<◌}
use native.Mathlib.Omega.{arith}
use lib.ListN.{length, get_or, drop}
use Rattle.octets.specs.Numbers.{net24, up4}
use Rattle.abort.specs.Code.{plain_code}
use Rattle.abort.proofs.Answers.{two_bytes, at_bits, at_high, at-past, at-short, at_base, code-v, code-base, first-none, first-other-code, first-its, other-code}
use Rattle.abort.proofs.first_length.Goals as goal

pub returns-then-read32-ne263 : goal.returns-then-read32-ne263
returns-then-read32-ne263 c =
    let test1 = c.if-read32-ne263 in
    let read32-was = c.read32 in
    let m = c.args.answer.now in
    (first-other-code (drop 20 m) (other-code m 20 (λ z. test1.true (read32-was.ensures ∙ z))))

pub returns-then-flags-ge128 : goal.returns-then-flags-ge128
returns-then-flags-ge128 c =
    let test2 = c.if-flags-ge128 in
    let m = c.args.answer.now in
    (first-other-code (drop 20 m) (λ z. let y : plain_code (drop 20 m) ≡ 0 = code-v m 20 test2.true in omega (arith, y, z)))

pub returns-then-flags-ne0 : goal.returns-then-flags-ne0
returns-then-flags-ne0 c =
    let pre-was = c.requires in
    let test3 = c.if-flags-ne0 in
    let m = c.args.answer.now in
    let l : 20 + (length m - 20) ≡ length m = omega (arith, pre-was.0) in
    (first-none (drop 20 m) (at_bits m 20 (length m - 20) l test3.true))

pub returns-then-answer-ne0 : goal.returns-then-answer-ne0
returns-then-answer-ne0 c =
    let pre-was = c.requires in
    let test4 = c.if-answer-ne0 in
    let m = c.args.answer.now in
    let l : 20 + (length m - 20) ≡ length m = omega (arith, pre-was.0) in
    (first-none (drop 20 m) (at_high m 20 (length m - 20) l (omega (arith, pre-was.1)) test4.true))

pub returns-then-n-lt8 : goal.returns-then-n-lt8
returns-then-n-lt8 c =
    let pre-was = c.requires in
    let test4 = c.if-answer-ne0 in
    let test5 = c.if-n-lt8 in
    let m = c.args.answer.now in
    let l : 20 + (length m - 20) ≡ length m = omega (arith, pre-was.0) in
    let n : net24 m 25 ≡ c.from.result * 256 + c.from-2.result = two_bytes m 20 test4.false ∙ omega (arith, c.from.ensures, c.from-2.ensures) in
    (first-none (drop 20 m) (at-short m 20 (length m - 20) l _ n test5.true))

pub returns-then-answer-n : goal.returns-then-answer-n
unfolding up4
returns-then-answer-n c =
    let pre-was = c.requires in
    let test4 = c.if-answer-ne0 in
    let test6 = c.if-answer-n in
    let m = c.args.answer.now in
    let l : 20 + (length m - 20) ≡ length m = omega (arith, pre-was.0) in
    let n : net24 m 25 ≡ c.from.result * 256 + c.from-2.result = two_bytes m 20 test4.false ∙ omega (arith, c.from.ensures, c.from-2.ensures) in
    (first-none (drop 20 m) (at-past m 20 (length m - 20) l _ n test6.true))

pub returns : goal.returns
unfolding up4
returns c =
    let pre-was = c.requires in
    let test2 = c.if-flags-ge128 in
    let test4 = c.if-answer-ne0 in
    let read32-was = c.read32 in
    let test1 = c.if-read32-ne263 in
    let test3 = c.if-flags-ne0 in
    let test6 = c.if-answer-n in
    let test5 = c.if-n-lt8 in
    let m = c.args.answer.now in
    let l : 20 + (length m - 20) ≡ length m = omega (arith, pre-was.0) in
    let v : get_or m 24 0 < 128 = omega (arith, test2.false) in
    let n : net24 m 25 ≡ c.from.result * 256 + c.from-2.result = two_bytes m 20 test4.false ∙ omega (arith, c.from.ensures, c.from-2.ensures) in
    let e : plain_code (drop 20 m) ≡ 263 = code-base m 20 v ∙ sym read32-was.ensures ∙ test1.false in
    (first-its (drop 20 m) e ∙ at_base m 20 (length m - 20) l _ n test3.false (omega (arith, test6.false)) (omega (arith, pre-was.0)) v (omega (arith, test5.false)), λ z. omega (arith, test5.false, z))
