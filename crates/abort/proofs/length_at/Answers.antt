-- A law of Answers for each way out.
use mathlib.Core.Path.{◌≡◌, sym, ◌∙◌}
use Prim.Native.Nat.{◌+◌, ◌*◌}
use native.Mathlib.Omega.{arith}
use Rattle.octets.specs.Numbers.{net24, up4}
use Rattle.abort.proofs.Answers.{two_bytes, at-few, at_bits, at_high, at-past, at-short, at-short-v, at-v, at_base}
use Rattle.abort.proofs.length_at.Goals as goal

pub returns-then-left-lt8 : goal.returns-then-left-lt8
returns-then-left-lt8 c =
    let given = c.args in
    let pre-was = c.requires in
    let test1 = c.if-left-lt8 in
    (at-few given.m.now given.at given.left pre-was.0 test1.true)

pub returns-then-flags-ne0 : goal.returns-then-flags-ne0
returns-then-flags-ne0 c =
    let given = c.args in
    let pre-was = c.requires in
    let test2 = c.if-flags-ne0 in
    (at_bits given.m.now given.at given.left pre-was.0 test2.true)

pub returns-then-m-at-ne0 : goal.returns-then-m-at-ne0
returns-then-m-at-ne0 c =
    let given = c.args in
    let pre-was = c.requires in
    let test3 = c.if-m-at-ne0 in
    (at_high given.m.now given.at given.left pre-was.0 pre-was.1 test3.true)

pub returns-then-left-n : goal.returns-then-left-n
unfolding up4
returns-then-left-n c =
    let given = c.args in
    let test3 = c.if-m-at-ne0 in
    let pre-was = c.requires in
    let test4 = c.if-left-n in
    let m = c.args.m.now in
    let n : net24 m (given.at + 5) ≡ c.from.result * 256 + c.from-2.result = two_bytes m given.at test3.false ∙ omega (arith, c.from.ensures, c.from-2.ensures) in
    (at-past m given.at given.left pre-was.0 _ n test4.true)

pub returns-then-n-lt12 : goal.returns-then-n-lt12
unfolding up4
returns-then-n-lt12 c =
    let given = c.args in
    let test3 = c.if-m-at-ne0 in
    let pre-was = c.requires in
    let test2 = c.if-flags-ne0 in
    let test4 = c.if-left-n in
    let test5 = c.if-flags-ge128 in
    let test6 = c.if-n-lt12 in
    let m = c.args.m.now in
    let n : net24 m (given.at + 5) ≡ c.from.result * 256 + c.from-2.result = two_bytes m given.at test3.false ∙ omega (arith, c.from.ensures, c.from-2.ensures) in
    (at-short-v m given.at given.left pre-was.0 _ n test2.false (omega (arith, test4.false)) test5.true test6.true)

pub returns-then-flags-ge128 : goal.returns-then-flags-ge128
unfolding up4
returns-then-flags-ge128 c =
    let given = c.args in
    let test3 = c.if-m-at-ne0 in
    let pre-was = c.requires in
    let test2 = c.if-flags-ne0 in
    let test4 = c.if-left-n in
    let test1 = c.if-left-lt8 in
    let test5 = c.if-flags-ge128 in
    let test6 = c.if-n-lt12 in
    let m = c.args.m.now in
    let n : net24 m (given.at + 5) ≡ c.from.result * 256 + c.from-2.result = two_bytes m given.at test3.false ∙ omega (arith, c.from.ensures, c.from-2.ensures) in
    (at-v m given.at given.left pre-was.0 _ n test2.false (omega (arith, test4.false)) (omega (arith, test1.false)) test5.true (omega (arith, test6.false)), λ z. omega (arith, c.if-n-lt12.false, z))

pub returns-then-n-lt8 : goal.returns-then-n-lt8
returns-then-n-lt8 c =
    let given = c.args in
    let test3 = c.if-m-at-ne0 in
    let pre-was = c.requires in
    let test7 = c.if-n-lt8 in
    let m = c.args.m.now in
    let n : net24 m (given.at + 5) ≡ c.from.result * 256 + c.from-2.result = two_bytes m given.at test3.false ∙ omega (arith, c.from.ensures, c.from-2.ensures) in
    (at-short m given.at given.left pre-was.0 _ n test7.true)

pub returns : goal.returns
unfolding up4
returns c =
    let given = c.args in
    let test3 = c.if-m-at-ne0 in
    let pre-was = c.requires in
    let test2 = c.if-flags-ne0 in
    let test4 = c.if-left-n in
    let test1 = c.if-left-lt8 in
    let test5 = c.if-flags-ge128 in
    let test7 = c.if-n-lt8 in
    let m = c.args.m.now in
    let n : net24 m (given.at + 5) ≡ c.from.result * 256 + c.from-2.result = two_bytes m given.at test3.false ∙ omega (arith, c.from.ensures, c.from-2.ensures) in
    (at_base m given.at given.left pre-was.0 _ n test2.false (omega (arith, test4.false)) (omega (arith, test1.false)) (omega (arith, test5.false)) (omega (arith, test7.false)), λ z. omega (arith, c.if-n-lt8.false, z))
