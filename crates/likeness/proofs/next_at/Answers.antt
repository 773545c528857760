-- The four tests by flags and length as one word: each way out is a law of Places.
use mathlib.Core.Path.{sym}
use native.Mathlib.Omega.{arith}
use Rattle.octets.specs.Numbers.{up4}
use Rattle.likeness.proofs.Places.{next-end, next-few, word-bits, word-short, word-past, word-whole}
use Rattle.likeness.proofs.next_at.Goals as goal

pub returns-then-m-at : goal.returns-then-m-at
returns-then-m-at c =
    let given = c.args in
    let test1 = c.if-m-at in
    sym (next-end given.m.now given.at test1.true)

pub returns-then-left-lt8 : goal.returns-then-left-lt8
returns-then-left-lt8 c =
    let given = c.args in
    let test1 = c.if-m-at in
    let test2 = c.if-left-lt8 in
    sym (next-few given.m.now given.at (omega (arith, test1.false, test2.true)))

pub returns-then-n-ge16777216 : goal.returns-then-n-ge16777216
returns-then-n-ge16777216 c =
    let given = c.args in
    let test1 = c.if-m-at in
    let test2 = c.if-left-lt8 in
    let flags-and-length-was = c.flags_and_length-word in
    let test3 = c.if-n-ge16777216 in
    sym (word-bits given.m.now given.at (omega (arith, test1.false, test2.false)) flags-and-length-was.result flags-and-length-was.ensures test3.true)

pub returns-then-n-head_length : goal.returns-then-n-head_length
returns-then-n-head_length c =
    let given = c.args in
    let test1 = c.if-m-at in
    let test2 = c.if-left-lt8 in
    let flags-and-length-was = c.flags_and_length-word in
    let test3 = c.if-n-ge16777216 in
    let head-length-was = c.head_length in
    let test4 = c.if-n-head_length in
    sym (word-short given.m.now given.at (omega (arith, test1.false, test2.false)) flags-and-length-was.result flags-and-length-was.ensures test3.false head-length-was.result head-length-was.ensures test4.true)

pub returns-then-left-whole : goal.returns-then-left-whole
unfolding up4
returns-then-left-whole c =
    let given = c.args in
    let test1 = c.if-m-at in
    let test2 = c.if-left-lt8 in
    let flags-and-length-was = c.flags_and_length-word in
    let test3 = c.if-n-ge16777216 in
    let head-length-was = c.head_length in
    let test4 = c.if-n-head_length in
    let test5 = c.if-left-whole in
    sym (word-past given.m.now given.at (omega (arith, test1.false, test2.false)) flags-and-length-was.result flags-and-length-was.ensures test3.false head-length-was.result head-length-was.ensures test4.false (omega (arith, test1.false, test5.true)))

pub returns : goal.returns
unfolding up4
returns c =
    let given = c.args in
    let test1 = c.if-m-at in
    let test2 = c.if-left-lt8 in
    let flags-and-length-was = c.flags_and_length-word in
    let test3 = c.if-n-ge16777216 in
    let head-length-was = c.head_length in
    let test4 = c.if-n-head_length in
    let test5 = c.if-left-whole in
    sym (word-whole given.m.now given.at (omega (arith, test1.false, test2.false)) flags-and-length-was.result flags-and-length-was.ensures test3.false head-length-was.result head-length-was.ensures test4.false (omega (arith, test1.false, test5.false)))
