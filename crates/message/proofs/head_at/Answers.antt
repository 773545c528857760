-- The four tests by flags and length in one word: each way out is a law of Heads.
use native.Mathlib.Omega.{arith}
use Rattle.octets.specs.Numbers.{up4}
use Rattle.message.proofs.Heads.{at-few, word-bits, word-short, word-past, word-v-short, word-v, word-base}
use Rattle.message.proofs.head_at.Goals as goal

pub returns-then-left-lt8 : goal.returns-then-left-lt8
returns-then-left-lt8 c =
    let a = c.args in
    at-few a.m.now a.at (omega arith)

pub returns-then-length-ge16777216 : goal.returns-then-length-ge16777216
returns-then-length-ge16777216 c =
    let a = c.args in
    let w = c.flags_and_length-word in
    word-bits a.m.now a.at w.result (omega arith) w.ensures c.if-length-ge16777216.true

pub returns-then-length-lt8 : goal.returns-then-length-lt8
returns-then-length-lt8 c =
    let a = c.args in
    let w = c.flags_and_length-word in
    word-short a.m.now a.at w.result (omega arith) w.ensures c.if-length-ge16777216.false c.if-length-lt8.true

pub returns-then-left-whole : goal.returns-then-left-whole
unfolding up4
returns-then-left-whole c =
    let a = c.args in
    let w = c.flags_and_length-word in
    word-past a.m.now a.at w.result (omega arith) w.ensures c.if-length-ge16777216.false c.if-length-lt8.false (omega arith)

pub returns-then-length-lt12 : goal.returns-then-length-lt12
returns-then-length-lt12 c =
    let a = c.args in
    let w = c.flags_and_length-word in
    word-v-short a.m.now a.at w.result (omega arith) w.ensures (omega arith) (omega arith) (omega arith) (omega arith)

pub returns-then-word-ge2147483656 : goal.returns-then-word-ge2147483656
unfolding up4
returns-then-word-ge2147483656 c =
    let a = c.args in
    let w = c.flags_and_length-word in
    rw (c.vendor_slot-slot.ensures, c.read32.ensures, c.read32-code.ensures)
    (word-v a.m.now a.at w.result (omega arith) w.ensures (omega arith) (omega arith) (omega arith) (omega arith) (omega arith))

pub returns : goal.returns
unfolding up4
returns c =
    let a = c.args in
    let w = c.flags_and_length-word in
    rw (c.base_slot-slot.ensures, c.read32-code.ensures)
    (word-base a.m.now a.at w.result (omega arith) w.ensures (omega arith) (omega arith) (omega arith) (omega arith))
