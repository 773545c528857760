use mathlib.Core.Path.{◌≡◌, sym, ◌∙◌}
use Prim.Native.Nat.{suc, ◌+◌, ◌<◌}
use native.Mathlib.Omega.{arith}
use lib.ListN.{length, get_or, take, drop}
use Rattle.likeness.specs.TheSameAnswer.{agreeing, header_due}
use Rattle.likeness.proofs.Prefixes.{agree-end, agree_differ, agree-step}
use Rattle.likeness.proofs.Headers.{due-length, head-short, head-reaches, head-most, head_byte}
use Rattle.likeness.proofs.header_agrees.Goals as goal

pub loop-i-init : goal.loop-i-init
loop-i-init c = (omega arith, omega arith)

pub returns-then-theirs-i : goal.returns-then-theirs-i
returns-then-theirs-i c =
    let loop-was = c.loop-i in
    let given = c.args in
    let test1 = c.if-theirs-i in
    let loop-test-was = c.loop-i-test in
    let z : agreeing (drop loop-was.i (take 20 given.theirs.now)) (drop loop-was.i (header_due given.ours.now (length given.theirs.now))) ≡ 0 = agree-end (take 20 given.theirs.now) (header_due given.ours.now (length given.theirs.now)) loop-was.i (head-short given.theirs.now loop-was.i test1.true loop-test-was.true) in
    (omega (arith, z, loop-was.invariant.1), loop-was.invariant.0)

pub header_byte-requires : goal.header_byte-requires
header_byte-requires c =
    let pre-was = c.requires in
    let loop-test-was = c.loop-i-test in
    (pre-was, loop-test-was.true)

pub returns-then-long-header_byte : goal.returns-then-long-header_byte
returns-then-long-header_byte c =
    let loop-was = c.loop-i in
    let given = c.args in
    let test1 = c.if-theirs-i in
    let loop-test-was = c.loop-i-test in
    let test2 = c.if-long-header_byte in
    let long-was = c.long in
    let header-byte-was = c.header_byte in
    let pre-was = c.requires in
    let h : loop-was.i < length (take 20 given.theirs.now) = head-reaches given.theirs.now loop-was.i (omega (arith, test1.false)) loop-test-was.true in
    let d : get_or (take 20 given.theirs.now) loop-was.i 0 ≡ get_or (header_due given.ours.now (length given.theirs.now)) loop-was.i 0 → ⊥ = λ e. test2.true (long-was.ensures.0 ∙ sym (head_byte given.theirs.now loop-was.i loop-test-was.true) ∙ e ∙ sym header-byte-was.ensures) in
    let z : agreeing (drop loop-was.i (take 20 given.theirs.now)) (drop loop-was.i (header_due given.ours.now (length given.theirs.now))) ≡ 0 = agree_differ (take 20 given.theirs.now) (header_due given.ours.now (length given.theirs.now)) loop-was.i h (omega (arith, due-length given.ours.now (length given.theirs.now) pre-was, loop-test-was.true)) d in
    (omega (arith, z, loop-was.invariant.1), loop-was.invariant.0)

pub loop-i-preserved : goal.loop-i-preserved
loop-i-preserved c =
    let loop-was = c.loop-i in
    let given = c.args in
    let test1 = c.if-theirs-i in
    let loop-test-was = c.loop-i-test in
    let long-was = c.long in
    let test2 = c.if-long-header_byte in
    let header-byte-was = c.header_byte in
    let pre-was = c.requires in
    let h : loop-was.i < length (take 20 given.theirs.now) = head-reaches given.theirs.now loop-was.i (omega (arith, test1.false)) loop-test-was.true in
    let d : get_or (take 20 given.theirs.now) loop-was.i 0 ≡ get_or (header_due given.ours.now (length given.theirs.now)) loop-was.i 0 = head_byte given.theirs.now loop-was.i loop-test-was.true ∙ sym long-was.ensures.0 ∙ test2.false ∙ header-byte-was.ensures in
    let z : agreeing (drop loop-was.i (take 20 given.theirs.now)) (drop loop-was.i (header_due given.ours.now (length given.theirs.now))) ≡ suc (agreeing (drop (loop-was.i + 1) (take 20 given.theirs.now)) (drop (loop-was.i + 1) (header_due given.ours.now (length given.theirs.now)))) = agree-step (take 20 given.theirs.now) (header_due given.ours.now (length given.theirs.now)) loop-was.i h (omega (arith, due-length given.ours.now (length given.theirs.now) pre-was, loop-test-was.true)) d in
    (omega (arith, loop-test-was.true), omega (arith, z, loop-was.invariant.1))

pub returns : goal.returns
returns c =
    let loop-was = c.loop-i in
    let given = c.args in
    let loop-test-was = c.loop-i-test in
    let z : agreeing (drop loop-was.i (take 20 given.theirs.now)) (drop loop-was.i (header_due given.ours.now (length given.theirs.now))) ≡ 0 = agree-end (take 20 given.theirs.now) (header_due given.ours.now (length given.theirs.now)) loop-was.i (omega (arith, head-most given.theirs.now, loop-test-was.false)) in
    (omega (arith, z, loop-was.invariant.1), loop-was.invariant.0)
