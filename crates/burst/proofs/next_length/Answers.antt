-- Each way out is the law of the test that fails, on the bytes that are left.
use mathlib.Core.Path.{◌≡◌, sym, ◌∙◌}
use Prim.Native.Nat.{◌-◌}
use native.Mathlib.Omega.{arith}
use lib.ListN.{length, drop, length-drop}
use Rattle.octets.specs.Numbers.{net24}
use Rattle.burst.proofs.Boundaries.{header_at, next-short, next_under, next_past, next-is}
use Rattle.burst.proofs.next_length.Goals as goal

pub returns-then-left-lt-LENGTH_END : goal.returns-then-left-lt-LENGTH_END
returns-then-left-lt-LENGTH_END c =
    let a = c.args in
    let s = c.args.messages.now in
    let left : length (drop a.at s) ≡ length s - a.at = length-drop a.at s in
    sym (next-short (drop a.at s) (omega (arith, left, c.if-left-lt-LENGTH_END.true)))

pub returns-then-n-lt-HEADER_LENGTH : goal.returns-then-n-lt-HEADER_LENGTH
returns-then-n-lt-HEADER_LENGTH c =
    let a = c.args in
    let s = c.args.messages.now in
    let n : c.read24-n.result ≡ net24 (drop a.at s) 1 = c.read24-n.ensures.0 ∙ sym (header_at s a.at) in
    sym (next_under (drop a.at s) (omega (arith, n, c.if-n-lt-HEADER_LENGTH.true)))

pub returns-then-left-n : goal.returns-then-left-n
returns-then-left-n c =
    let a = c.args in
    let s = c.args.messages.now in
    let n : c.read24-n.result ≡ net24 (drop a.at s) 1 = c.read24-n.ensures.0 ∙ sym (header_at s a.at) in
    let left : length (drop a.at s) ≡ length s - a.at = length-drop a.at s in
    sym (next_past (drop a.at s) (omega (arith, left, n, c.if-left-n.true)))

pub returns : goal.returns
returns c =
    let a = c.args in
    let s = c.args.messages.now in
    let n : c.read24-n.result ≡ net24 (drop a.at s) 1 = c.read24-n.ensures.0 ∙ sym (header_at s a.at) in
    let left : length (drop a.at s) ≡ length s - a.at = length-drop a.at s in
    n
    ∙ sym (next-is (drop a.at s) (omega (arith, left, c.if-left-lt-LENGTH_END.false)) (omega (arith, n, c.if-n-lt-HEADER_LENGTH.false)) (omega (arith, left, n, c.if-left-n.false)))
