use mathlib.Core.Path.{◌∙◌, ◌≡◌, ap, refl, sym}
use mathlib.Core.Bool.{true}
use Prim.Native.Nat.{◌%◌, ◌-◌, ◌/◌, ◌^◌, ◌≤◌, ℕ}
use native.Mathlib.Omega.{arith}
use mathlib.Core.List.{List}
use lib.ListN.{get_or, length, take}
use lib.Dec.{eqb}
use Rattle.octets.specs.Lists.{distinct, every, up_to0}
use Rattle.table.specs.TheTable.{order_line, used_bits}
use Rattle.soundness.proofs.Line.{line_at, line-end, line-high, line_low, line-most, line-turn, line-twice, used-bit, used-none}
use Rattle.soundness.proofs.line_exact.Goals as goal

pub loop-i-init : goal.loop-i-init
unfolding order_line every distinct
loop-i-init c =
    let line-length-was = c.line_length-n in
    let given = c.args in
    let line-room-was = c.line_room in
    let whole : line-length-was.result ≡ length (order_line given.r.now) = line-length-was.ensures.0 ∙ ap (λ (t : List ℕ). length (up_to0 t)) line-room-was.ensures in
    (whole, omega (arith, line-most given.r.now), used-none, refl, refl)

pub line_place-k-requires : goal.line_place-k-requires
line_place-k-requires c =
    let pre-was = c.requires in
    (pre-was, omega arith)

pub returns-then-k-gt-PLACES : goal.returns-then-k-gt-PLACES
returns-then-k-gt-PLACES c =
    let given = c.args in
    let loop-was = c.loop-i in
    let line-place-was = c.line_place-k in
    line-high given.r.now loop-was.i (omega arith) (omega (arith, line_at given.r.now loop-was.i (omega arith), line-place-was.ensures.0))

pub in_use-requires : goal.in_use-requires
in_use-requires c =
    let given = c.args in
    let loop-was = c.loop-i in
    let line-place-was = c.line_place-k in
    (omega (arith, line_low given.r.now loop-was.i (omega arith), line-place-was.ensures.0), omega arith)

pub returns-then-in_use : goal.returns-then-in_use
returns-then-in_use c =
    let given = c.args in
    let loop-was = c.loop-i in
    let line-place-was = c.line_place-k in
    let in-use-was = c.in_use in
    let test2 = c.if-in_use in
    let this : get_or (order_line given.r.now) loop-was.i 0 ≡ line-place-was.result = line_at given.r.now loop-was.i (omega arith) ∙ sym line-place-was.ensures.0 in
    let low : 1 ≤ line-place-was.result = omega (arith, line_low given.r.now loop-was.i (omega arith), line-place-was.ensures.0) in
    let was : eqb (loop-was.used / 2 ^ (line-place-was.result - 1) % 2) 1 ≡ true = sym in-use-was.ensures ∙ test2.true in
    let set-already : eqb (used_bits (take loop-was.i (order_line given.r.now)) / 2 ^ (line-place-was.result - 1) % 2) 1 ≡ true = rw loop-was.invariant.2 at was in
    line-twice given.r.now loop-was.i (omega arith) (rw this (sym (used-bit (take loop-was.i (order_line given.r.now)) line-place-was.result low (omega arith)) ∙ set-already))

pub with_place-used-requires : goal.with_place-used-requires
with_place-used-requires c =
    let given = c.args in
    let loop-was = c.loop-i in
    let line-place-was = c.line_place-k in
    let in-use-was = c.in_use in
    let test2 = c.if-in_use in
    (omega (arith, line_low given.r.now loop-was.i (omega arith), line-place-was.ensures.0), omega arith, sym in-use-was.ensures ∙ test2.false)

pub loop-i-preserved : goal.loop-i-preserved
loop-i-preserved c =
    let given = c.args in
    let loop-was = c.loop-i in
    let line-place-was = c.line_place-k in
    let with-place-was = c.with_place-used in
    let in-use-was = c.in_use in
    let test2 = c.if-in_use in
    let this : get_or (order_line given.r.now) loop-was.i 0 ≡ line-place-was.result = line_at given.r.now loop-was.i (omega arith) ∙ sym line-place-was.ensures.0 in
    let low : 1 ≤ line-place-was.result = omega (arith, line_low given.r.now loop-was.i (omega arith), line-place-was.ensures.0) in
    let next = line-turn (order_line given.r.now) loop-was.i loop-was.used with-place-was.result (omega arith) (rw this low) (omega arith) loop-was.invariant.2 (rw this (sym in-use-was.ensures ∙ test2.false)) (rw this with-place-was.ensures) loop-was.invariant.3 loop-was.invariant.4 in
    (loop-was.invariant.0, omega arith, next.0, next.1, next.2)

pub returns : goal.returns
returns c =
    let loop-was = c.loop-i in
    let used-bits-was = c.used_bits in
    let given = c.args in
    ap (λ (x : ℕ). eqb x loop-was.used) used-bits-was.ensures ∙ line-end given.r.now loop-was.i loop-was.used (omega arith) loop-was.invariant.2 loop-was.invariant.3 loop-was.invariant.4
