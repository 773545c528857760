use mathlib.Core.Path.{◌≡◌, sym, ap, ◌∙◌}
use mathlib.Core.Bool.{true, false}
use Prim.Native.Nat.{◌+◌}
use native.Mathlib.Omega.{arith}
use lib.ListN.{length, drop, length-set}
use Rattle.message.specs.ReadingAMessage.{avp_of, supported}
use Rattle.message.specs.Positions.{slots, HeadAt}
use Rattle.octets.proofs.Texts.{length-zeros}
use Rattle.std.specs.Prelude.{Ok, Err}
use Rattle.message.specs.Failures.{failure_code, failed_with}
use Rattle.message.proofs.Gathering.{started, at-end, at-bad, at-unsupported, slot_is, length-is, slot-supported, supported-by, stepped-over, noted-first, noted-again, next_place}
use Rattle.std.proofs.lemmas.Result.{err_from_is_err_and}
use Rattle.message.proofs.gather.Goals as goal
use Rattle.message.proofs.gather.Goals.{then-seen-eq0, else-seen-eq0}

pub overflow_sub-left : goal.overflow_sub-left
overflow_sub-left c = omega (arith, c.requires.0)

pub walk-init : goal.walk-init
walk-init c =
    (started c.args.m.now c.args.index.now c.requires.0 c.requires.1, omega (arith, c.requires.0))

pub loop-left-init : goal.loop-left-init
loop-left-init c = (omega arith, c.walk.invariant.0, c.walk.invariant.1)

pub head_at-requires : goal.head_at-requires
head_at-requires c = c.loop-left.invariant.2

pub overflow_sub-left-in-loop-left : goal.overflow_sub-left-in-loop-left
overflow_sub-left-in-loop-left c =
    let m = c.args.m.now in
    let a = c.in_ok-a.a in
    let o : HeadAt m c.loop-left.at (Ok a) = rw c.in_ok-a.was at c.head_at.ensures in
    let n = next_place m c.loop-left.at a c.loop-left.invariant.1.inside o in
    omega (arith, n.0)

pub overflow_sub-left-in-loop-left-2 : goal.overflow_sub-left-in-loop-left-2
overflow_sub-left-in-loop-left-2 c =
    let m = c.args.m.now in
    let a = c.in_ok-a.a in
    let o : HeadAt m c.loop-left.at (Ok a) = rw c.in_ok-a.was at c.head_at.ensures in
    let n = next_place m c.loop-left.at a c.loop-left.invariant.1.inside o in
    omega (arith, n.0, n.1, c.loop-left.invariant.2)

pub loop-left-smaller : goal.loop-left-smaller
loop-left-smaller c =
    let m = c.args.m.now in
    let a = c.in_ok-a.a in
    let o : HeadAt m c.loop-left.at (Ok a) = rw c.in_ok-a.was at c.head_at.ensures in
    let n = next_place m c.loop-left.at a c.loop-left.invariant.1.inside o in
    omega (arith, n.0, n.1, c.loop-left.invariant.2)

pub loop-left-preserved : goal.loop-left-preserved
loop-left-preserved c =
    let m = c.args.m.now in
    let a = c.in_ok-a.a in
    let o : HeadAt m c.loop-left.at (Ok a) = rw c.in_ok-a.was at c.head_at.ensures in
    let n = next_place m c.loop-left.at a c.loop-left.invariant.1.inside o in
    let u : supported (avp_of (drop c.loop-left.at m)) ≡ true = supported-by m c.loop-left.at a o ∙ sym c.is_supported.ensures ∙ c.if-not-is_supported.false in
    (omega (arith, n.0, c.loop-left.invariant.0), stepped-over m c.walk.index c.loop-left.at a c.loop-left.invariant.1 o u c.if-a-lt-SLOTS.false, omega (arith, n.0, n.1, c.loop-left.invariant.2))

pub offset_bounds-index-slot : goal.offset_bounds-index-slot
offset_bounds-index-slot c = omega (arith, c.loop-left.invariant.1.size, c.if-a-lt-SLOTS.true)

pub bounds-index-slot : goal.bounds-index-slot
bounds-index-slot c = omega (arith, c.loop-left.invariant.1.size, c.if-a-lt-SLOTS.true)

pub overflow_add-index : goal.overflow_add-index
overflow_add-index c = omega (arith, c.loop-left.invariant.1.size, c.if-a-lt-SLOTS.true)

pub offset_bounds-index-slot-in-walk : goal.offset_bounds-index-slot-in-walk
offset_bounds-index-slot-in-walk c = omega (arith, c.loop-left.invariant.1.size, c.if-a-lt-SLOTS.true)

pub bounds-index-slot-in-walk : goal.bounds-index-slot-in-walk
bounds-index-slot-in-walk c = omega (arith, c.loop-left.invariant.1.size, c.if-a-lt-SLOTS.true)

pub offset_bounds-index-slot-then-seen-eq0 : goal.offset_bounds-index-slot-then-seen-eq0
offset_bounds-index-slot-then-seen-eq0 c = omega (arith, c.loop-left.invariant.1.size, c.if-a-lt-SLOTS.true)

pub bounds-index-slot-then-seen-eq0 : goal.bounds-index-slot-then-seen-eq0
bounds-index-slot-then-seen-eq0 c = simp length-set (omega (arith, c.loop-left.invariant.1.size, c.if-a-lt-SLOTS.true))

pub offset_bounds-index-slot-else-seen-eq0 : goal.offset_bounds-index-slot-else-seen-eq0
offset_bounds-index-slot-else-seen-eq0 c = omega (arith, c.loop-left.invariant.1.size, c.if-a-lt-SLOTS.true)

pub bounds-index-slot-else-seen-eq0 : goal.bounds-index-slot-else-seen-eq0
bounds-index-slot-else-seen-eq0 c = simp length-set (omega (arith, c.loop-left.invariant.1.size, c.if-a-lt-SLOTS.true))

pub overflow_sub-left-in-walk : goal.overflow_sub-left-in-walk
overflow_sub-left-in-walk c =
    let m = c.args.m.now in
    let a = c.in_ok-a.a in
    let o : HeadAt m c.loop-left.at (Ok a) = rw c.in_ok-a.was at c.head_at.ensures in
    let n = next_place m c.loop-left.at a c.loop-left.invariant.1.inside o in
    omega (arith, n.0)

pub overflow_sub-left-in-walk-2 : goal.overflow_sub-left-in-walk-2
overflow_sub-left-in-walk-2 c =
    let m = c.args.m.now in
    let a = c.in_ok-a.a in
    let o : HeadAt m c.loop-left.at (Ok a) = rw c.in_ok-a.was at c.head_at.ensures in
    let n = next_place m c.loop-left.at a c.loop-left.invariant.1.inside o in
    omega (arith, n.0, n.1, c.loop-left.invariant.2)

pub walk-smaller : goal.walk-smaller
walk-smaller c =
    let m = c.args.m.now in
    let a = c.in_ok-a.a in
    let o : HeadAt m c.loop-left.at (Ok a) = rw c.in_ok-a.was at c.head_at.ensures in
    let n = next_place m c.loop-left.at a c.loop-left.invariant.1.inside o in
    omega (arith, n.0, n.1, c.loop-left.invariant.0, c.loop-left.invariant.2, c.walk.invariant.1)

pub walk-preserved : goal.walk-preserved
walk-preserved c =
    let m = c.args.m.now in
    let a = c.in_ok-a.a in
    let o : HeadAt m c.loop-left.at (Ok a) = rw c.in_ok-a.was at c.head_at.ensures in
    let n = next_place m c.loop-left.at a c.loop-left.invariant.1.inside o in
    let s = c.if-a-lt-SLOTS.true in
    let u = slot-supported (drop c.loop-left.at m) (λ z. omega (arith, z, s, slot_is m c.loop-left.at a o)) in (
      elim c.if-seen-eq0.branch [
        | then-seen-eq0 w ↦ rw w.index-is (noted-first m c.walk.index c.loop-left.at a c.loop-left.invariant.1 o u s a.length (length-is m c.loop-left.at a o) w.if-seen-eq0.true)
        | else-seen-eq0 w ↦ rw w.index-is (noted-again m c.walk.index c.loop-left.at a c.loop-left.invariant.1 o u s a.length (length-is m c.loop-left.at a o) w.if-seen-eq0.false)
      ],
      omega (arith, n.0, n.1, c.loop-left.invariant.2),
    )

pub shape_of-index-then-left-eq0 : goal.shape_of-index-then-left-eq0
shape_of-index-then-left-eq0 c = omega (arith, c.loop-left.invariant.1.size, ap length c.requires.1, length-zeros (slots + slots))

pub returns-then-left-eq0 : goal.returns-then-left-eq0
unfolding failed_with
returns-then-left-eq0 c = at-end c.args.m.now c.walk.index c.loop-left.at c.loop-left.invariant.1 (omega (arith, c.if-left-eq0.true, c.loop-left.invariant.2))

pub returns-in_err-a : goal.returns-in_err-a
unfolding failed_with
returns-in_err-a c =
    let p = err_from_is_err_and c.from_residual.result c.from_residual.ensures.1 in
    rw (p.1, p.2)
    (at-bad c.args.m.now c.walk.index c.loop-left.at c.in_err-a.field-0.0 c.loop-left.invariant.1 (omega (arith, c.if-left-eq0.false, c.loop-left.invariant.2))
    c.in_err-a.ensures)

pub shape_of-index-then-not-is_supported : goal.shape_of-index-then-not-is_supported
shape_of-index-then-not-is_supported c = omega (arith, c.loop-left.invariant.1.size, ap length c.requires.1, length-zeros (slots + slots))

pub returns-then-not-is_supported : goal.returns-then-not-is_supported
unfolding failed_with failure_code
returns-then-not-is_supported c =
    let m = c.args.m.now in
    let a = c.in_ok-a.a in
    let o : HeadAt m c.loop-left.at (Ok a) = rw c.in_ok-a.was at c.head_at.ensures in
    let u : supported (avp_of (drop c.loop-left.at m)) ≡ false = supported-by m c.loop-left.at a o ∙ sym c.is_supported.ensures ∙ c.if-not-is_supported.true in
    at-unsupported m c.walk.index c.loop-left.at a c.loop-left.invariant.1 (omega (arith, c.if-left-eq0.false, c.loop-left.invariant.2)) o u
