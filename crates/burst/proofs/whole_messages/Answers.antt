use mathlib.Core.Path.{◌≡◌, sym, ap, ◌∙◌}
use mathlib.Core.List.{[]}
use Prim.Native.Nat.{◌+◌, ◌≤◌}
use native.Mathlib.Omega.{arith}
use lib.ListN.{length, drop}
use Rattle.burst.specs.TheBurst.{next_length, whole_messages}
use Rattle.burst.proofs.Boundaries.{next-within, whole-none, whole-count}
use Rattle.burst.proofs.whole_messages.Goals as goal

pub loop-next-init : goal.loop-next-init
loop-next-init c =
    let m = c.args.messages.now in
    let fits : 0 + next_length (drop 0 m) ≤ length m = next-within m 0 (omega arith) in
    (omega (arith, fits, c.next_length-next.ensures), omega arith, c.next_length-next.ensures, omega arith)

pub loop-next-preserved : goal.loop-next-preserved
loop-next-preserved c =
    let m = c.args.messages.now in
    let at = c.loop-next.at in
    let e : c.loop-next.next ≡ next_length (drop at m) = c.loop-next.invariant.2 in
    let fits : at + c.loop-next.next + next_length (drop (at + c.loop-next.next) m) ≤ length m = next-within m (at + c.loop-next.next) (omega arith) in
    let one : length (whole_messages (drop at m)) ≡ 1 + length (whole_messages (drop (at + c.loop-next.next) m)) = whole-count m at c.loop-next.next e c.loop-next-test.true in
    (omega (arith, fits, c.next_length-next-in-loop-next.ensures), omega (arith, c.loop-next.invariant, c.loop-next-test.true), c.next_length-next-in-loop-next.ensures, omega (arith, one, c.loop-next.invariant.3))

pub returns : goal.returns
returns c =
    let m = c.args.messages.now in
    let none : whole_messages (drop c.loop-next.at m) ≡ [] = whole-none (drop c.loop-next.at m) (sym c.loop-next.invariant.2 ∙ c.loop-next-test.false) in
    omega (arith, ap length none, c.loop-next.invariant.3)
