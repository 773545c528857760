-- The part that is lent is the text of the span.
use mathlib.Core.Path.{◌≡◌}
use Prim.Native.Nat.{◌+◌, ◌-◌}
use native.Mathlib.Omega.{arith}
use lib.ListN.{length}
use borrow.Author.Tests.{leb-true}
use Rattle.message.specs.Spans.{bytes_of, is_inside}
use Rattle.decision.proofs.handling.text.Goals as goal

pub overflow_add-end : goal.overflow_add-end
unfolding is_inside
overflow_add-end c =
    omega (arith, leb-true (c.args.s.at + c.args.s.len) (length c.args.m.now) c.requires)

pub slice_bounds-result-end : goal.slice_bounds-result-end
unfolding is_inside
slice_bounds-result-end c =
    omega (arith, leb-true (c.args.s.at + c.args.s.len) (length c.args.m.now) c.requires)

pub returns : goal.returns
unfolding bytes_of
returns c =
    let s = c.args.s in
    let q : s.at + s.len - s.at ≡ s.len = omega arith in
    rw q
