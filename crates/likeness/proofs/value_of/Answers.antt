-- The part lent is the value, with a header of 8 bytes or of 12: `value-8`, `value-12`.
use mathlib.Core.Path.{ap, ◌∙◌}
use Prim.Native.Nat.{ℕ, ◌+◌, ◌-◌}
use native.Mathlib.Omega.{arith}
use lib.ListN.{take, drop}
use Rattle.likeness.proofs.Places.{head-of-8, head-of-12, value-8, value-12}
use Rattle.likeness.proofs.value_of.Goals as goal

pub slice_bounds-result-count : goal.slice_bounds-result-count
slice_bounds-result-count c =
    let pre-was = c.requires in
    let given = c.args in
    let test1 = c.if-m-at-lt128 in
    let read24-was = c.read24 in
    omega (arith, pre-was.head, head-of-8 given.m.now given.at test1.true, read24-was.ensures.0)

pub slice_bounds-result-start : goal.slice_bounds-result-start
slice_bounds-result-start c =
    let pre-was = c.requires in
    let given = c.args in
    let test1 = c.if-m-at-lt128 in
    let read24-was = c.read24 in
    omega (arith, pre-was.head, head-of-8 given.m.now given.at test1.true, read24-was.ensures.0)

pub returns-then-m-at-lt128 : goal.returns-then-m-at-lt128
returns-then-m-at-lt128 c =
    let given = c.args in
    let read24-was = c.read24 in
    let test1 = c.if-m-at-lt128 in
    ap (λ (n : ℕ). take (given.at + n - (given.at + 8)) (drop (given.at + 8) given.m.now)) read24-was.ensures.0 ∙ value-8 given.m.now given.at test1.true

pub slice_bounds-result-count-2 : goal.slice_bounds-result-count-2
slice_bounds-result-count-2 c =
    let pre-was = c.requires in
    let given = c.args in
    let test1 = c.if-m-at-lt128 in
    let read24-was = c.read24 in
    omega (arith, pre-was.head, head-of-12 given.m.now given.at (omega (arith, test1.false)), read24-was.ensures.0)

pub slice_bounds-result-start-2 : goal.slice_bounds-result-start-2
slice_bounds-result-start-2 c =
    let pre-was = c.requires in
    let given = c.args in
    let test1 = c.if-m-at-lt128 in
    let read24-was = c.read24 in
    omega (arith, pre-was.head, head-of-12 given.m.now given.at (omega (arith, test1.false)), read24-was.ensures.0)

pub returns : goal.returns
returns c =
    let given = c.args in
    let read24-was = c.read24 in
    let test1 = c.if-m-at-lt128 in
    ap (λ (n : ℕ). take (given.at + n - (given.at + 12)) (drop (given.at + 12) given.m.now)) read24-was.ensures.0 ∙ value-12 given.m.now given.at (omega (arith, test1.false))
