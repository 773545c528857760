-- Both parts lie inside, and an AVP is what its bytes say: `same_next`, `avps-same`.
use mathlib.Core.Path.{refl, sym, ◌∙◌}
use Prim.Native.Nat.{◌+◌, ◌-◌}
use native.Mathlib.Omega.{arith}
use Rattle.likeness.proofs.Places.{inside}
use Rattle.likeness.proofs.Bytes.{avps-same, same_next}
use Rattle.likeness.proofs.behind_same.Goals as goal

pub returns-then-mark-lt2 : goal.returns-then-mark-lt2
returns-then-mark-lt2 c = λ f. absurd (f refl)

pub overflow_sub-whole : goal.overflow_sub-whole
overflow_sub-whole c =
    let given = c.args in
    let pre-was = c.requires in
    omega (arith, (inside given.theirs.now given.at given.next (sym pre-was.1) pre-was.2).0)

pub overflow_sub-ours : goal.overflow_sub-ours
overflow_sub-ours c =
    let pre-was = c.requires in
    omega (arith, pre-was.0)

pub returns-then-ours-mark : goal.returns-then-ours-mark
returns-then-ours-mark c = λ f. absurd (f refl)

pub slice_bounds-same_bytes-count : goal.slice_bounds-same_bytes-count
slice_bounds-same_bytes-count c = omega arith

pub slice_bounds-same_bytes-start : goal.slice_bounds-same_bytes-start
slice_bounds-same_bytes-start c = omega arith

pub slice_bounds-same_bytes-end : goal.slice_bounds-same_bytes-end
slice_bounds-same_bytes-end c =
    let pre-was = c.requires in
    let test2 = c.if-ours-mark in
    omega (arith, pre-was.0, test2.false)

pub slice_bounds-same_bytes-count-2 : goal.slice_bounds-same_bytes-count-2
slice_bounds-same_bytes-count-2 c =
    let given = c.args in
    let pre-was = c.requires in
    omega (arith, (inside given.theirs.now given.at given.next (sym pre-was.1) pre-was.2).0)

pub slice_bounds-same_bytes-start-2 : goal.slice_bounds-same_bytes-start-2
slice_bounds-same_bytes-start-2 c =
    let given = c.args in
    let pre-was = c.requires in
    omega (arith, (inside given.theirs.now given.at given.next (sym pre-was.1) pre-was.2).0)

pub slice_bounds-same_bytes-end-2 : goal.slice_bounds-same_bytes-end-2
slice_bounds-same_bytes-end-2 c =
    let given = c.args in
    let pre-was = c.requires in
    omega (arith, (inside given.theirs.now given.at given.next (sym pre-was.1) pre-was.2).1)

pub returns-then-same_bytes : goal.returns-then-same_bytes
returns-then-same_bytes c =
    let given = c.args in
    let pre-was = c.requires in
    let test2 = c.if-ours-mark in
    let same-bytes-was = c.same_bytes in
    let test3 = c.if-same_bytes in
    let test1 = c.if-mark-lt2 in
    λ f.
    let o = same_next given.ours.now given.mark (given.mark + (given.next - given.at)) given.theirs.now given.at given.next (sym pre-was.1) pre-was.2 refl (omega (arith, pre-was.0, test2.false)) (sym same-bytes-was.ensures ∙ test3.true) in
    (test1.false, o, avps-same given.ours.now given.mark (given.mark + (given.next - given.at)) o f given.theirs.now given.at given.next (sym pre-was.1) pre-was.2 (sym same-bytes-was.ensures ∙ test3.true))

pub returns : goal.returns
returns c = λ f. absurd (f refl)
