-- What the slot's number and the AVP's length say of the field: the laws of Readers.
use mathlib.Core.Path.{◌≡◌, refl}
use Prim.Native.Nat.{ℕ, zero, suc, ◌≤◌, ◌<◌}
use native.Mathlib.Omega.{arith}
use lib.ListN.{get_or}
use Rattle.message.proofs.Readers.{reads-absent, reads-twice, reads_short, reads-long, reads-found, length-least, length_most}
use Rattle.message.proofs.text_field.Goals as goal

one : (v : ℕ) → v < 2 → (v ≡ 0 → ⊥) → v ≡ 1
one zero h z = absurd (z refl)
one (suc zero) h z = refl
one (suc (suc v)) h z = absurd (omega arith)

pub offset_bounds-index-slot : goal.offset_bounds-index-slot
offset_bounds-index-slot c = omega (arith, c.requires.2.size)

pub bounds-index-slot : goal.bounds-index-slot
bounds-index-slot c = omega (arith, c.requires.2.size)

pub returns-then-at-eq0 : goal.returns-then-at-eq0
returns-then-at-eq0 c =
    let a = c.args in
    λ b. reads-absent a.m.now a.index.now a.slot c.requires.0 c.requires.2 b a.low a.high c.if-at-eq0.true

pub returns-then-at-lt2 : goal.returns-then-at-lt2
returns-then-at-lt2 c =
    let a = c.args in
    λ b. reads-twice a.m.now a.index.now a.slot c.requires.0 c.requires.2 b a.low a.high
    (one (get_or a.index.now a.slot 0) c.if-at-lt2.true c.if-at-eq0.false)

pub offset_bounds-index-slot-2 : goal.offset_bounds-index-slot-2
offset_bounds-index-slot-2 c = omega (arith, c.requires.0, c.requires.2.size)

pub bounds-index-slot-2 : goal.bounds-index-slot-2
bounds-index-slot-2 c = omega (arith, c.requires.0, c.requires.2.size)

pub overflow_sub-len : goal.overflow_sub-len
overflow_sub-len c =
    let a = c.args in
    let v = get_or a.index.now a.slot 0 in
    let t : 2 ≤ v = c.if-at-lt2.false in
    let q = c.requires.2.long a.slot c.requires.0 t in
    let h = c.head_of-head.ensures in
    omega (arith, q, h, length-least a.m.now a.index.now a.slot c.requires.0 c.requires.2 v refl t)

pub returns-then-len-low : goal.returns-then-len-low
returns-then-len-low c =
    let a = c.args in
    let v = get_or a.index.now a.slot 0 in
    let t : 2 ≤ v = c.if-at-lt2.false in
    let q = c.requires.2.long a.slot c.requires.0 t in
    let h = c.head_of-head.ensures in
    λ b. reads_short a.m.now a.index.now a.slot c.requires.0 c.requires.2 v refl t b a.low a.high (omega (arith, c.if-len-low.true, q, h))

pub returns-then-high-len : goal.returns-then-high-len
returns-then-high-len c =
    let a = c.args in
    let v = get_or a.index.now a.slot 0 in
    let t : 2 ≤ v = c.if-at-lt2.false in
    let q = c.requires.2.long a.slot c.requires.0 t in
    let h = c.head_of-head.ensures in
    λ b. reads-long a.m.now a.index.now a.slot c.requires.0 c.requires.2 v refl t b a.low a.high
    (omega (arith, c.if-len-low.false, q, h)) (omega (arith, c.if-high-len.true, q, h))

pub overflow_add-result : goal.overflow_add-result
overflow_add-result c =
    let a = c.args in
    let v = get_or a.index.now a.slot 0 in
    let t : 2 ≤ v = c.if-at-lt2.false in
    let q = c.requires.2.long a.slot c.requires.0 t in
    let h = c.head_of-head.ensures in
    omega (
      arith,
      q,
      h,
      length-least a.m.now a.index.now a.slot c.requires.0 c.requires.2 v refl t,
      length_most a.m.now a.index.now a.slot c.requires.0 c.requires.2 v refl t,
    )

pub returns : goal.returns
returns c =
    let a = c.args in
    let v = get_or a.index.now a.slot 0 in
    let t : 2 ≤ v = c.if-at-lt2.false in
    let q = c.requires.2.long a.slot c.requires.0 t in
    let h = c.head_of-head.ensures in
    λ b. rw (q, h)
    (reads-found a.m.now a.index.now a.slot c.requires.0 c.requires.2 v refl t b a.low a.high
    (omega (arith, c.if-len-low.false, q, h)) (omega (arith, c.if-high-len.false, q, h)))
