-- The sums follow the byte: `byte_put` of Sums.
use mathlib.Core.Path.{ap}
use Prim.Native.Nat.{ℕ, ◌+◌, ◌-◌, ◌*◌, ◌≤◌, ◌%◌}
use native.Mathlib.Omega.{arith}
use lib.ListN.{length-set}
use Rattle.changes.proofs.Sums.{byte_put, byte-stays, gain-bound}
use Rattle.changes.proofs.put_byte.Goals as goal

pub returns-then-block-at : goal.returns-then-block-at
returns-then-block-at c =
    byte-stays c.args.block.now c.requires.0 c.requires.1 c.args.at c.requires.2 c.args.byte c.if-block-at.true

pub overflow_mul-second : goal.overflow_mul-second
overflow_mul-second c =
    let product : (510 - c.args.at) * (c.long.result + 255 - c.long-2.result) ≤ 260100 =
    gain-bound _ _ (omega arith) (omega (arith, c.long.ensures.1)) in
    omega (arith, product)

pub overflow_add-second : goal.overflow_add-second
overflow_add-second c =
    let product : (510 - c.args.at) * (c.long.result + 255 - c.long-2.result) ≤ 260100 =
    gain-bound _ _ (omega arith) (omega (arith, c.long.ensures.1)) in
    omega (arith, product, c.long-3.ensures.1)

pub bounds-block-510-2 : goal.bounds-block-510-2
bounds-block-510-2 c = simp length-set (omega arith)

pub bounds-block-511-2 : goal.bounds-block-511-2
bounds-block-511-2 c = simp length-set (omega arith)

pub shape_of-block : goal.shape_of-block
shape_of-block c = simp length-set

pub returns : goal.returns
returns c =
    let b = c.args.block.now in
    let at = c.args.at in
    let new = c.long.ensures in
    let old = c.long-2.ensures in
    let gain : ℕ = c.long.result + 255 - c.long-2.result in
    byte_put b c.requires.0 c.requires.1 at c.requires.2 c.args.byte gain
    ((c.long-4.result + gain) % 255) ((c.long-3.result + (510 - at) * gain) % 255)
    (omega (arith, old.0, old.1))
    (λ j. new.0 j + 255 - old.0 j)
    (ap (λ (n : ℕ). (n + gain) % 255) c.long-4.ensures.0)
    (ap (λ (n : ℕ). (n + (510 - at) * gain) % 255) c.long-3.ensures.0)
