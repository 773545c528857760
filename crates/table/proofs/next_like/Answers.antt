use mathlib.Core.Path.{◌≡◌, refl, sym, ap, ◌∙◌}
use Prim.Native.Nat.{ℕ, ◌+◌, ◌*◌, ◌/◌, ◌%◌}
use native.Mathlib.Omega.{arith}
use lib.Dec.{eqb}
use borrow.Author.Tests.{eqb-true, eqb-false}
use Rattle.octets.specs.Numbers.{low64}
use Rattle.octets.proofs.Lists.{by-test}
use Rattle.table.specs.Answers.{lent}
use Rattle.table.specs.TheTable.{row_length}
use Rattle.table.proofs.Rows.{bytes_most, form-top, row_inside, width-least}
use Rattle.table.proofs.Widths.{one-row-on, split}
use Rattle.table.proofs.next_like.Goals as goal

pub row_length-width-requires : goal.row_length-width-requires
row_length-width-requires c =
    let given = c.args in
    let pre-was = c.requires in
    form-top (lent given.form given.t.now) pre-was.0

pub loop-at-init : goal.loop-at-init
loop-at-init c =
    let pre-was = c.requires in
    (refl, omega arith, pre-was.2, λ j h l e. absurd (omega arith))

pub eight-requires : goal.eight-requires
eight-requires c =
    let given = c.args in
    let loop-was = c.loop-at in
    let pre-was = c.requires in
    let w : ℕ = row_length given.form in
    let here : loop-was.at ≡ w * (loop-was.at / w) + given.from % w = split w loop-was.at ∙ ap (λ (x : ℕ). w * (loop-was.at / w) + x) loop-was.invariant.0 in
    let inside = row_inside (lent given.form given.t.now) pre-was.0 (loop-was.at / w) (given.from % w) (omega (arith, here)) in
    omega (arith, here, inside.1, pre-was.1)

pub overflow_add-at : goal.overflow_add-at
overflow_add-at c =
    let given = c.args in
    let pre-was = c.requires in
    let row-length-was = c.row_length-width in
    let most = bytes_most (lent given.form given.t.now) pre-was.0 in
    omega (arith, row-length-was.ensures, most.0, most.1)

pub loop-at-smaller : goal.loop-at-smaller
loop-at-smaller c =
    let row-length-was = c.row_length-width in
    let given = c.args in
    omega (arith, row-length-was.ensures, width-least given.form)

pub loop-at-preserved : goal.loop-at-preserved
loop-at-preserved c =
    let given = c.args in
    let loop-was = c.loop-at in
    let pre-was = c.requires in
    let row-length-was = c.row_length-width in
    let test1 = c.if-eight-end in
    let eight-was = c.eight in
    let t = c.args.t.now in
    let w : ℕ = row_length given.form in
    let k : ℕ = loop-was.at / w in
    let here : loop-was.at ≡ w * k + given.from % w = split w loop-was.at ∙ ap (λ (x : ℕ). w * k + x) loop-was.invariant.0 in
    let inside = row_inside (lent given.form t) pre-was.0 k (given.from % w) (omega (arith, here)) in
    let next = one-row-on w loop-was.at _ row-length-was.ensures (omega (arith, width-least given.form)) in (
      next.1 ∙ loop-was.invariant.0,
      omega (arith, next.0, loop-was.invariant.1),
      omega (arith, next.0, inside.0),
      λ j a h e. by-test (eqb j k)
          (λ q. test1.false (eight-was.ensures.0 ∙ ap (low64 t) (here ∙ sym (ap (λ (x : ℕ). w * x + given.from % w) (eqb-true j k q))) ∙ e))
          (λ q. loop-was.invariant.3 j a (omega (arith, next.0, h, eqb-false j k q)) e),
    )

pub returns-after-loop-at : goal.returns-after-loop-at
returns-after-loop-at c =
    let loop-was = c.loop-at in
    (loop-was.invariant.0, loop-was.invariant.1, loop-was.invariant.2, loop-was.invariant.3)

pub returns-then-eight-end : goal.returns-then-eight-end
returns-then-eight-end c =
    let loop-was = c.loop-at in
    (loop-was.invariant.0, loop-was.invariant.1, loop-was.invariant.2, loop-was.invariant.3)
