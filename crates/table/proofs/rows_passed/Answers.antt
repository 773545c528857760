use mathlib.Core.Bool.{false}
use mathlib.Core.Path.{◌≡◌, refl, sym, ap, ◌∙◌}
use Prim.Native.Nat.{ℕ, ◌+◌, ◌-◌, ◌*◌, ◌/◌, ◌<◌, ◌≤◌}
use native.Mathlib.Omega.{arith}
use lib.Dec.{eqb, ltb}
use lib.ListN.{length, get_or, drop}
use lib.Seq.{get_or-take, get_or-drop}
use borrow.Author.Tests.{eqb-true, eqb-false, ltb-true, ltb-false}
use Rattle.octets.specs.Numbers.{low64}
use Rattle.octets.specs.Texts.{part}
use Rattle.octets.proofs.Lists.{by-test}
use Rattle.table.specs.Answers.{lent}
use Rattle.table.specs.TheTable.{Account, Table, is_row_of, row_at, row_length}
use Rattle.table.proofs.Rows.{bytes_most, form-top, no_name, other-end, other-operator, row_inside, rows_fit, width-least}
use Rattle.table.proofs.Widths.{one-row-on, quotient_is, rest-is, rows-order, split}
use Rattle.table.proofs.rows_passed.Goals as goal

pub returns-then-n-lt8 : goal.returns-then-n-lt8
returns-then-n-lt8 c =
    let pre-was = c.requires in
    (omega arith, pre-was.1, λ j h l. absurd (omega arith))

pub returns-then-n-gt-NAME_MOST : goal.returns-then-n-gt-NAME_MOST
returns-then-n-gt-NAME_MOST c =
    let pre-was = c.requires in
    (omega arith, pre-was.1, λ j h l. absurd (omega arith))

pub returns-then-all-behind : goal.returns-then-all-behind
returns-then-all-behind c =
    let pre-was = c.requires in
    (omega arith, pre-was.1, λ j h l. absurd (omega arith))

pub row_length-width-requires : goal.row_length-width-requires
row_length-width-requires c =
    let given = c.args in
    let pre-was = c.requires in
    form-top (lent given.form given.t.now) pre-was.0

pub overflow_mul-width : goal.overflow_mul-width
overflow_mul-width c =
    let given = c.args in
    let row-length-was = c.row_length-width in
    let pre-was = c.requires in
    omega (arith, ap (λ (x : ℕ). x * given.i) row-length-was.ensures, rows_fit (lent given.form given.t.now) pre-was.0 given.i pre-was.1)

pub overflow_add-width : goal.overflow_add-width
overflow_add-width c =
    let given = c.args in
    let row-length-was = c.row_length-width in
    let pre-was = c.requires in
    omega (arith, ap (λ (x : ℕ). x * given.i) row-length-was.ensures, rows_fit (lent given.form given.t.now) pre-was.0 given.i pre-was.1)

pub next_like-at-requires : goal.next_like-at-requires
next_like-at-requires c =
    let given = c.args in
    let row-length-was = c.row_length-width in
    let pre-was = c.requires in
    let w : ℕ = row_length given.form in
    let o : ℕ = length given.name.now - 6 in
    let e = ap (λ (x : ℕ). x * given.i + o) row-length-was.ensures in
    let less : o + 8 ≤ w = omega (arith, width-least given.form) in
    (pre-was.0, omega (arith, rest-is w _ given.i o e (omega (arith, less)), less), omega (arith, quotient_is w _ given.i o e (omega (arith, less)), pre-was.1))

pub loop-at-init : goal.loop-at-init
loop-at-init c =
    let given = c.args in
    let row-length-was = c.row_length-width in
    let next-like-was = c.next_like-at in
    let eight-was = c.eight-end in
    let name = c.args.name.now in
    let t : Table = lent given.form given.t.now in
    let a : Account = record { operator = given.op; name = given.name.now } in
    let w : ℕ = row_length given.form in
    let o : ℕ = length name - 6 in
    let e = ap (λ (x : ℕ). x * given.i + o) row-length-was.ensures in
    let less : o < w = omega (arith, width-least given.form) in
    let d = rest-is w _ given.i o e less in
    let first = quotient_is w _ given.i o e less in (
      next-like-was.ensures.0 ∙ d,
      omega (arith, first, next-like-was.ensures.1),
      next-like-was.ensures.2,
      λ j b l. no_name a (row_at t j) (other-end t name j (w * j + o) (omega arith) (omega arith) refl
          (λ q. next-like-was.ensures.3 j (omega (arith, first, b)) l (ap (λ (x : ℕ). low64 given.t.now (w * j + x)) d ∙ q ∙ sym eight-was.ensures.0))),
    )

pub bounds-operators-at : goal.bounds-operators-at
bounds-operators-at c =
    let given = c.args in
    let loop-was = c.loop-at in
    let pre-was = c.requires in
    let w : ℕ = row_length given.form in
    let k : ℕ = loop-was.at / w in
    let o : ℕ = length given.name.now - 6 in
    let here : loop-was.at ≡ w * k + o = split w loop-was.at ∙ ap (λ (x : ℕ). w * k + x) loop-was.invariant.0 in
    omega (arith, here, width-least given.form, (row_inside (lent given.form given.t.now) pre-was.0 k o (omega (arith, here))).1)

pub overflow_add-at : goal.overflow_add-at
overflow_add-at c =
    let given = c.args in
    let pre-was = c.requires in
    let row-length-was = c.row_length-width in
    let most = bytes_most (lent given.form given.t.now) pre-was.0 in
    omega (arith, row-length-was.ensures, most.0, most.1)

pub next_like-at-requires-in-loop-at : goal.next_like-at-requires-in-loop-at
next_like-at-requires-in-loop-at c =
    let given = c.args in
    let loop-was = c.loop-at in
    let pre-was = c.requires in
    let row-length-was = c.row_length-width in
    let w : ℕ = row_length given.form in
    let k : ℕ = loop-was.at / w in
    let o : ℕ = length given.name.now - 6 in
    let here : loop-was.at ≡ w * k + o = split w loop-was.at ∙ ap (λ (x : ℕ). w * k + x) loop-was.invariant.0 in
    let inside = row_inside (lent given.form given.t.now) pre-was.0 k o (omega (arith, here)) in
    let next = one-row-on w loop-was.at _ row-length-was.ensures (omega (arith, width-least given.form)) in
    (pre-was.0, omega (arith, next.1, loop-was.invariant.0, width-least given.form), omega (arith, next.0, inside.0))

pub loop-at-smaller : goal.loop-at-smaller
loop-at-smaller c =
    let given = c.args in
    let loop-was = c.loop-at in
    let next-like2-was = c.next_like-at-in-loop-at in
    let row-length-was = c.row_length-width in
    let w : ℕ = row_length given.form in
    let k : ℕ = loop-was.at / w in
    let m : ℕ = next-like2-was.result / w in
    let least = width-least given.form in
    let next = one-row-on w loop-was.at _ row-length-was.ensures (omega (arith, least)) in
    let more : w * (k + 1) ≤ w * m = rows-order w (k + 1) m (omega (arith, next.0, next-like2-was.ensures.1)) in
    omega (arith, split w loop-was.at, split w next-like2-was.result, next.1, next-like2-was.ensures.0, least, more)

pub loop-at-preserved : goal.loop-at-preserved
loop-at-preserved c =
    let given = c.args in
    let pre-was = c.requires in
    let loop-was = c.loop-at in
    let row-length-was = c.row_length-width in
    let test3 = c.if-from-op in
    let from-was = c.from in
    let next-like2-was = c.next_like-at-in-loop-at in
    let eight-was = c.eight-end in
    let name = c.args.name.now in
    let t : Table = lent given.form given.t.now in
    let a : Account = record { operator = given.op; name = given.name.now } in
    let w : ℕ = row_length given.form in
    let k : ℕ = loop-was.at / w in
    let o : ℕ = length name - 6 in
    let here : loop-was.at ≡ w * k + o = split w loop-was.at ∙ ap (λ (x : ℕ). w * k + x) loop-was.invariant.0 in
    let next = one-row-on w loop-was.at _ row-length-was.ensures (omega (arith, width-least given.form)) in
    let d = next.1 ∙ loop-was.invariant.0 in
    let b : ℕ = 25 - length name in
    let seen : get_or (part given.t.now b (length given.t.now - b)) loop-was.at 0 ≡ get_or given.t.now (b + loop-was.at) 0 =
    get_or-take (length given.t.now - b) (drop b given.t.now) loop-was.at 0 (omega (arith, here, width-least given.form, (row_inside t pre-was.0 k o (omega (arith, here))).1)) ∙ get_or-drop b given.t.now loop-was.at 0 in
    let other : is_row_of a (row_at t k) ≡ false = other-operator t a k (b + loop-was.at) (omega (arith, here)) (λ e. test3.false (from-was.ensures ∙ seen ∙ e)) in (
      next-like2-was.ensures.0 ∙ d,
      omega (arith, next.0, loop-was.invariant.1, next-like2-was.ensures.1),
      next-like2-was.ensures.2,
      λ j b l. by-test (eqb j k)
          (λ e. ap (λ (x : ℕ). is_row_of a (row_at t x)) (eqb-true j k e) ∙ other)
          (λ e. by-test (ltb j k)
          (λ f. loop-was.invariant.3 j b (ltb-true j k f))
          (λ f. no_name a (row_at t j) (other-end t name j (w * j + o) (omega arith) (omega arith) refl
          (λ q. next-like2-was.ensures.3 j (omega (arith, next.0, eqb-false j k e, ltb-false j k f)) l (ap (λ (x : ℕ). low64 given.t.now (w * j + x)) d ∙ q ∙ sym eight-was.ensures.0))))),
    )

pub nonzero_div-result : goal.nonzero_div-result
nonzero_div-result c =
    let row-length-was = c.row_length-width in
    let given = c.args in
    omega (arith, row-length-was.ensures, width-least given.form)

pub returns : goal.returns
returns c =
    let loop-was = c.loop-at in
    let row-length-was = c.row_length-width in
    let q = ap (λ (x : ℕ). loop-was.at / x) row-length-was.ensures in
    (omega (arith, q, loop-was.invariant.1), omega (arith, q, loop-was.invariant.2), λ j a l. loop-was.invariant.3 j a (omega (arith, q, l)))
