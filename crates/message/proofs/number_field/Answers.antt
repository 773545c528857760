-- Four bytes that are there go by the number in them; else the text's answer stands.
use mathlib.Core.Path.{◌≡◌, ap, ◌∙◌}
use Rattle.std.specs.Prelude.{Ok}
use Rattle.std.proofs.lemmas.Result.{err_from_is_err_and}
use Prim.Native.Nat.{◌+◌, ◌-◌}
use native.Mathlib.Omega.{arith}
use mathlib.Core.Bool.{true}
use borrow.Author.Tests.{le-leb, lt-leb}
use Rattle.octets.specs.Texts.{part}
use Rattle.octets.specs.Choice.{within}
use Rattle.octets.specs.Numbers.{net32}
use Rattle.octets.proofs.Lists.{in_within}
use Rattle.octets.proofs.Texts.{length_part}
use Rattle.message.specs.Positions.{name_at}
use Rattle.message.specs.Spans.{bytes_field}
use Rattle.message.proofs.Readers.{number-absent, number-failed, number-wrong, number-right}
use Rattle.message.proofs.number_field.Goals as goal

pub text_field-requires : goal.text_field-requires
text_field-requires c = (c.requires.0, omega arith, c.requires.1)

pub returns-in_default : goal.returns-in_default
returns-in_default c =
    let a = c.args in
    number-absent a.m.now (name_at a.slot) a.low a.high c.text_field.result (c.text_field.ensures true)
    (c.in_ok-s.was ∙ ap Ok c.in_default.is)

pub returns-in_err-s : goal.returns-in_err-s
returns-in_err-s c =
    let a = c.args in
    let p = err_from_is_err_and c.from_residual.result c.from_residual.ensures.1 in
    rw (p.1, p.2) (number-failed a.m.now (name_at a.slot) a.low a.high c.text_field.result (c.text_field.ensures true) c.in_err-s.field-0.0 c.in_err-s.was)

pub overflow_add-e : goal.overflow_add-e
unfolding bytes_field
overflow_add-e c =
    let s = c.in-Some.s in
    let r = c.text_field.ensures true in
    omega (arith, (r.found s (c.in_ok-s.was ∙ ap Ok c.in-Some.is)).inside, c.well_formed.0)

pub slice_bounds-value32-end : goal.slice_bounds-value32-end
unfolding bytes_field
slice_bounds-value32-end c =
    let s = c.in-Some.s in
    let r = c.text_field.ensures true in
    omega (arith, (r.found s (c.in_ok-s.was ∙ ap Ok c.in-Some.is)).inside)

pub value32-n-requires : goal.value32-n-requires
unfolding bytes_field
value32-n-requires c =
    let s = c.in-Some.s in
    let m = c.args.m.now in
    let r = c.text_field.ensures true in
    let e : s.at + s.len - s.at ≡ s.len = omega arith in
    rw e (omega (
      arith,
      (r.sized s (c.in_ok-s.was ∙ ap Ok c.in-Some.is)).0,
      length_part m s.at s.len
          (r.found s (c.in_ok-s.was ∙ ap Ok c.in-Some.is)).inside,
    ))

pub returns-then-n-low : goal.returns-then-n-low
unfolding within
returns-then-n-low c =
    let s = c.in-Some.s in
    let a = c.args in
    let r = c.text_field.ensures true in
    let e : s.at + s.len - s.at ≡ s.len = omega arith in
    let n = rw e at c.value32-n.ensures in
    number-wrong a.m.now (name_at a.slot) a.low a.high c.text_field.result r
    s (c.in_ok-s.was ∙ ap Ok c.in-Some.is)
    (rw (lt-leb a.low (net32 (part a.m.now s.at s.len) 0) (omega (arith, n, c.if-n-low.true))))

pub returns-then-high-n : goal.returns-then-high-n
unfolding within
returns-then-high-n c =
    let s = c.in-Some.s in
    let a = c.args in
    let r = c.text_field.ensures true in
    let e : s.at + s.len - s.at ≡ s.len = omega arith in
    let n = rw e at c.value32-n.ensures in
    number-wrong a.m.now (name_at a.slot) a.low a.high
    c.text_field.result r s
    (c.in_ok-s.was ∙ ap Ok c.in-Some.is)
    (rw (
      le-leb a.low (net32 (part a.m.now s.at s.len) 0) (omega (arith, n, c.if-n-low.false)),
      lt-leb
          (net32 (part a.m.now s.at s.len) 0) a.high (omega (arith, n, c.if-high-n.true)),
    ))

pub returns : goal.returns
returns c =
    let s = c.in-Some.s in
    let a = c.args in
    let r = c.text_field.ensures true in
    let e : s.at + s.len - s.at ≡ s.len = omega arith in
    let n = rw e at c.value32-n.ensures in
    number-right a.m.now (name_at a.slot) a.low a.high
    c.text_field.result r s (c.in_ok-s.was ∙ ap Ok c.in-Some.is)
    (in_within a.low a.high (net32 (part a.m.now s.at s.len) 0) (omega (arith, n, c.if-n-low.false))
    (omega (arith, n, c.if-high-n.false)))
