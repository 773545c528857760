use mathlib.Core.Path.{◌≡◌, sym, ap, ◌∙◌}
use mathlib.Core.List.{List}
use Prim.Native.Nat.{ℕ, ◌/◌}
use native.Mathlib.Omega.{arith}
use lib.ListN.{length}
use Rattle.std.specs.Slice.Iter.{chunks_exact_rest, chunks_exact_size}
use Rattle.table.specs.Answers.{lent}
use Rattle.table.specs.TheTable.{is_own, own_rows, row_length, rows}
use Rattle.table.proofs.Rows.{form-top, rows-most, width-least, width-some}
use Rattle.table.proofs.Chunks.{left, left-all, left-end, left-here, left-on, one-less}
use Rattle.table.proofs.own_rows.Goals as goal

pub row_length-requires : goal.row_length-requires
row_length-requires c = form-top (lent c.args.form c.args.t.now) c.requires

pub chunks_exact-r-items-requires : goal.chunks_exact-r-items-requires
chunks_exact-r-items-requires c = omega (arith, c.row_length.ensures, width-least c.args.form)

pub loop-r-init-derived : goal.loop-r-init-derived
loop-r-init-derived c =
    let wide : chunks_exact_size c.into_iter-r-iterator.result ≡ row_length c.args.form = ap chunks_exact_size c.into_iter-r-iterator.ensures.into_iter_gives ∙ c.chunks_exact-r-items.ensures.size ∙ c.row_length.ensures in
    (omega (arith, wide, width-least c.args.form), tt)

pub loop-r-init : goal.loop-r-init
unfolding own_rows rows
loop-r-init c =
    let form = c.args.form in
    let w : ℕ = row_length form in
    let s : List ℕ = chunks_exact_rest c.into_iter-r-iterator.result in
    let whole : s ≡ c.args.t.now = ap chunks_exact_rest c.into_iter-r-iterator.ensures.into_iter_gives ∙ c.chunks_exact-r-items.ensures.rest in
    let all : left w (width-some form) (is_own c.args.op) s ≡ length (own_rows c.args.op (lent form c.args.t.now)) = ap (left w (width-some form) (is_own c.args.op)) whole ∙ left-all w (width-some form) (is_own c.args.op) c.args.t.now in
    record {
      wide = ap chunks_exact_size c.into_iter-r-iterator.ensures.into_iter_gives ∙ c.chunks_exact-r-items.ensures.size ∙ c.row_length.ensures;
      few = omega (arith, ap (λ (x : List ℕ). length x / w) whole);
      counted = omega (arith, all);
    }

pub is_own-requires : goal.is_own-requires
is_own-requires c = omega (arith, c.in-Some.ensures.steps.1.1, c.loop-r.invariant.wide, width-least c.args.form)

pub overflow_add-count : goal.overflow_add-count
overflow_add-count c =
    let form = c.args.form in
    let step = c.in-Some.ensures.steps in
    let less = one-less (row_length form) (width-some form) _ _ _ step.1.0 (step.1.1 ∙ c.loop-r.invariant.wide) in
    omega (arith, less, c.loop-r.invariant.few, rows-most (lent form c.args.t.now) c.requires)

pub loop-r-preserved-then-is_own : goal.loop-r-preserved-then-is_own
loop-r-preserved-then-is_own c =
    let form = c.args.form in
    let was = c.loop-r.invariant in
    let step = c.in-Some.ensures.steps in
    let less = one-less (row_length form) (width-some form) _ _ _ step.1.0 (step.1.1 ∙ was.wide) in
    let here = left-here (row_length form) (width-some form) (is_own c.args.op) _ _ _ step.1.0 (step.1.1 ∙ was.wide) (sym c.is_own.ensures ∙ c.if-is_own.true) in
    record { wide = step.0 ∙ was.wide; few = omega (arith, less, was.few); counted = omega (arith, here, was.counted) }

pub loop-r-preserved : goal.loop-r-preserved
loop-r-preserved c =
    let form = c.args.form in
    let was = c.loop-r.invariant in
    let step = c.in-Some.ensures.steps in
    let less = one-less (row_length form) (width-some form) _ _ _ step.1.0 (step.1.1 ∙ was.wide) in
    let on = left-on (row_length form) (width-some form) (is_own c.args.op) _ _ _ step.1.0 (step.1.1 ∙ was.wide) (sym c.is_own.ensures ∙ c.if-is_own.false) in
    record { wide = step.0 ∙ was.wide; few = omega (arith, less, was.few); counted = omega (arith, on, was.counted) }

pub returns : goal.returns
returns c =
    let form = c.args.form in
    let was = c.loop-r.invariant in
    let none = left-end (row_length form) (width-some form) (is_own c.args.op) (chunks_exact_rest c.loop-r.r-iterator) (omega (arith, c.in-None.ensures.steps.1.0, was.wide)) in
    omega (arith, none, was.counted)
