use mathlib.Core.Path.{◌≡◌, sym, ap, ◌∙◌}
use mathlib.Core.List.{List}
use mathlib.Core.Logic.{inl}
use Prim.Native.Nat.{ℕ, ◌*◌, ◌+◌, ◌/◌}
use native.Mathlib.Omega.{arith}
use native.Mathlib.Nat.{mul-zero}
use lib.ListN.{length, length-append}
use Rattle.std.specs.Slice.Iter.{chunks_exact_rest, chunks_exact_size}
use Rattle.std.specs.Iterator.Adapters.{enumerate_count, enumerate_source}
use Rattle.octets.specs.Texts.{all_zero}
use Rattle.table.specs.Answers.{lent}
use Rattle.table.specs.TheTable.{first_row, row, row_length, rows}
use Rattle.table.proofs.Rows.{form-top, rows-most, width-least, width-some}
use Rattle.table.proofs.Chunks.{next_from, next-all, next-end, next-here, next-on}
use Rattle.table.proofs.first_zero_row.Goals as goal

pub row_length-requires : goal.row_length-requires
row_length-requires c = form-top (lent c.args.form c.args.t.now) c.requires

pub chunks_exact-requires : goal.chunks_exact-requires
chunks_exact-requires c = omega (arith, c.row_length.ensures, width-least c.args.form)

pub loop-i-init-derived : goal.loop-i-init-derived
loop-i-init-derived c =
    let form = c.args.form in
    let source = ap enumerate_source c.into_iter-i-iterator.ensures.into_iter_gives ∙ c.enumerate-i-items.ensures.source in
    let none = ap enumerate_count c.into_iter-i-iterator.ensures.into_iter_gives ∙ c.enumerate-i-items.ensures.count in
    let wide : chunks_exact_size c.chunks_exact.result ≡ row_length form = c.chunks_exact.ensures.size ∙ c.row_length.ensures in
    let few : length (chunks_exact_rest c.chunks_exact.result) / chunks_exact_size c.chunks_exact.result ≡ length c.args.t.now / row_length form = ap (λ (x : List ℕ). length x / chunks_exact_size c.chunks_exact.result) c.chunks_exact.ensures.rest ∙ ap (λ (x : ℕ). length c.args.t.now / x) wide in
    let left = ap (λ x. length (chunks_exact_rest x) / chunks_exact_size x) source ∙ few in
    ((omega (arith, ap chunks_exact_size source, wide, width-least form), tt, inl (omega (arith, none, left, rows-most (lent form c.args.t.now) c.requires))), tt)

pub loop-i-init : goal.loop-i-init
unfolding rows
loop-i-init c =
    let form = c.args.form in
    let w : ℕ = row_length form in
    let source = ap enumerate_source c.into_iter-i-iterator.ensures.into_iter_gives ∙ c.enumerate-i-items.ensures.source in
    let none = ap enumerate_count c.into_iter-i-iterator.ensures.into_iter_gives ∙ c.enumerate-i-items.ensures.count in
    let whole = ap chunks_exact_rest source ∙ c.chunks_exact.ensures.rest in
    record {
      wide = ap chunks_exact_size source ∙ c.chunks_exact.ensures.size ∙ c.row_length.ensures;
      whole = omega (arith, ap (λ (k : ℕ). w * k) none, ap length whole);
      next = ap (λ (k : ℕ). next_from w (width-some form) all_zero k (chunks_exact_rest (enumerate_source c.into_iter-i-iterator.result))) none ∙ ap (next_from w (width-some form) all_zero 0) whole ∙ next-all w (width-some form) all_zero c.args.t.now;
    }

pub zero_row-requires : goal.zero_row-requires
zero_row-requires c = omega (arith, c.in-Some.ensures.steps.0.1.1, c.loop-i.invariant.wide, width-least c.args.form)

pub returns-then-zero_row : goal.returns-then-zero_row
returns-then-zero_row c =
    let form = c.args.form in
    let w : ℕ = row_length form in
    let was = c.loop-i.invariant in
    let step = c.in-Some.ensures.steps in
    let here = next-here w (width-some form) all_zero (enumerate_count c.loop-i.i-iterator) _ _ _ step.0.1.0 (step.0.1.1 ∙ was.wide) (sym c.zero_row.ensures ∙ c.if-zero_row.true) in
    let size = ap length step.0.1.0 ∙ length-append c.in-Some.r.now (chunks_exact_rest (enumerate_source c.next.new.self)) in
    (ap row step.1 ∙ sym here ∙ was.next, omega (arith, ap (λ (k : ℕ). w * k) step.1, was.whole, size, step.0.1.1, was.wide))

pub loop-i-preserved : goal.loop-i-preserved
loop-i-preserved c =
    let form = c.args.form in
    let w : ℕ = row_length form in
    let was = c.loop-i.invariant in
    let step = c.in-Some.ensures.steps in
    let on = next-on w (width-some form) all_zero (enumerate_count c.loop-i.i-iterator) _ _ _ step.0.1.0 (step.0.1.1 ∙ was.wide) (sym c.zero_row.ensures ∙ c.if-zero_row.false) in
    let size = ap length step.0.1.0 ∙ length-append c.in-Some.r.now (chunks_exact_rest (enumerate_source c.next.new.self)) in
    record {
      wide = step.0.0 ∙ was.wide;
      whole = omega (arith, ap (λ (k : ℕ). w * k) step.2, was.whole, size, step.0.1.1, was.wide);
      next = ap (λ (k : ℕ). next_from w (width-some form) all_zero k (chunks_exact_rest (enumerate_source c.next.new.self))) step.2 ∙ on ∙ was.next;
    }

pub returns : goal.returns
returns c =
    let form = c.args.form in
    let was = c.loop-i.invariant in
    let none = next-end (row_length form) (width-some form) all_zero (enumerate_count c.loop-i.i-iterator) (chunks_exact_rest (enumerate_source c.loop-i.i-iterator)) (omega (arith, c.in-None.ensures.steps.0.1.0, was.wide)) in
    (sym none ∙ was.next, omega arith)
