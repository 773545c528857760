use mathlib.Core.Path.{◌≡◌, refl, sym, ap, ◌∙◌}
use Prim.Native.Nat.{ℕ, ◌+◌, ◌*◌, ◌/◌, ◌%◌, ◌≤◌}
use native.Mathlib.Omega.{arith}
use Rattle.table.specs.Columns.{column_first}
use Rattle.table.proofs.Columns.{both, column_share, columns-right, more, product, share-is, total, total-more}
use Rattle.table.proofs.sums_of.Goals as goal

pub loop-j-init : goal.loop-j-init
unfolding total
loop-j-init c = (omega arith, omega arith, omega arith, refl, refl)

pub overflow_mul-weight : goal.overflow_mul-weight
overflow_mul-weight c =
    let l = c.loop-j in
    let few : c.folded-first.result ≤ 270 = omega (arith, c.folded-first.ensures.1, c.column-c.ensures.2) in
    let product-fits : l.weight * c.folded-first.result ≤ 8640 = product l.weight c.folded-first.result (omega arith) few in omega arith

pub overflow_add-before : goal.overflow_add-before
overflow_add-before c =
    let l = c.loop-j in
    let few : c.folded-first.result ≤ 270 = omega (arith, c.folded-first.ensures.1, c.column-c.ensures.2) in
    let product-fits : l.weight * c.folded-first.result ≤ 8640 = product l.weight c.folded-first.result (omega arith) few in
    omega (arith, c.folded-before.ensures.1, c.column-c.ensures.3)

pub overflow_add-b : goal.overflow_add-b
overflow_add-b c =
    let l = c.loop-j in
    let few : c.folded-first.result ≤ 270 = omega (arith, c.folded-first.ensures.1, c.column-c.ensures.2) in
    let product-fits : l.weight * c.folded-first.result ≤ 8640 = product l.weight c.folded-first.result (omega arith) few in
    omega (arith, c.folded-b.ensures.1, c.folded-before.ensures.1, c.column-c.ensures.3)

pub loop-j-preserved : goal.loop-j-preserved
loop-j-preserved c =
    let l = c.loop-j in
    let s = c.args.s.now in
    let col = c.column-c in
    let one = c.folded-first in
    let two = c.folded-before in
    let three = c.folded-b in
    let few : one.result ≤ 270 = omega (arith, one.ensures.1, col.ensures.2) in
    let product-fits : l.weight * one.result ≤ 8640 = product l.weight one.result (omega arith) few in
    let share : (32 * two.result + l.weight * one.result) % 255 ≡ column_share 16 s l.j % 255 =
    share-is s l.j l.weight col.result.first col.result.before (col.result.first / 256) (col.result.before / 256) one.result two.result col.ensures.0 col.ensures.1 l.invariant.0 one.ensures.0 two.ensures.0 in
    let first : (l.a + one.result) % 255 ≡ total (column_first 16 s) (l.j + 1) % 255 =
    both l.a one.result (total (column_first 16 s) l.j) (column_first 16 s l.j) _ l.invariant.3 (sym (ap (λ (k : ℕ). k % 255) one.ensures.0 ∙ more one.result _) ∙ ap (λ (k : ℕ). k % 255) col.ensures.0) (total-more (column_first 16 s) l.j) in
    let second : (l.b + three.result) % 255 ≡ total (column_share 16 s) (l.j + 1) % 255 =
    both l.b three.result (total (column_share 16 s) l.j) (column_share 16 s l.j) _ l.invariant.4 (sym (ap (λ (k : ℕ). k % 255) three.ensures.0 ∙ more three.result _) ∙ share) (total-more (column_share 16 s) l.j) in
    (omega arith, omega arith, omega (arith, three.ensures.1, two.ensures.1, col.ensures.3), first, second)

pub returns : goal.returns
returns c =
    let l = c.loop-j in
    let s = c.args.s.now in
    let done : l.j ≡ 32 = omega arith in
    let first : l.a % 255 ≡ total (column_first 16 s) 32 % 255 = l.invariant.3 ∙ ap (λ (k : ℕ). total (column_first 16 s) k % 255) done in
    let second : l.b % 255 ≡ total (column_share 16 s) 32 % 255 = l.invariant.4 ∙ ap (λ (k : ℕ). total (column_share 16 s) k % 255) done in
    (columns-right s l.a l.b c.from-p.result c.from-q.result c.requires first second c.from-p.ensures c.from-q.ensures (omega (arith, c.from-p.ensures, c.type_inv.s 510)) (omega (arith, c.from-q.ensures, c.type_inv.s 511)), omega arith, omega arith)
