-- Without a second block there is but one policy; with one the two tests in order.
use mathlib.Core.Path.{◌≡◌, sym, ap, ◌∙◌}
use mathlib.Core.Bool.{true, false}
use native.Mathlib.Omega.{arith}
use lib.ListN.{length, get_or}
use Rattle.clauses.proofs.Laws.{order-last, order-none, order-out}
use Rattle.row.proofs.Places.{form-two}
use Rattle.table.proofs.Form.{length-first-of, sized}
use Rattle.table.proofs.Tests.{fails, passes_on}
use Rattle.table.specs.Soundness.{only_behind}
use Rattle.table.specs.TheTable.{first_block, place, second_block}
use Rattle.clauses.proofs.policies_in_order.Goals as goal

pub returns-then-more-eq0 : goal.returns-then-more-eq0
returns-then-more-eq0 c =
    let given = c.args in
    let second-was = c.second-more in
    let test1 = c.if-more-eq0 in
    order-none given.r.now given.k (sym (ap length second-was.ensures) ∙ test1.true)

pub bounds-more-3 : goal.bounds-more-3
bounds-more-3 c =
    let second-was = c.second-more in
    let given = c.args in
    let pre-was = c.requires in
    let test1 = c.if-more-eq0 in
    omega (arith, ap length second-was.ensures ∙ (form-two given.r.now given.k pre-was.0 pre-was.1 pre-was.2 (λ e. test1.false (ap length second-was.ensures ∙ e))).1)

pub bounds-block-5 : goal.bounds-block-5
bounds-block-5 c =
    let first-was = c.first-block in
    let given = c.args in
    let pre-was = c.requires in
    omega (arith, ap length first-was.ensures ∙ length-first-of given.r.now given.k (sized given.r.now pre-was.0) pre-was.1 pre-was.2)

pub returns-then-not-only_behind : goal.returns-then-not-only_behind
returns-then-not-only_behind c =
    let given = c.args in
    let second-was = c.second-more in
    let first-was = c.first-block in
    let only-behind-was = c.only_behind in
    let test2 = c.if-not-only_behind in
    let behind : only_behind (get_or (second_block (place given.r.now given.k)) 3 0) (get_or (first_block (place given.r.now given.k)) 5 0) ≡ false = sym (λ i. only_behind (get_or (second-was.ensures i) 3 0) (get_or (first-was.ensures i) 5 0)) ∙ fails only-behind-was.ensures test2.true in
    order-out given.r.now given.k behind

pub bounds-more-4 : goal.bounds-more-4
bounds-more-4 c =
    let second-was = c.second-more in
    let given = c.args in
    let pre-was = c.requires in
    let test1 = c.if-more-eq0 in
    omega (arith, ap length second-was.ensures ∙ (form-two given.r.now given.k pre-was.0 pre-was.1 pre-was.2 (λ e. test1.false (ap length second-was.ensures ∙ e))).1)

pub bounds-more-3-2 : goal.bounds-more-3-2
bounds-more-3-2 c =
    let second-was = c.second-more in
    let given = c.args in
    let pre-was = c.requires in
    let test1 = c.if-more-eq0 in
    omega (arith, ap length second-was.ensures ∙ (form-two given.r.now given.k pre-was.0 pre-was.1 pre-was.2 (λ e. test1.false (ap length second-was.ensures ∙ e))).1)

pub returns : goal.returns
returns c =
    let given = c.args in
    let second-was = c.second-more in
    let first-was = c.first-block in
    let only-behind-was = c.only_behind in
    let test2 = c.if-not-only_behind in
    let only-behind2-was = c.only_behind-2 in
    let behind : only_behind (get_or (second_block (place given.r.now given.k)) 3 0) (get_or (first_block (place given.r.now given.k)) 5 0) ≡ true = sym (λ i. only_behind (get_or (second-was.ensures i) 3 0) (get_or (first-was.ensures i) 5 0)) ∙ passes_on only-behind-was.ensures test2.false in
    let third : only-behind2-was.result ≡ only_behind (get_or (second_block (place given.r.now given.k)) 4 0) (get_or (second_block (place given.r.now given.k)) 3 0) = only-behind2-was.ensures ∙ (λ i. only_behind (get_or (second-was.ensures i) 4 0) (get_or (second-was.ensures i) 3 0)) in
    third ∙ order-last given.r.now given.k behind
