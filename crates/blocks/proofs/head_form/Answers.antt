-- Each way out refutes one clause of the form; the last is what is left of it.
use mathlib.Core.Path.{◌∙◌, ap}
use native.Mathlib.Omega.{arith}
use Prim.Native.Nat.{ℕ}
use lib.Dec.{eqb}
use lib.ListN.{get_or}
use borrow.Author.Tests.{eq-eqb, eqb-true, le-leb, leb-true}
use Rattle.table.proofs.Tests.{clash, fails, not-head, passes_on}
use Rattle.blocks.proofs.Rooms.{four-zero, head-but-gap}
use Rattle.blocks.proofs.head_form.Goals as goal

pub returns-then-b-ne1 : goal.returns-then-b-ne1
returns-then-b-ne1 c =
    let given = c.args in
    let test1 = c.if-b-ne1 in
    not-head given.b.now (λ h n k. test1.true (eqb-true (get_or given.b.now 0 0) 1 h.one))

pub returns-then-not-all_zero : goal.returns-then-not-all_zero
returns-then-not-all_zero c =
    let given = c.args in
    let all-zero-was = c.all_zero in
    let test2 = c.if-not-all_zero in
    not-head given.b.now (λ h n k. clash h.end (fails all-zero-was.ensures test2.true))

pub returns-then-not-name_form : goal.returns-then-not-name_form
returns-then-not-name_form c =
    let given = c.args in
    let name-form-was = c.name_form in
    let test3 = c.if-not-name_form in
    not-head given.b.now (λ h n k. clash n (fails name-form-was.ensures test3.true))

pub returns-then-b-gt4 : goal.returns-then-b-gt4
returns-then-b-gt4 c =
    let given = c.args in
    not-head given.b.now (λ h n k. omega arith)

pub returns-then-b-gt15 : goal.returns-then-b-gt15
returns-then-b-gt15 c =
    let given = c.args in
    not-head given.b.now (λ h n k. omega (arith, leb-true (get_or given.b.now 19 0) 15 h.nineteen))

pub returns-then-not-line_form : goal.returns-then-not-line_form
returns-then-not-line_form c =
    let given = c.args in
    let line-form-was = c.line_form in
    let test6 = c.if-not-line_form in
    not-head given.b.now (λ h n k. clash h.line-end (fails line-form-was.ensures test6.true))

pub returns : goal.returns
returns c =
    let read32-was = c.read32 in
    let given = c.args in
    let given-length = c.requires in
    let test1 = c.if-b-ne1 in
    let all-zero-was = c.all_zero in
    let test2 = c.if-not-all_zero in
    let name-form-was = c.name_form in
    let test3 = c.if-not-name_form in
    let test4 = c.if-b-gt4 in
    let test5 = c.if-b-gt15 in
    let line-form-was = c.line_form in
    let test6 = c.if-not-line_form in
    ap (λ (x : ℕ). eqb x 0) read32-was.ensures ∙ four-zero given.b.now 28 (omega (arith, given-length)) ∙ head-but-gap given.b.now (eq-eqb (get_or given.b.now 0 0) 1 test1.false) (passes_on name-form-was.ensures test3.false) (le-leb (get_or given.b.now 18 0) 4 test4.false) (le-leb (get_or given.b.now 19 0) 15 test5.false) (passes_on line-form-was.ensures test6.false) (passes_on all-zero-was.ensures test2.false)
