use mathlib.Core.Path.{◌≡◌, sym, ap, ◌∙◌}
use Prim.Native.Nat.{ℕ, ◌+◌, ◌-◌, ◌*◌}
use native.Mathlib.Omega.{arith}
use borrow.Author.Tests.{eqb-true, eqb-false}
use lib.Dec.{eqb}
use lib.ListN.{length, drop}
use Rattle.octets.specs.Numbers.{low64}
use Rattle.octets.specs.Texts.{same}
use Rattle.octets.proofs.Lists.{by-test}
use Rattle.octets.proofs.Texts.{same-lengths}
use Rattle.octets.proofs.Words.{words_same, words-differ, words-end}
use Rattle.octets.proofs.same_bytes.Goals as goal

pub returns-then-n-b : goal.returns-then-n-b
returns-then-n-b c = sym (same-lengths c.args.a.now c.args.b.now c.if-n-b.true)

pub returns-then-eight : goal.returns-then-eight
returns-then-eight c =
    let l = c.loop-k in
    sym (words-differ c.args.a.now c.args.b.now (8 * l.k) (λ e. c.if-eight.true (c.eight.ensures.0 ∙ e ∙ sym c.eight-in-loop-k.ensures.0)))

pub loop-k-preserved : goal.loop-k-preserved
loop-k-preserved c =
    let a = c.args.a.now in
    let b = c.args.b.now in
    let l = c.loop-k in
    let x = c.eight.ensures in
    let y = c.eight-in-loop-k.ensures in
    let there : 8 * (l.k + 1) ≡ 8 * l.k + 8 = omega arith in
    ap (λ (j : ℕ). same (drop j a) (drop j b)) there
    ∙ words_same a b (8 * l.k) (omega arith) (omega arith) x.1 x.2 y.1 y.2 (sym x.0 ∙ c.if-eight.false ∙ y.0)
    ∙ l.invariant

pub returns : goal.returns
returns c =
    let a = c.args.a.now in
    let b = c.args.b.now in
    let l = c.loop-k in
    let x = c.eight-2 in
    let y = c.eight-3 in
    by-test (eqb x.result y.result)
    (λ e. let word : low64 a (length a - 8) ≡ low64 b (length a - 8) = sym x.ensures.0 ∙ eqb-true x.result y.result e ∙ y.ensures.0 in
    e ∙ sym (sym l.invariant ∙ words-end a b (length a - 8) (8 * l.k) (omega arith) (omega arith) (omega arith) x.ensures.1 x.ensures.2 y.ensures.1 y.ensures.2 word))
    (λ e. e ∙ sym (words-differ a b (length a - 8) (λ d. eqb-false x.result y.result e (x.ensures.0 ∙ d ∙ sym y.ensures.0))))
