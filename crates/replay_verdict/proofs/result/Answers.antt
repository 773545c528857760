use mathlib.Core.Path.{sym, ◌∙◌}
use Prim.Native.Nat.{◌+◌, ◌*◌}
use native.Mathlib.Omega.{arith}
use borrow.Author.Rules.{rules}
use Rattle.replay_verdict.specs.Verdicts.{agreed}
use Rattle.replay_verdict.proofs.Laws.{number_same, number-other, numbers-end, numbers-start, numbers-next}
use Rattle.replay_verdict.proofs.result.Goals as goal

pub loop-k-init : goal.loop-k-init
loop-k-init c = let a = c.args in
    (omega arith, search rules, numbers-start a.r.now a.at a.place)

pub returns-then-expected-got : goal.returns-then-expected-got
unfolding agreed
returns-then-expected-got c =
    let l = c.loop-k in
    let a = c.args in
    let n = c.number-expected in
    sym (number-other a.r.now (a.at + 4 * l.k) a.place l.k (omega (arith, l.invariant.1)) (λ e. c.if-expected-got.true (n.ensures.0 ∙ e))) ∙ l.invariant.2

pub loop-k-preserved : goal.loop-k-preserved
loop-k-preserved c =
    let l = c.loop-k in
    let a = c.args in
    let n = c.number-expected in
    let step = number_same a.r.now (a.at + 4 * l.k) a.place l.k (omega (arith, l.invariant.1)) (sym n.ensures.0 ∙ c.if-expected-got.false) in
    (omega arith, l.invariant.1, numbers-next a.r.now a.at a.place l.k ∙ (step ∙ l.invariant.2))

pub returns : goal.returns
unfolding agreed
returns c =
    let l = c.loop-k in
    let a = c.args in
    sym (numbers-end a.r.now (a.at + 4 * l.k) a.place l.k (omega (arith, l.invariant.1))) ∙ l.invariant.2
