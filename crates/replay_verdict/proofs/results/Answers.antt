use mathlib.Core.Path.{sym, ◌∙◌}
use native.Mathlib.Omega.{arith}
use Rattle.replay_verdict.specs.Verdicts.{agreed}
use Rattle.replay_verdict.proofs.Laws.{result-same, result-other, results_end}
use Rattle.replay_verdict.proofs.results.Goals as goal

pub returns-then-not-is_ok : goal.returns-then-not-is_ok
unfolding agreed
returns-then-not-is_ok c =
    let l = c.loop-i in
    let a = c.args in
    let no = sym c.is_ok.ensures.value ∙ c.if-not-is_ok.true in
    let other = sym c.result-v.ensures ∙ no in
    no ∙ (sym (result-other a.r.now l.a a.places.now l.i (omega arith) other) ∙ l.invariant.2)

pub loop-i-preserved : goal.loop-i-preserved
unfolding agreed
loop-i-preserved c =
    let l = c.loop-i in
    let a = c.args in
    let yes = sym c.is_ok.ensures.value ∙ c.if-not-is_ok.false in
    let there = sym c.result-v.ensures ∙ yes in
    (omega arith, omega (arith, l.invariant.1), result-same a.r.now l.a a.places.now l.i (omega arith) there ∙ l.invariant.2)

pub returns : goal.returns
unfolding agreed
returns c =
    let l = c.loop-i in
    let a = c.args in
    sym (results_end a.r.now l.a a.places.now l.i (omega arith)) ∙ l.invariant.2
