use mathlib.Core.Path.{sym, ◌∙◌}
use Prim.Native.Nat.{◌+◌}
use native.Mathlib.Omega.{arith}
use lib.ListN.{length}
use borrow.Author.Tests.{eq-eqb, ne_eqb}
use Rattle.replay_verdict.specs.Verdicts.{agreed}
use Rattle.replay_verdict.proofs.Laws.{after, change-lent, changes-short, changes-other, changes-turn, changes-end}
use Rattle.replay_verdict.proofs.changes.Goals as goal

pub returns-then-s-p : goal.returns-then-s-p
unfolding agreed
returns-then-s-p c =
    let l = c.loop-left in
    let a = c.args in
    sym (changes-short l.left a.table.now a.s.now l.p (omega arith) (omega (arith, after a.s.now (l.p + 4)))) ∙ l.invariant.1

pub returns-then-s-e : goal.returns-then-s-e
unfolding agreed
returns-then-s-e c =
    let l = c.loop-left in
    let a = c.args in
    sym (changes-short l.left a.table.now a.s.now l.p (omega arith) (omega (arith, c.text_end-e.ensures.0))) ∙ l.invariant.1

pub returns-then-not-is_ok : goal.returns-then-not-is_ok
unfolding agreed
returns-then-not-is_ok c =
    let l = c.loop-left in
    let a = c.args in
    let e = c.text_end-e in
    let n = c.number in
    let v = c.change-v.ensures in
    let no = sym c.is_ok.ensures.value ∙ c.if-not-is_ok.true in
    let other = sym (change-lent a.table.now a.s.now n.result l.p (l.p + 8) e.result n.ensures.0 (omega arith) e.ensures.0) ∙ (sym v ∙ no) in
    no ∙ (sym (changes-other l.left a.table.now a.s.now l.p (omega arith) (omega (arith, e.ensures.0)) other) ∙ l.invariant.1)

pub loop-left-preserved : goal.loop-left-preserved
unfolding agreed
loop-left-preserved c =
    let l = c.loop-left in
    let a = c.args in
    let e = c.text_end-e in
    let n = c.number in
    let v = c.change-v.ensures in
    let yes = sym c.is_ok.ensures.value ∙ c.if-not-is_ok.false in
    let stands = sym (change-lent a.table.now a.s.now n.result l.p (l.p + 8) e.result n.ensures.0 (omega arith) e.ensures.0) ∙ (sym v ∙ yes) in
    let turn = changes-turn l.left a.table.now a.s.now l.p (omega arith) (omega (arith, e.ensures.0)) stands in
    (omega arith, rw e.ensures.0 (sym turn ∙ l.invariant.1))

pub returns-then-p-s : goal.returns-then-p-s
unfolding agreed
returns-then-p-s c =
    let l = c.loop-left in
    let a = c.args in
    sym (changes-end l.left a.table.now a.s.now l.p (omega arith) ∙ eq-eqb l.p (length a.s.now) c.if-p-s.true) ∙ l.invariant.1

pub returns : goal.returns
unfolding agreed
returns c =
    let l = c.loop-left in
    let a = c.args in
    sym (changes-end l.left a.table.now a.s.now l.p (omega arith) ∙ ne_eqb l.p (length a.s.now) c.if-p-s.false) ∙ l.invariant.1
