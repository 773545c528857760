use mathlib.Core.Path.{◌≡◌, sym, ◌∙◌}
use native.Mathlib.Omega.{arith}
use lib.ListN.{get_or}
use Rattle.table.specs.Soundness.{lower_case}
use Rattle.table.proofs.Labels.{label-step, label-differ, label-end}
use Rattle.blocks.proofs.same_letters.Goals as goal

pub returns-then-lower_case : goal.returns-then-lower_case
returns-then-lower_case c =
    let l = c.loop-i in
    let a = c.args.a.now in
    let b = c.args.b.now in
    let apart : lower_case (get_or a l.i 0) ≡ lower_case (get_or b l.i 0) → ⊥ = λ e. c.if-lower_case.true (c.lower_case.ensures ∙ e ∙ sym c.lower_case-in-loop-i.ensures) in
    sym (label-differ a b l.i (omega arith) (omega arith) apart) ∙ l.invariant

pub loop-i-preserved : goal.loop-i-preserved
loop-i-preserved c =
    let l = c.loop-i in
    let a = c.args.a.now in
    let b = c.args.b.now in
    let alike : lower_case (get_or a l.i 0) ≡ lower_case (get_or b l.i 0) = sym c.lower_case.ensures ∙ c.if-lower_case.false ∙ c.lower_case-in-loop-i.ensures in
    (label-step a b l.i (omega arith) (omega arith) alike ∙ l.invariant)

pub returns : goal.returns
returns c =
    let l = c.loop-i in
    let a = c.args.a.now in
    let b = c.args.b.now in
    sym (label-end a b l.i (omega arith) (omega arith)) ∙ l.invariant
