-- One of the three for each way.
use mathlib.Core.Path.{refl, sym, ◌∙◌}
use mathlib.Core.Logic.{inl, inr}
use native.Mathlib.Omega.{arith}
use Rattle.likeness.proofs.mark_behind.Goals as goal

pub returns-then-met-ne0 : goal.returns-then-met-ne0
returns-then-met-ne0 c =
    let test1 = c.if-met-ne0 in
    let pre-was = c.requires in
    inr (inr (test1.true, pre-was.1 test1.true))

pub returns-then-mark-eq0 : goal.returns-then-mark-eq0
returns-then-mark-eq0 c =
    let test2 = c.if-mark-eq0 in
    inl (refl, inl test2.true)

pub behind_mark-behind-requires : goal.behind_mark-behind-requires
behind_mark-behind-requires c =
    let pre-was = c.requires in
    pre-was.0

pub returns-then-behind-ne0 : goal.returns-then-behind-ne0
returns-then-behind-ne0 c =
    let test3 = c.if-behind-ne0 in
    let behind-mark-was = c.behind_mark-behind in
    inr (inr (test3.true, behind-mark-was.ensures test3.true))

pub named_from-requires : goal.named_from-requires
named_from-requires c =
    let pre-was = c.requires in
    pre-was.0

pub returns-then-named_from-ne0 : goal.returns-then-named_from-ne0
returns-then-named_from-ne0 c =
    let test2 = c.if-mark-eq0 in
    inr (inl (refl, omega (arith, test2.false)))

pub returns : goal.returns
returns c =
    let named-from-was = c.named_from in
    let test4 = c.if-named_from-ne0 in
    inl (refl, inr (sym named-from-was.ensures ∙ test4.false))
