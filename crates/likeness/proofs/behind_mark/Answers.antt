-- What is behind the mark is told only where the AVP at it has the name.
use mathlib.Core.Path.{refl, sym, ◌∙◌}
use Rattle.likeness.proofs.Places.{stands, passes-here}
use Rattle.likeness.proofs.behind_mark.Goals as goal

pub returns-then-mark-lt2 : goal.returns-then-mark-lt2
returns-then-mark-lt2 c = λ f. absurd (f refl)

pub returns-then-next-eq0 : goal.returns-then-next-eq0
returns-then-next-eq0 c = λ f. absurd (f refl)

pub same_name-requires : goal.same_name-requires
same_name-requires c =
    let pre-was = c.requires in
    let given = c.args in
    let test2 = c.if-next-eq0 in
    let next-at-was = c.next_at-next in
    (pre-was, stands given.ours.now given.mark (passes-here given.ours.now given.mark (λ z. test2.false (next-at-was.ensures ∙ z))))

pub returns-then-same_name : goal.returns-then-same_name
returns-then-same_name c =
    let test1 = c.if-mark-lt2 in
    let next-at-was = c.next_at-next in
    let same-name-was = c.same_name in
    let test3 = c.if-same_name in
    λ f. record { marked = test1.false; next = sym next-at-was.ensures; named = sym same-name-was.ensures ∙ test3.true }

pub returns : goal.returns
returns c = λ f. absurd (f refl)
