-- The header, the walk, the lists: each way out is a law of Laws.
use mathlib.Core.Path.{refl, sym, ◌∙◌}
use Rattle.octets.specs.Texts.{zeros}
use Rattle.reasons.proofs.Laws.{code-err, code-ok, header-first, walk_first, lists-last}
use Rattle.reasons.proofs.reading_failed.Goals as goal

pub returns-then-is_err : goal.returns-then-is_err
returns-then-is_err c =
    let e = code-err c.test_header.result (sym c.is_err.ensures.value ∙ c.if-is_err.true) in
    c.header_failed.ensures ∙ header-first c.args.m.now c.args.most (λ z. e (c.test_header.ensures ∙ z))

pub gather-requires : goal.gather-requires
unfolding zeros
gather-requires c = (c.requires.0, refl)

pub returns-then-is_err-2 : goal.returns-then-is_err-2
returns-then-is_err-2 c =
    let h = sym c.test_header.ensures ∙ code-ok c.test_header.result (sym c.is_err.ensures.value ∙ c.if-is_err.false) in
    let e = code-err c.gather.result (sym c.is_err-2.ensures.value ∙ c.if-is_err-2.true) in
    c.walk_failed.ensures ∙ walk_first c.args.m.now c.args.most h (λ z. e (c.gather.ensures.0 ∙ z))

pub lists_failed-requires : goal.lists_failed-requires
lists_failed-requires c =
    let p = c.requires in
    let w = sym c.gather.ensures.0 ∙ code-ok c.gather.result (sym c.is_err-2.ensures.value ∙ c.if-is_err-2.false) in
    (p.0, w, p.1, p.2, c.gather.ensures.1)

pub returns : goal.returns
returns c =
    let h = sym c.test_header.ensures ∙ code-ok c.test_header.result (sym c.is_err.ensures.value ∙ c.if-is_err.false) in
    let w = sym c.gather.ensures.0 ∙ code-ok c.gather.result (sym c.is_err-2.ensures.value ∙ c.if-is_err-2.false) in
    c.lists_failed.ensures ∙ lists-last c.args.m.now c.args.most h w
