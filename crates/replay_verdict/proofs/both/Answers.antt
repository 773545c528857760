-- The first where it does not agree, else the second.
use mathlib.Core.Path.{◌∙◌, sym}
use Rattle.replay_verdict.specs.Verdicts.{agreed}
use Rattle.replay_verdict.proofs.both.Goals as goal

pub returns-then-is_ok : goal.returns-then-is_ok
unfolding agreed
returns-then-is_ok c =
    let a = sym c.is_ok.ensures.value ∙ c.if-is_ok.true in
    rw a

pub returns : goal.returns
unfolding agreed
returns c =
    let a = sym c.is_ok.ensures.value ∙ c.if-is_ok.false in
    rw a
