use mathlib.Core.Path.{◌∙◌, sym}
use native.Mathlib.Omega.{arith}
use Rattle.octets.specs.Choice.{within}
use Rattle.table.specs.Soundness.{is_digit}
use Rattle.table.proofs.Tests.{every-end, every-on-true, every-out, fails, passes_on}
use Rattle.blocks.proofs.digits.Goals as goal

pub returns-then-not-is_ascii_digit : goal.returns-then-not-is_ascii_digit
unfolding is_digit within
returns-then-not-is_ascii_digit c =
    sym (every-out 0 is_digit c.args.s.now c.loop-x.x-index (omega arith) (fails c.is_ascii_digit.ensures.value c.if-not-is_ascii_digit.true)) ∙ c.loop-x.invariant

pub loop-x-preserved : goal.loop-x-preserved
unfolding is_digit within
loop-x-preserved c =
    every-on-true 0 is_digit c.args.s.now c.loop-x.x-index (omega arith) (passes_on c.is_ascii_digit.ensures.value c.if-not-is_ascii_digit.false) ∙ c.loop-x.invariant

pub returns : goal.returns
returns c = sym (every-end 0 is_digit c.args.s.now c.loop-x.x-index (omega arith)) ∙ c.loop-x.invariant
