-- P is kept where it stands, and E goes by the code.
use mathlib.Core.Path.{sym, ◌∙◌}
use native.Mathlib.Omega.{arith}
use Rattle.octets.specs.Choice.{pick}
use Rattle.message.specs.WritingTheAnswer.{answer_flags}
use Rattle.answers.proofs.answer_flags.Goals as goal

pub returns-then-is_3xxx : goal.returns-then-is_3xxx
unfolding answer_flags pick
returns-then-is_3xxx c =
    rw (sym c.is_3xxx.ensures ∙ c.if-is_3xxx.true)

pub returns-else-is_3xxx : goal.returns-else-is_3xxx
unfolding answer_flags pick
returns-else-is_3xxx c =
    rw (sym c.is_3xxx.ensures ∙ c.if-is_3xxx.false) (omega arith)
