-- Both ends of the range are tested.
use mathlib.Core.Path.{sym}
use native.Mathlib.Omega.{arith}
use borrow.Author.Tests.{lt-leb, le-leb}
use Rattle.octets.specs.Choice.{within}
use Rattle.octets.proofs.Lists.{in_within}
use Rattle.message.specs.Codes.{number_of}
use Rattle.message.specs.WritingTheAnswer.{is3xxx}
use Rattle.answers.proofs.is_3xxx.Goals as goal

pub returns-in-3000-to-3999 : goal.returns-in-3000-to-3999
unfolding is3xxx number_of
returns-in-3000-to-3999 c = sym (in_within 3000 3999 c.args.code (omega arith) (omega arith))

pub returns-in_default : goal.returns-in_default
unfolding is3xxx within number_of
returns-in_default c = rw (lt-leb 3000 c.args.code (omega arith))

pub returns-in_default-2 : goal.returns-in_default-2
unfolding is3xxx within number_of
returns-in_default-2 c = rw (le-leb 3000 c.args.code (omega arith), lt-leb c.args.code 3999 (omega arith))
