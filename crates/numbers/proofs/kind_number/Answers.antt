-- Each kind has its number, whatever the code.
use Rattle.message.specs.Codes.{kind_of}
use Rattle.message.specs.Kinds.{code_from}
use Rattle.numbers.proofs.kind_number.Goals as goal

pub returns-in-NoAnswer : goal.returns-in-NoAnswer
unfolding kind_of code_from
returns-in-NoAnswer c = λ code. rw c.in-NoAnswer.is

pub returns-in-Plain : goal.returns-in-Plain
unfolding kind_of code_from
returns-in-Plain c = λ code. rw c.in-Plain.is

pub returns-in-Experimental : goal.returns-in-Experimental
unfolding kind_of code_from
returns-in-Experimental c = λ code. rw c.in-Experimental.is
