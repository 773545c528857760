-- What is left to walk decides the same: `place-goes`; a law of Answers for each way out.
use mathlib.Core.Path.{◌≡◌}
use mathlib.Core.Bool.{false}
use Prim.Native.Nat.{◌+◌}
use lib.ListN.{length, drop}
use Rattle.message.specs.ReadingAMessage.{walk}
use Rattle.abort.specs.Code.{rest_answers}
use Rattle.abort.proofs.rest_answers.Given as goal

abbrev pub invariant-loop-left : goal.invariant-loop-left
invariant-loop-left l = (l.at + l.left ≡ length l.answer) × (rest_answers l.found (walk (drop l.at l.answer)) ≡ rest_answers false (walk (drop l.from l.answer)))

abbrev pub decreases-loop-left : goal.decreases-loop-left
decreases-loop-left l = l.left
