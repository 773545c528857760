-- The two numbers are those of the look at the list.
use Rattle.std.proofs.Common.{◌≡◌, [], sym, ap, ◌∙◌, arith}
use Rattle.screen.specs.TheBoard.{count_connected}
use Rattle.screen.specs.Code.{counts, count_said}
use Rattle.screen.specs.declared.Seen.{Seen}
use Rattle.screen.proofs.Surveying.{over_64, refusal}
use Rattle.screen.proofs.connected.Goals as goal
use Rattle.screen.proofs.connected.Goals.{then-screens-gt64, else-screens-gt64}

pub returns-in-Some : goal.returns-in-Some
unfolding counts count_said
returns-in-Some c = elim c.if-screens-gt64.branch [
  | then-screens-gt64 w ↦ absurd (grind arith)
  | else-screens-gt64 w ↦ sym (ap counts (sym w.seen-is ∙ c.in-Some.is)) ∙ w.survey-seen.ensures.counted
]

pub returns-in-None : goal.returns-in-None
unfolding counts count_said
returns-in-None c =
    let ys = c.args.screens.now in
    elim c.if-screens-gt64.branch [
      | then-screens-gt64 w ↦ refusal ys [] (over_64 ys [] w.if-screens-gt64.true)
      | else-screens-gt64 w ↦ sym (ap counts (sym w.seen-is ∙ c.in-None.is)) ∙ w.survey-seen.ensures.counted
    ]
