-- What a turn begins with: the entries before i are right, and `at` and `connected` tell of them.
use Rattle.screen.proofs.Surveying.{So}
use Rattle.screen.proofs.survey.Given as goal

abbrev pub invariant-loop-i : goal.invariant-loop-i
invariant-loop-i l = So l.screens l.session l.i l.at l.connected
