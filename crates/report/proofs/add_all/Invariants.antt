-- After i turns the first i numbers are those of both reports added.
use mathlib.Core.Path.{◌≡◌}
use lib.ListN.{length}
use Rattle.report.specs.TheReport.{plus}
use Rattle.report.proofs.Writing.{done}
use Rattle.report.proofs.add_all.Given as goal

abbrev pub invariant-loop-i : goal.invariant-loop-i
invariant-loop-i l = (length l.report ≡ 96) × (l.report ≡ done l.i (plus l.initial.report l.more) l.initial.report)
