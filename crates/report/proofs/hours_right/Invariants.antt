-- What is left has the same answer as the whole.
use mathlib.Core.Path.{◌≡◌}
use lib.ListN.{drop}
use Rattle.octets.specs.Lists.{every}
use Rattle.report.specs.TheReport.{hour_right}
use Rattle.report.specs.Code.{told_by}
use Rattle.report.proofs.hours_right.Given as goal

abbrev pub invariant-loop-t : goal.invariant-loop-t
invariant-loop-t l = (every hour_right (told_by (drop l.t-index l.told)) ≡ every hour_right (told_by l.told))
