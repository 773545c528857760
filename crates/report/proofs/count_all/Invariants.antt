-- What is left to count gives the report that the whole list gives.
use mathlib.Core.Path.{◌≡◌}
use mathlib.Core.Bool.{true}
use lib.ListN.{length, drop}
use Rattle.octets.specs.Lists.{every}
use Rattle.report.specs.Code.{told_by}
use Rattle.report.specs.TheReport.{with, hour_right}
use Rattle.report.proofs.count_all.Given as goal

abbrev pub invariant-loop-t : goal.invariant-loop-t
invariant-loop-t l = (length l.report ≡ 96) × (every hour_right (told_by (drop l.t-index l.told)) ≡ true) × (with l.report (told_by (drop l.t-index l.told)) ≡ with l.initial.report (told_by l.told))
