-- What is summed so far and the hours that are left are the whole.
use mathlib.Core.Path.{◌≡◌}
use Prim.Native.Nat.{◌+◌, ◌<◌}
use Rattle.report.specs.TheReport.{year}
use Rattle.report.proofs.Loops.{from_hour}
use Rattle.report.proofs.year_and.Given as goal

abbrev pub invariant-loop-hour : goal.invariant-loop-hour
invariant-loop-hour l = (l.sum + from_hour l.report l.k l.hour ≡ l.more + year l.report l.k) × (l.sum < 18446744073709551616)
