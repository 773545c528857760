-- The columns passed have a year that 64 bits hold.
use Prim.Native.Nat.{ℕ, ◌<◌}
use Rattle.report.specs.Code.{told_by}
use Rattle.report.specs.TheReport.{year, with}
use Rattle.report.proofs.holds_list.Given as goal

abbrev pub invariant-loop-k : goal.invariant-loop-k
invariant-loop-k l = (j : ℕ) → j < l.k → year (with l.report (told_by l.told)) j < 18446744073709551616
