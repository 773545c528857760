-- The columns passed have a year that 64 bits hold.
use Prim.Native.Nat.{ℕ, ◌<◌}
use Rattle.report.specs.TheReport.{year, plus}
use Rattle.report.proofs.holds_both.Given as goal

abbrev pub invariant-loop-k : goal.invariant-loop-k
invariant-loop-k l = (j : ℕ) → j < l.k → year (plus l.report l.more) j < 18446744073709551616
