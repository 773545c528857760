-- What is counted so far and what is left are the whole.
use mathlib.Core.Path.{◌≡◌}
use Prim.Native.Nat.{◌+◌, ◌≤◌}
use lib.ListN.{drop}
use Rattle.report.specs.TheReport.{in_column, how_many}
use Rattle.report.specs.Code.{told_by}
use Rattle.report.proofs.count_of.Given as goal

abbrev pub invariant-loop-t : goal.invariant-loop-t
invariant-loop-t l = (l.n ≤ l.t-index) × (l.n + how_many (in_column l.k) (told_by (drop l.t-index l.told)) ≡ how_many (in_column l.k) (told_by l.told))
