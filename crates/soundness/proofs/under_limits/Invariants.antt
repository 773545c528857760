-- The limits from entry i + 1 on are kept exactly if all are: `under-turn` of Accesses.
use mathlib.Core.Path.{◌≡◌}
use Prim.Native.Nat.{◌+◌}
use lib.ListN.{drop}
use Rattle.table.specs.Soundness.{limits, under_limits}
use Rattle.table.specs.TheTable.{read_row}
use Rattle.soundness.proofs.under_limits.Given as goal

abbrev pub invariant-loop-i : goal.invariant-loop-i
invariant-loop-i l = (under_limits (l.i + 1) (drop l.i (limits (read_row l.r).entries)) (read_row l.r).accesses ≡ under_limits 1 (limits (read_row l.r).entries) (read_row l.r).accesses)
