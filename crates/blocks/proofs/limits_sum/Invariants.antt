-- The limits passed and the sum of those behind are the sum of all.
use mathlib.Core.Path.{◌≡◌}
use Prim.Native.Nat.{◌+◌, ◌*◌, ◌≤◌}
use lib.ListN.{drop}
use Rattle.octets.specs.Lists.{sum_of}
use Rattle.table.specs.Soundness.{limits}
use Rattle.table.specs.TheTable.{read_entries}
use Rattle.blocks.proofs.limits_sum.Given as goal

abbrev pub invariant-loop-i : goal.invariant-loop-i
invariant-loop-i l = (l.sum ≤ 255 * l.i) × (l.sum + sum_of (drop l.i (limits (read_entries l.n l.room))) ≡ sum_of (limits (read_entries l.n l.room)))
