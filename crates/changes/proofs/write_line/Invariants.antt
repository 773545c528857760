-- After i turns the first i places of the line stand in the block: `relined` of Sums.
use mathlib.Core.Path.{◌≡◌}
use Prim.Native.Nat.{◌-◌, ◌≤◌}
use lib.ListN.{length, take}
use lib.Seq.{paste}
use Rattle.table.specs.TheTable.{sealed}
use Rattle.changes.proofs.write_line.Given as goal

abbrev pub invariant-loop-i : goal.invariant-loop-i
invariant-loop-i l = (l.i ≤ 8) × (length (paste (take 510 l.initial.block) 20 l.line l.i) ≡ 510) × (l.block ≡ sealed (paste (take 510 l.initial.block) 20 l.line l.i))

abbrev pub decreases-loop-i : goal.decreases-loop-i
decreases-loop-i l = 8 - l.i
