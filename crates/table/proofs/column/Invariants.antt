-- The invariant, of each of the two sums: the sum so far and that of the rest of the column are that of the column: `column-turn` and its companions of Columns.
use mathlib.Core.Path.{◌≡◌}
use Prim.Native.Nat.{◌*◌, ◌+◌, ◌-◌, ◌≤◌}
use lib.ListN.{drop}
use Rattle.table.specs.Columns.{column_first, column_before}
use Rattle.table.proofs.column.Given as goal

abbrev pub invariant-loop-k : goal.invariant-loop-k
invariant-loop-k l = (l.k ≤ 16) × (l.at ≡ l.j + 32 * l.k) × (l.a ≤ 255 * l.k) × (l.b ≤ 4080 * l.k) × (l.a + column_first (16 - l.k) (drop (32 * l.k) l.s) l.j ≡ column_first 16 l.s l.j) × (l.b + (16 - l.k) * l.a + column_before (16 - l.k) (drop (32 * l.k) l.s) l.j ≡ column_before 16 l.s l.j)

abbrev pub decreases-loop-k : goal.decreases-loop-k
decreases-loop-k l = 16 - l.k
