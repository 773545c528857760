-- Folding keeps the remainder; the columns passed are added up, all of them give Fletcher-16: `share-is`, `columns-right` of Columns.
use mathlib.Core.Path.{◌≡◌}
use Prim.Native.Nat.{◌+◌, ◌-◌, ◌*◌, ◌%◌, ◌≤◌}
use Rattle.table.specs.Columns.{column_first}
use Rattle.table.proofs.Columns.{column_share, total}
use Rattle.table.proofs.sums_of.Given as goal

abbrev pub invariant-loop-j : goal.invariant-loop-j
invariant-loop-j l = (l.weight + l.j ≡ 32) × (l.a ≤ 270 * l.j) × (l.b ≤ 352 * l.j) × (l.a % 255 ≡ total (column_first 16 l.s) l.j % 255) × (l.b % 255 ≡ total (column_share 16 l.s) l.j % 255)
