-- The invariant: the rows from row i on pass exactly if all do: `every-on`, `every-stop` and `every-over` of Loops.
use mathlib.Core.Path.{◌≡◌}
use Prim.Native.Nat.{◌/◌, ◌≤◌}
use lib.ListN.{length}
use Rattle.table.specs.Answers.{lent}
use Rattle.table.specs.TheTable.{row_length, rows}
use Rattle.octets.specs.Lists.{every}
use Rattle.moving.specs.Moving.{movable}
use Rattle.moving.proofs.Loops.{every_from}
use Rattle.moving.proofs.rows_movable.Given as goal

abbrev pub invariant-loop-i : goal.invariant-loop-i
invariant-loop-i l = (l.i ≤ length l.t / row_length l.form) × (every_from movable (lent l.form l.t) l.i ≡ every movable (rows (lent l.form l.t)))
