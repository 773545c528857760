-- As `rows_movable`. A row that moves has an exact order line: `exact-at` of Steps.
use mathlib.Core.Path.{◌≡◌}
use Prim.Native.Nat.{◌/◌, ◌≤◌}
use lib.ListN.{length}
use Rattle.octets.specs.Lists.{every}
use Rattle.table.specs.Answers.{lent}
use Rattle.table.specs.TheTable.{row_length, rows}
use Rattle.moving.specs.Moving.{fits_form1}
use Rattle.moving.proofs.Loops.{every_from}
use Rattle.moving.proofs.rows_plain.Given as goal

abbrev pub invariant-loop-i : goal.invariant-loop-i
invariant-loop-i l = (l.i ≤ length l.t / row_length l.form) × (every_from fits_form1 (lent l.form l.t) l.i ≡ every fits_form1 (rows (lent l.form l.t)))
