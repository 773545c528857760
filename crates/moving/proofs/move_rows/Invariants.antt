-- The invariant: the first i rows of the target are those moved: `back-built` of Built, and `rows-moved` of Steps for all.
use mathlib.Core.Path.{◌≡◌}
use Prim.Native.Nat.{◌*◌, ◌/◌, ◌≤◌}
use lib.ListN.{length, take}
use Rattle.moving.proofs.Built.{built}
use Rattle.moving.proofs.Steps.{row_from}
use Rattle.moving.proofs.move_rows.Given as goal

abbrev pub invariant-loop-i : goal.invariant-loop-i
invariant-loop-i l = (l.i ≤ length l.initial.target / l.width) × (length l.target ≡ length l.initial.target) × (take (l.width * l.i) l.target ≡ built (row_from l.form l.table) l.i)
