-- The invariant: the accesses from the i-th on are plain exactly if all are: `plain-on`, `plain-stop` and `plain_over` of Loops.
use mathlib.Core.Path.{◌≡◌}
use Prim.Native.Nat.{◌≤◌}
use Rattle.moving.specs.Moving.{fits_form1}
use Rattle.moving.proofs.Loops.{plain_from}
use Rattle.moving.proofs.row_plain.Given as goal

abbrev pub invariant-loop-i : goal.invariant-loop-i
invariant-loop-i l = (l.i ≤ l.n) × (plain_from l.r l.i ≡ fits_form1 l.r)
