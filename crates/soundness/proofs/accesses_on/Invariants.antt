-- The invariant: those counted so far and those on the rest of the line make the number of accesses on the entry: `keep-hit` and `keep-miss` of Accesses.
use mathlib.Core.Path.{◌≡◌}
use Prim.Native.Nat.{◌+◌, ◌≤◌}
use lib.ListN.{drop, length}
use Rattle.octets.specs.Lists.{keep}
use Rattle.table.specs.TheTable.{order_line}
use Rattle.soundness.proofs.Accesses.{is_at}
use Rattle.soundness.proofs.accesses_on.Given as goal

abbrev pub invariant-loop-i : goal.invariant-loop-i
invariant-loop-i l = (l.count ≤ l.i) × (l.count + length (keep (is_at l.r l.e) (drop l.i (order_line l.r))) ≡ length (keep (is_at l.r l.e) (order_line l.r)))
