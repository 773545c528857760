-- The places passed are 1 to 8, all differ, and `used` has their bits: `line-turn` of Line.
use mathlib.Core.Path.{◌≡◌}
use mathlib.Core.Bool.{true}
use Prim.Native.Nat.{◌≤◌}
use lib.ListN.{length, take}
use lib.Dec.{eqb}
use Rattle.octets.specs.Lists.{distinct, every}
use Rattle.octets.specs.Choice.{within}
use Rattle.table.specs.TheTable.{order_line, used_bits}
use Rattle.soundness.proofs.line_exact.Given as goal

abbrev pub invariant-loop-i : goal.invariant-loop-i
invariant-loop-i l = (l.n ≡ length (order_line l.r)) × (l.n ≤ 8) × (l.used ≡ used_bits (take l.i (order_line l.r))) × (every (within 1 8) (take l.i (order_line l.r)) ≡ true) × (distinct eqb (take l.i (order_line l.r)) ≡ true)
