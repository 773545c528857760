-- The bytes passed and those up to the next zero are the line.
use mathlib.Core.Path.{◌≡◌}
use Prim.Native.Nat.{◌+◌}
use lib.ListN.{drop, length}
use Rattle.octets.specs.Lists.{up_to0}
use Rattle.blocks.proofs.line_length.Given as goal

abbrev pub invariant-loop-i : goal.invariant-loop-i
invariant-loop-i l = l.i + length (up_to0 (drop l.i l.l)) ≡ length (up_to0 l.l)
