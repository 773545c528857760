-- What agrees so far and what agrees behind it make the number of all; a law of Prefixes for each way out.
use mathlib.Core.Path.{◌≡◌}
use Prim.Native.Nat.{◌+◌, ◌-◌, ◌≤◌}
use lib.ListN.{length, drop}
use Rattle.likeness.specs.TheSameAnswer.{agreeing}
use Rattle.likeness.proofs.agreeing.Given as goal

abbrev pub invariant-loop-i : goal.invariant-loop-i
invariant-loop-i l = (l.i ≤ length l.a) × (l.i + agreeing (drop l.i l.a) (drop l.i l.b) ≡ agreeing l.a l.b)

abbrev pub decreases-loop-i : goal.decreases-loop-i
decreases-loop-i l = length l.a - l.i
