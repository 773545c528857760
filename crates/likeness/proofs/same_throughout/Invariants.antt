-- The invariant: the whole texts are the same exactly if the least so far is 255, and the rests from i on are the same.
use mathlib.Core.Bool.{◌&&◌}
use mathlib.Core.Path.{◌≡◌}
use Prim.Native.Nat.{◌-◌, ◌≤◌}
use lib.Dec.{eqb}
use lib.ListN.{length, drop}
use Rattle.octets.specs.Texts.{same}
use Rattle.likeness.proofs.same_throughout.Given as goal

abbrev pub invariant-loop-i : goal.invariant-loop-i
invariant-loop-i l =
    (l.i ≤ length l.a) × (length l.a ≡ length l.b) × (l.least ≤ 255) × (eqb l.least 255 && same (drop l.i l.a) (drop l.i l.b) ≡ same l.a l.b)

abbrev pub decreases-loop-i : goal.decreases-loop-i
decreases-loop-i l = length l.a - l.i
