-- As in `agreeing`, over the first twenty bytes and the header due.
use mathlib.Core.Path.{◌≡◌}
use Prim.Native.Nat.{◌+◌, ◌-◌, ◌≤◌}
use lib.ListN.{length, take, drop}
use Rattle.likeness.specs.TheSameAnswer.{agreeing, header_due}
use Rattle.likeness.proofs.header_agrees.Given as goal

abbrev pub invariant-loop-i : goal.invariant-loop-i
invariant-loop-i l = (l.i ≤ 20) × (l.i + agreeing (drop l.i (take 20 l.theirs)) (drop l.i (header_due l.ours (length l.theirs))) ≡ agreeing (take 20 l.theirs) (header_due l.ours (length l.theirs)))

abbrev pub decreases-loop-i : goal.decreases-loop-i
decreases-loop-i l = 20 - l.i
