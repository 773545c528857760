-- Both loops keep `Walked`: the slots so far with the AVPs ahead say what the whole message says; and what is left ends with the message.
-- Each step is a law of Gathering.
use mathlib.Core.Path.{◌≡◌}
use Prim.Native.Nat.{◌+◌, ◌≤◌}
use lib.ListN.{length}
use Rattle.message.proofs.Gathering.{Walked}
use Rattle.message.proofs.gather.Given as goal

abbrev pub invariant-loop-left : goal.invariant-loop-left
invariant-loop-left l = (l.initial.at ≤ l.at) × Walked l.m l.index l.at × (l.at + l.left ≡ length l.m)

abbrev pub decreases-loop-left : goal.decreases-loop-left
decreases-loop-left l = l.left

abbrev pub invariant-walk : goal.invariant-walk
invariant-walk l = Walked l.m l.index l.at × (l.at + l.left ≡ length l.m)

abbrev pub decreases-walk : goal.decreases-walk
decreases-walk l = l.left
