-- What is counted, with the whole messages that are left, is all of them.
use mathlib.Core.Path.{◌≡◌}
use Prim.Native.Nat.{◌-◌, ◌+◌, ◌≤◌}
use lib.ListN.{length, drop}
use Rattle.burst.specs.TheBurst.{next_length, whole_messages}
use Rattle.burst.proofs.whole_messages.Given as goal

abbrev pub invariant-loop-next : goal.invariant-loop-next
invariant-loop-next l =
    (l.at + l.next ≤ length l.messages) × (l.whole ≤ l.at) × (l.next ≡ next_length (drop l.at l.messages))
    × (l.whole + length (whole_messages (drop l.at l.messages)) ≡ length (whole_messages l.messages))

abbrev pub decreases-loop-next : goal.decreases-loop-next
decreases-loop-next l = length l.messages - l.at
