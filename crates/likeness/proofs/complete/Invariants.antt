-- Each of ours so far stands before its mark, so that it was met: `met-on`; where all do, none is missing.
use mathlib.Core.Path.{◌≡◌}
use Prim.Native.Nat.{◌-◌, ◌≤◌}
use lib.ListN.{length, get_or}
use Rattle.message.specs.ReadingAMessage.{Name}
use Rattle.likeness.specs.Code.{next_at, mark_of}
use Rattle.likeness.proofs.Marks.{MetOf}
use Rattle.likeness.proofs.complete.Given as goal

abbrev pub invariant-loop-next : goal.invariant-loop-next
invariant-loop-next l =
    (l.next ≡ next_at l.ours l.at) × (20 ≤ l.at) × ((n : Name) → MetOf l.ours l.at n (get_or l.marks (mark_of n) 0))

abbrev pub decreases-loop-next : goal.decreases-loop-next
decreases-loop-next l = length l.ours - l.at
