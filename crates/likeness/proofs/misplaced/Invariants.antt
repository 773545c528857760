-- What does not fit from a place on is what does not fit at all: `place-on`; and the marks keep what they say: `marked-on`.
use mathlib.Core.Path.{◌≡◌}
use Prim.Native.Nat.{◌-◌, ◌≤◌}
use lib.ListN.{length}
use Rattle.message.specs.ReadingAMessage.{Name}
use Rattle.likeness.specs.Code.{avps_from, named_from, next_at, Marked}
use Rattle.likeness.specs.TheSameAnswer.{misplaced_from, misplaced}
use Rattle.likeness.proofs.misplaced.Given as goal

abbrev pub invariant-loop-next : goal.invariant-loop-next
invariant-loop-next l =
    (l.next ≡ next_at l.theirs l.at) × (misplaced_from (avps_from l.ours 20) (avps_from l.theirs 20) l.at (avps_from l.theirs l.at) ≡ misplaced (avps_from l.ours 20) (avps_from l.theirs 20)) × Marked l.ours l.theirs l.at l.marks × ((n : Name) → named_from n l.theirs l.at ≤ named_from n l.theirs 20) × (20 ≤ l.at)

abbrev pub decreases-loop-next : goal.decreases-loop-next
decreases-loop-next l = length l.theirs - l.at
