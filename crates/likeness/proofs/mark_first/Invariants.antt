-- Each turn keeps `First`, and at the end of ours it says what the marks have to say.
use mathlib.Core.Path.{◌≡◌}
use Prim.Native.Nat.{◌-◌, ◌≤◌}
use lib.ListN.{length}
use Rattle.likeness.specs.Code.{next_at}
use Rattle.likeness.proofs.Marks.{First}
use Rattle.likeness.proofs.mark_first.Given as goal

abbrev pub invariant-loop-next : goal.invariant-loop-next
invariant-loop-next l = (l.next ≡ next_at l.ours l.at) × (20 ≤ l.at) × First l.ours l.at l.marks

abbrev pub decreases-loop-next : goal.decreases-loop-next
decreases-loop-next l = length l.ours - l.at
