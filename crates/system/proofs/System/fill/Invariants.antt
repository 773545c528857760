-- No more is read than the room holds.
use Rattle.std.proofs.Common.{◌-◌, ◌≤◌, length}
use Rattle.system.proofs.System.fill.Given as goal

abbrev pub invariant-loop-done : goal.invariant-loop-done
invariant-loop-done g l = l.done ≤ length l.room

abbrev pub decreases-loop-done : goal.decreases-loop-done
decreases-loop-done g l = length l.room - l.done
