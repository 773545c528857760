-- The depth left falls with each call, so that it ends; what is still to walk tells the same.
use Rattle.std.proofs.Common.{length, ◌-◌, ◌≡◌, drop}
use Rattle.likeness.specs.TheSameAnswer.{fault_by, fault_in}
use Rattle.likeness.proofs.Groups.{inner}
use Rattle.likeness.proofs.+faults.Given as goal

abbrev pub invariant-loop-at : goal.invariant-loop-at
invariant-loop-at l = fault_by (inner l.depth) l.at (drop l.at l.m) ≡ fault_in l.depth l.from (drop l.from l.m)

abbrev pub decreases-loop-at : goal.decreases-loop-at
decreases-loop-at l = length l.m - l.at

abbrev pub decreases-faults : goal.decreases-faults
decreases-faults l = l.depth
