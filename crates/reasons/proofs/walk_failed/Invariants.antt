-- What is left to walk has the same first failing check: `walk-goes` of Laws; an AVP that is not supported is that check: `walk-refuses`.
use mathlib.Core.Path.{◌≡◌}
use Prim.Native.Nat.{◌-◌, ◌≤◌}
use lib.ListN.{length, drop}
use Rattle.order.specs.ChecksInOrder.{first_failed, walk_from, walk_checks}
use Rattle.reasons.proofs.walk_failed.Given as goal

abbrev pub invariant-loop-fault : goal.invariant-loop-fault
invariant-loop-fault l = (l.at ≤ length l.m) × (first_failed (walk_from l.at 0 (drop l.at l.m)) ≡ first_failed (walk_checks l.m))

abbrev pub decreases-loop-fault : goal.decreases-loop-fault
decreases-loop-fault l = length l.m - l.at
