-- The rest from p on, with the changes that are left, says what the whole does.
use mathlib.Core.Path.{◌≡◌}
use Prim.Native.Nat.{◌≤◌}
use lib.ListN.{length}
use Rattle.replay_verdict.specs.Verdicts.{changes_from}
use Rattle.replay_verdict.proofs.changes.Given as goal

abbrev pub invariant-loop-left : goal.invariant-loop-left
invariant-loop-left l = (l.p ≤ length l.s) × (changes_from l.left l.table l.s l.p ≡ changes_from l.count l.table l.s 0)

abbrev pub decreases-loop-left : goal.decreases-loop-left
decreases-loop-left l = l.left
