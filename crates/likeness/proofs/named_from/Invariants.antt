-- What was counted and what is still to count make the number of all: `count-here`.
use mathlib.Core.Path.{◌≡◌}
use Prim.Native.Nat.{◌+◌, ◌-◌, ◌≤◌}
use lib.ListN.{length}
use Rattle.likeness.specs.Code.{avp_at, named_from, next_at}
use Rattle.likeness.proofs.named_from.Given as goal

abbrev pub invariant-loop-next : goal.invariant-loop-next
invariant-loop-next l = (l.n + named_from (avp_at l.other l.at).name l.m l.p ≡ named_from (avp_at l.other l.at).name l.m l.from) × (l.next ≡ next_at l.m l.p) × (l.n ≤ l.p)

abbrev pub decreases-loop-next : goal.decreases-loop-next
decreases-loop-next l = length l.m - l.p
