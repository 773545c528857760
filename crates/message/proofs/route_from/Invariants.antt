-- What is ahead has the policies that were ahead of the start, and the walk goes on passing: each step is a law of Policies.
use mathlib.Core.Path.{◌≡◌}
use Prim.Native.Nat.{◌-◌, ◌≤◌}
use lib.ListN.{length, drop}
use Rattle.message.specs.ReadingAMessage.{request_walk}
use Rattle.message.specs.Spans.{routes_from}
use Rattle.message.proofs.route_from.Given as goal

abbrev pub invariant-loop-at : goal.invariant-loop-at
invariant-loop-at l = (20 ≤ l.at) × (l.at ≤ length l.m) × (routes_from l.m l.at ≡ routes_from l.m l.from) × ((request_walk (drop l.at l.m)).code ≡ 0)

abbrev pub decreases-loop-at : goal.decreases-loop-at
decreases-loop-at l = length l.m - l.at
