-- The loop keeps `Copied`: each step is a law of Proxies.
use Prim.Native.Nat.{◌-◌}
use lib.ListN.{length}
use Rattle.answers.proofs.Proxies.{Copied}
use Rattle.answers.proofs.put_proxies.Given as goal

abbrev pub invariant-loop-from : goal.invariant-loop-from
invariant-loop-from l = Copied l.m l.initial.room l.at l.room l.to l.start l.from

abbrev pub decreases-loop-from : goal.decreases-loop-from
decreases-loop-from l = length l.m - l.from
