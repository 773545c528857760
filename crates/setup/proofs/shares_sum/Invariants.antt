-- The invariant: the sum so far is that of the first i shares, each of which 32 bits hold.
use mathlib.Core.Path.{◌≡◌}
use Prim.Native.Nat.{◌*◌, ◌-◌, ◌≤◌}
use lib.ListN.{take}
use Rattle.octets.specs.Lists.{sum_of}
use Rattle.setup.proofs.shares_sum.Given as goal

abbrev pub invariant-loop-i : goal.invariant-loop-i
invariant-loop-i l = (l.i ≤ 16) × (l.sum ≡ sum_of (take l.i l.shares)) × (l.sum ≤ l.i * 4294967295)

abbrev pub decreases-loop-i : goal.decreases-loop-i
decreases-loop-i l = 16 - l.i
