-- The invariant: the test of what is left has the answer of the whole test, place by place along the line: `marked-at` of Laws.
use mathlib.Core.Path.{◌≡◌}
use Prim.Native.Nat.{◌≤◌}
use lib.ListN.{drop}
use Rattle.octets.specs.Lists.{every}
use Rattle.table.specs.Soundness.{policy_marked}
use Rattle.table.specs.TheTable.{order_line}
use Rattle.clauses.proofs.policies_marked.Given as goal

abbrev pub invariant-loop-i : goal.invariant-loop-i
invariant-loop-i l = (l.i ≤ l.n) × (every (policy_marked l.r) (drop l.i (order_line l.r)) ≡ every (policy_marked l.r) (order_line l.r))
