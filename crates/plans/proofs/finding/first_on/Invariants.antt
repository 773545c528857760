-- The invariant: the search from the i-th place on finds what the whole search finds; what it finds is the first access of the entry.
use mathlib.Core.Bool.{true}
use Rattle.octets.specs.Choice.{within}
use Rattle.octets.specs.Lists.{every}
use Rattle.table.specs.TheTable.{order_line}
use Rattle.plans.proofs.Search.{hunt}
use Rattle.plans.proofs.Found.{entry_is}
use mathlib.Core.Path.{◌≡◌}
use lib.ListN.{drop}
use Rattle.plans.proofs.finding.first_on.Given as goal

abbrev pub invariant-loop-i : goal.invariant-loop-i
invariant-loop-i l = (every (within 1 8) (drop l.i (order_line l.row)) ≡ true) × (hunt (entry_is l.row l.entry) (order_line l.row) l.i ≡ hunt (entry_is l.row l.entry) (order_line l.row) 0)
