-- The invariant: the search from the i-th place on finds what the whole search finds; what it finds has entry and Session-Id.
use mathlib.Core.Bool.{true}
use Rattle.octets.specs.Choice.{within}
use Rattle.octets.specs.Lists.{every}
use Rattle.table.specs.TheTable.{order_line}
use Rattle.plans.proofs.Search.{hunt}
use Rattle.plans.proofs.Found.{both_are}
use mathlib.Core.Path.{◌≡◌}
use lib.ListN.{drop}
use Rattle.plans.proofs.finding.place_on.Given as goal

abbrev pub invariant-loop-i : goal.invariant-loop-i
invariant-loop-i l = (every (within 1 8) (drop l.i (order_line l.row)) ≡ true) × (hunt (both_are l.row l.entry l.session) (order_line l.row) l.i ≡ hunt (both_are l.row l.entry l.session) (order_line l.row) 0)
