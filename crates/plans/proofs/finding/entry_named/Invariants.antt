-- The invariant: the search from the n-th entry on finds what the whole search finds.
use Rattle.table.specs.TheTable.{read_row}
use Rattle.rules.specs.Deciding.{entry_from, entry_named}
use mathlib.Core.Path.{◌≡◌}
use Prim.Native.Nat.{◌+◌, ◌-◌, ◌≤◌}
use lib.ListN.{length, drop}
use Rattle.plans.proofs.finding.entry_named.Given as goal

abbrev pub invariant-loop-n : goal.invariant-loop-n
invariant-loop-n l = entry_from l.n l.label (drop (l.n - 1) (read_row l.row).entries) ≡ entry_named l.label (read_row l.row)
