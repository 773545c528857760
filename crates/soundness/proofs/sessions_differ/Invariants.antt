-- The invariant: the test of what is left has the answer of the whole test.
use mathlib.Core.Path.{◌≡◌}
use lib.ListN.{drop}
use Rattle.octets.specs.Lists.{distinct}
use Rattle.octets.specs.Texts.{same}
use Rattle.table.specs.Soundness.{sessions}
use Rattle.table.specs.TheTable.{read_row}
use Rattle.soundness.proofs.sessions_differ.Given as goal

abbrev pub invariant-loop-i : goal.invariant-loop-i
invariant-loop-i l = (distinct same (drop l.i (sessions (read_row l.r).accesses)) ≡ distinct same (sessions (read_row l.r).accesses))
