-- The invariant: the test of what is left has the answer of the whole test.
use mathlib.Core.Path.{◌≡◌}
use lib.ListN.{drop}
use Rattle.octets.specs.Lists.{distinct}
use Rattle.table.specs.Soundness.{labels, same_label}
use Rattle.table.specs.TheTable.{read_entries}
use Rattle.blocks.proofs.labels_differ.Given as goal

abbrev pub invariant-loop-i : goal.invariant-loop-i
invariant-loop-i l = (distinct same_label (drop l.i (labels (read_entries l.n l.room))) ≡ distinct same_label (labels (read_entries l.n l.room)))
