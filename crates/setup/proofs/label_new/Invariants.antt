-- The invariant: the test of what is left has the answer of the whole test; the text compared is the label: `labels_at` of the table's Entries.
use mathlib.Core.Bool.{not}
use mathlib.Core.Path.{◌≡◌}
use Prim.Native.Nat.{◌-◌, ◌≤◌}
use lib.ListN.{drop}
use Rattle.octets.specs.Lists.{every}
use Rattle.table.specs.Soundness.{labels, same_label}
use Rattle.table.specs.TheTable.{read_entries}
use Rattle.setup.proofs.label_new.Given as goal

abbrev pub invariant-loop-i : goal.invariant-loop-i
invariant-loop-i l = (l.i ≤ l.n) × (every (λ x. not (same_label x l.label)) (drop l.i (labels (read_entries l.n l.room))) ≡ every (λ x. not (same_label x l.label)) (labels (read_entries l.n l.room)))

abbrev pub decreases-loop-i : goal.decreases-loop-i
decreases-loop-i l = l.n - l.i
