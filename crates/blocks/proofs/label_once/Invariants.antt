-- The invariant: the test of what is left has the answer of the whole test; the texts compared are the labels: `labels_at` of Entries.
use mathlib.Core.Path.{◌≡◌}
use mathlib.Core.Bool.{not}
use mathlib.Core.List.{[]}
use Prim.Native.Nat.{◌+◌}
use lib.ListN.{drop, get_or}
use Rattle.octets.specs.Lists.{every}
use Rattle.table.specs.Soundness.{labels, same_label}
use Rattle.table.specs.TheTable.{read_entries}
use Rattle.blocks.proofs.label_once.Given as goal

abbrev pub invariant-loop-j : goal.invariant-loop-j
invariant-loop-j l = (every (λ y. not (same_label (get_or (labels (read_entries l.n l.room)) l.i []) y)) (drop l.j (labels (read_entries l.n l.room))) ≡ every (λ y. not (same_label (get_or (labels (read_entries l.n l.room)) l.i []) y)) (drop (l.i + 1) (labels (read_entries l.n l.room))))
