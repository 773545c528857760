-- The rest of the two labels being the same stays the same answer.
use mathlib.Core.Path.{◌≡◌}
use lib.ListN.{drop}
use Rattle.table.specs.Soundness.{same_label}
use Rattle.blocks.proofs.same_letters.Given as goal

abbrev pub invariant-loop-i : goal.invariant-loop-i
invariant-loop-i l = (same_label (drop l.i l.a) (drop l.i l.b) ≡ same_label l.a l.b)
