-- The form of the entries from entry i on is that of all: `entries-turn` and `entries-end` of Entries.
use mathlib.Core.Path.{◌≡◌}
use Prim.Native.Nat.{◌*◌, ◌-◌}
use lib.ListN.{drop}
use Rattle.table.specs.Soundness.{entries_form}
use Rattle.blocks.proofs.entries_form.Given as goal

abbrev pub invariant-loop-i : goal.invariant-loop-i
invariant-loop-i l = entries_form (l.n - l.i) (drop (104 * l.i) l.room) ≡ entries_form l.n l.room
