-- The invariant: the test of what is left has the answer of the whole test; the texts compared are the Session-Ids: `session-at` of Accesses.
use mathlib.Core.Path.{◌≡◌}
use mathlib.Core.Bool.{not}
use mathlib.Core.List.{[]}
use Prim.Native.Nat.{◌+◌}
use lib.ListN.{drop, get_or}
use Rattle.octets.specs.Lists.{every}
use Rattle.octets.specs.Texts.{same}
use Rattle.table.specs.Soundness.{sessions}
use Rattle.table.specs.TheTable.{read_row}
use Rattle.soundness.proofs.session_once.Given as goal

abbrev pub invariant-loop-j : goal.invariant-loop-j
invariant-loop-j l = (every (λ y. not (same (get_or (sessions (read_row l.r).accesses) l.i []) y)) (drop l.j (sessions (read_row l.r).accesses)) ≡ every (λ y. not (same (get_or (sessions (read_row l.r).accesses) l.i []) y)) (drop (l.i + 1) (sessions (read_row l.r).accesses)))
