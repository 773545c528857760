-- The places that are left have the same answer as all of them.
use mathlib.Core.Path.{◌≡◌}
use Prim.Native.Nat.{◌+◌, ◌*◌, ◌≤◌}
use lib.ListN.{length, drop}
use Rattle.replay_verdict.specs.Verdicts.{results_at}
use Rattle.replay_verdict.proofs.results.Given as goal

abbrev pub invariant-loop-i : goal.invariant-loop-i
invariant-loop-i l = (l.i ≤ length l.places) × (l.a ≡ l.at + 32 * l.i) × (results_at l.r l.a (drop l.i l.places) ≡ results_at l.r l.at l.places)
