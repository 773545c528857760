-- What is left of the place has the same answer as the whole.
use mathlib.Core.Path.{◌≡◌}
use Prim.Native.Nat.{◌+◌, ◌*◌, ◌≤◌}
use lib.ListN.{length, drop}
use Rattle.replay_verdict.specs.Verdicts.{numbers_at}
use Rattle.replay_verdict.proofs.result.Given as goal

abbrev pub invariant-loop-k : goal.invariant-loop-k
invariant-loop-k l = (l.k ≤ 8) × (length l.place ≡ 8) × (numbers_at l.r (l.at + 4 * l.k) (drop l.k l.place) ≡ numbers_at l.r l.at l.place)
