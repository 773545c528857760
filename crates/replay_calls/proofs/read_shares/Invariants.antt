-- The shares stay as many as they are.
use mathlib.Core.Path.{◌≡◌}
use lib.ListN.{length}
use Rattle.replay_calls.proofs.read_shares.Given as goal

abbrev pub invariant-loop-i : goal.invariant-loop-i
invariant-loop-i l = length l.shares ≡ 17
