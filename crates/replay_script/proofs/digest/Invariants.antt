-- The digest from byte x-index on, begun at h, is that of the whole.
use Rattle.replay_script.specs.TheScript.{digest_of}
use mathlib.Core.Path.{◌≡◌}
use Prim.Native.Nat.{◌<◌}
use lib.ListN.{drop}
use Rattle.replay_script.proofs.digest.Given as goal

abbrev pub invariant-loop-x : goal.invariant-loop-x
invariant-loop-x l = (l.h < 2147483647) × (digest_of l.k l.h (drop l.x-index l.s) ≡ digest_of l.k 0 l.s)
