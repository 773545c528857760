-- The invariant: the first k places are those copied: `back-built` of Built, and `places-built` of Steps for all eight.
use mathlib.Core.Path.{◌≡◌}
use Prim.Native.Nat.{◌*◌, ◌≤◌}
use lib.ListN.{length, take}
use Rattle.moving.proofs.Built.{built}
use Rattle.moving.proofs.Steps.{place_from}
use Rattle.moving.proofs.move_places.Given as goal

abbrev pub invariant-loop-k : goal.invariant-loop-k
invariant-loop-k l = (l.k ≤ 8) × (length l.places ≡ length l.initial.places) × (take (l.width * l.k) l.places ≡ built (place_from l.width l.from) l.k)
