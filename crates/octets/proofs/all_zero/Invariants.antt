-- The invariant: all bytes are zero exactly if the bits gathered so far are none, and the rest behind the k words is zero: `zero-first`, `zero_turn`, `zero-last` of Words.
use mathlib.Core.Path.{◌≡◌}
use mathlib.Core.Bool.{◌&&◌}
use Prim.Native.Nat.{◌+◌, ◌*◌}
use lib.Dec.{eqb}
use lib.ListN.{length, drop}
use Rattle.octets.specs.Numbers.{low64}
use Rattle.octets.specs.Texts.{all_zero}
use Rattle.octets.proofs.all_zero.Given as goal

abbrev pub invariant-loop-k : goal.invariant-loop-k
invariant-loop-k l = (l.last + 8 ≡ length l.s) × (l.some ≡ 0 → low64 l.s l.last ≡ 0) × (eqb l.some 0 && all_zero (drop (8 * l.k) l.s) ≡ all_zero l.s)
