-- Eight bytes that differ settle it; where they are the same, the rest does: `words_same`, `words-end` of Words.
use mathlib.Core.Path.{◌≡◌}
use Prim.Native.Nat.{◌*◌}
use lib.ListN.{drop}
use Rattle.octets.specs.Texts.{same}
use Rattle.octets.proofs.same_bytes.Given as goal

abbrev pub invariant-loop-k : goal.invariant-loop-k
invariant-loop-k l = same (drop (8 * l.k) l.a) (drop (8 * l.k) l.b) ≡ same l.a l.b
