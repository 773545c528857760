-- After i turns the first i bytes are zero and the rest is as it was.
use mathlib.Core.List.{append-nil}
use lib.Seq.{drop-length}
use borrow.Author.Fill.{fill_more}
use Rattle.octets.specs.Texts.{zeros}
use mathlib.Core.Path.{◌≡◌, refl, ◌∙◌}
use mathlib.Core.List.{◌++◌}
use Prim.Native.Nat.{◌+◌, ◌-◌, ◌≤◌}
use native.Mathlib.Omega.{arith}
use lib.ListN.{length, drop, length-set}
use borrow.Author.Rules.{rules}
use Rattle.octets.proofs.clear.Given as goal

abbrev pub invariant-loop-i : goal.invariant-loop-i
invariant-loop-i l = (l.i ≤ length l.initial.s) × (length l.s ≡ length l.initial.s) × (l.s ≡ zeros l.i ++ drop l.i l.initial.s)
