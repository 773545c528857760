-- After j turns the first j bytes stand in the room; the last word ends where the text ends.
use mathlib.Core.Path.{◌≡◌, sym, ◌∙◌}
use Prim.Native.Nat.{◌-◌, ◌≤◌}
use native.Mathlib.Omega.{arith}
use lib.ListN.{length, take, drop}
use borrow.Author.Rules.{rules}
use Rattle.octets.specs.Texts.{part, put}
use Rattle.octets.proofs.Texts.{put-nothing}
use Rattle.texts.proofs.Words.{put_next, put_last, tail-part}
use Rattle.texts.proofs.put_text.Given as goal

abbrev pub invariant-loop-j : goal.invariant-loop-j
invariant-loop-j l = (l.j ≤ length l.src) × (length l.room ≡ length l.initial.room) × (l.room ≡ put l.initial.room l.at (take l.j l.src))

abbrev pub decreases-loop-j : goal.decreases-loop-j
decreases-loop-j l = length l.src - l.j
