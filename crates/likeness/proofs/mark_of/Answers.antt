-- The last byte of the code has its last bits: `mark-at`.
use mathlib.Core.Path.{sym, ap, ◌∙◌}
use Prim.Native.Nat.{ℕ, ◌%◌}
use native.Mathlib.Omega.{arith}
use Rattle.likeness.proofs.Marks.{mark-at}
use Rattle.likeness.proofs.mark_of.Goals as goal

pub returns : goal.returns
returns c =
    let long-was = c.long in
    let given = c.args in
    (ap (λ (x : ℕ). x % 64) long-was.ensures.0 ∙ sym (mark-at given.m.now given.at), omega arith)
