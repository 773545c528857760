-- The mark, the changes and the digests in their order; the parts lent are those of the definition.
use mathlib.Core.Path.{◌≡◌, ap, ◌∙◌}
use Prim.Native.Nat.{ℕ, ◌-◌}
use native.Mathlib.Omega.{arith}
use lib.ListN.{length, take, drop}
use Rattle.replay_verdict.specs.Verdicts.{digests_as, table_as}
use Rattle.replay_verdict.proofs.Laws.{two, changes-lent}
use Rattle.replay_verdict.proofs.on_table.Goals as goal

pub returns : goal.returns
unfolding table_as
returns c =
    let a = c.args in
    let s = c.args.s.now in
    let n = c.number in
    let changed = c.changes-changed.ensures ∙ changes-lent n.result _ (length s - 9 - 5) (length s - 14) a.table.now (drop 5 s) n.ensures.0 (omega arith) in
    let nine : length s - (length s - 9) ≡ 9 = omega arith in
    let digested = c.digests.ensures ∙ ap (λ (k : ℕ). digests_as a.table.now (take k (drop (length s - 9) s))) nine in
    two c.both-2.ensures c.cleared-zero.ensures (two c.both.ensures changed digested)
