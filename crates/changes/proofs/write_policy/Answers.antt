-- Two stores, two writes and the sums: `policy-put` of Blocks.
use mathlib.Core.Path.{ap, ◌∙◌}
use mathlib.Core.List.{List}
use Prim.Native.Nat.{ℕ}
use native.Mathlib.Omega.{arith}
use lib.ListN.{take, length-set}
use Rattle.octets.specs.Texts.{put}
use Rattle.table.specs.TheTable.{sealed}
use Rattle.changes.proofs.Blocks.{policy-put}
use Rattle.changes.proofs.write_policy.Goals as goal

pub put_zeros-requires : goal.put_zeros-requires
put_zeros-requires c = simp length-set (omega arith)

pub put_text-requires : goal.put_text-requires
put_text-requires c = omega (arith, simp length-set at c.put_zeros.auto.room)

pub seal-requires : goal.seal-requires
seal-requires c = c.put_text.auto.room ∙ c.put_zeros.auto.room ∙ simp length-set c.requires.0

pub shape_of-block : goal.shape_of-block
shape_of-block c = c.seal.auto.block ∙ c.put_text.auto.room ∙ c.put_zeros.auto.room ∙ simp length-set

pub returns : goal.returns
returns c = let block = c.args.block.now in
    let policy = c.args.policy.now in
    c.seal.ensures
    ∙ ap (λ (t : List ℕ). sealed (take 510 t)) (c.put_text.ensures ∙ ap (λ (t : List ℕ). put t 264 policy) c.put_zeros.ensures)
    ∙ policy-put block policy c.requires.0 c.requires.1
