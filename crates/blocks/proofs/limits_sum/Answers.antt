use mathlib.Core.Path.{◌≡◌, ◌∙◌, sym}
use mathlib.Core.List.{List}
use Prim.Native.Nat.{ℕ, ◌+◌}
use native.Mathlib.Omega.{arith}
use lib.ListN.{get_or, drop}
use Rattle.octets.specs.Lists.{sum_of}
use Rattle.table.specs.Soundness.{limits}
use Rattle.table.specs.TheTable.{read_entries}
use Rattle.table.proofs.Entries.{length-limits-read, limits-at, sum-end, sum-turn}
use Rattle.blocks.proofs.limits_sum.Goals as goal

pub limit-requires : goal.limit-requires
limit-requires c =
    let pre-was = c.requires in
    (pre-was.0, omega arith)

pub loop-i-preserved : goal.loop-i-preserved
loop-i-preserved c =
    let given = c.args in
    let loop-was = c.loop-i in
    let limit-was = c.limit in
    let all : List ℕ = limits (read_entries given.n given.room.now) in
    let turn : sum_of (drop loop-was.i all) ≡ get_or all loop-was.i 0 + sum_of (drop (loop-was.i + 1) all) = sum-turn all loop-was.i (omega (arith, length-limits-read given.n given.room.now)) in
    let this : c.from-sum.result ≡ get_or all loop-was.i 0 = c.from-sum.ensures ∙ limit-was.ensures ∙ sym (limits-at given.n loop-was.i given.room.now (omega arith)) in
    (omega arith, omega arith)

pub returns : goal.returns
returns c =
    let given = c.args in
    let loop-was = c.loop-i in
    let all : List ℕ = limits (read_entries given.n given.room.now) in
    let over : sum_of (drop loop-was.i all) ≡ 0 = sum-end all loop-was.i (omega (arith, length-limits-read given.n given.room.now)) in
    (omega arith, omega arith)
