-- The two texts of the second block: `realm-there` and `realm-none` of Loops.
use mathlib.Core.Path.{ap, ◌∙◌}
use mathlib.Core.List.{List, []}
use Prim.Native.Nat.{ℕ, ◌%◌}
use native.Mathlib.Omega.{arith}
use lib.ListN.{length}
use Rattle.row.proofs.Places.{second-whole}
use Rattle.moving.proofs.Loops.{realm-none, realm-there}
use Rattle.table.specs.TheTable.{block_length}
use Rattle.moving.proofs.place_plain.Goals as goal

pub realm-requires : goal.realm-requires
realm-requires c =
    let second-was = c.second-more in
    let given = c.args in
    let pre-was = c.requires in
    ap (λ (c : List ℕ). length c % block_length) second-was.ensures ∙ second-whole given.r.now given.k pre-was.0 pre-was.1 pre-was.2

pub returns-then-realm-ne0 : goal.returns-then-realm-ne0
returns-then-realm-ne0 c =
    let given = c.args in
    let second-was = c.second-more in
    let realm-was = c.realm in
    let test1 = c.if-realm-ne0 in
    realm-there given.r.now given.k second-was.result.now realm-was.result.now [] second-was.ensures realm-was.ensures test1.true

pub second_policy-requires : goal.second_policy-requires
second_policy-requires c =
    let second-was = c.second-more in
    let given = c.args in
    let pre-was = c.requires in
    ap (λ (c : List ℕ). length c % block_length) second-was.ensures ∙ second-whole given.r.now given.k pre-was.0 pre-was.1 pre-was.2

pub returns : goal.returns
returns c =
    let given = c.args in
    let second-was = c.second-more in
    let realm-was = c.realm in
    let second-policy-was = c.second_policy in
    realm-none given.r.now given.k second-was.result.now realm-was.result.now second-policy-was.result.now second-was.ensures realm-was.ensures (omega arith) second-policy-was.ensures
