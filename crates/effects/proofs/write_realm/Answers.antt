-- In a sound row of form 2 the realm stands in its room, zero filled, as in the notice.
use mathlib.Core.Path.{◌≡◌, ap, ◌∙◌}
use mathlib.Core.List.{List}
use Prim.Native.Nat.{ℕ}
use native.Mathlib.Omega.{arith}
use lib.ListN.{length, get_or}
use Rattle.octets.specs.Texts.{filled, part, put}
use Rattle.octets.proofs.Texts.{length-filled}
use Rattle.table.specs.TheTable.{access_at}
use Rattle.table.proofs.Form.{length-second-of, sized}
use Rattle.row.proofs.Entries.{realm-said, row_of}
use Rattle.row.proofs.Places.{second-whole}
use Rattle.effects.proofs.Rooms.{at_least, at_most, realm-is}
use Rattle.effects.proofs.write_realm.Goals as goal

pub second-second-requires : goal.second-second-requires
second-second-requires c =
    let given = c.args in
    let pre-was = c.requires in
    let r = c.args.row.now in
    (row_of r pre-was.1, at_least r pre-was.1 given.k pre-was.2, at_most r pre-was.1 given.k pre-was.2)

pub realm_room-requires : goal.realm_room-requires
realm_room-requires c =
    let given = c.args in
    let pre-was = c.requires in
    let second-was = c.second-second in
    let r = c.args.row.now in
    omega (arith, ap length second-was.ensures, length-second-of r given.k (sized r (row_of r pre-was.1)) (at_least r pre-was.1 given.k pre-was.2) (at_most r pre-was.1 given.k pre-was.2), pre-was.3)

pub put_bytes-requires : goal.put_bytes-requires
put_bytes-requires c =
    let pre-was = c.requires in
    let second-was = c.second-second in
    let realm-room-was = c.realm_room in
    let r = c.args.row.now in
    let k = c.args.k in
    let room : realm-room-was.result.now ≡ filled (access_at r k).realm 128 =
    realm-room-was.ensures ∙ ap (λ (s : List ℕ). part s 8 128) second-was.ensures ∙ realm-is r pre-was.1 k pre-was.2 pre-was.3 in
    omega (arith, ap length room, length-filled (access_at r k).realm 128, pre-was.0)

pub realm-realm-requires : goal.realm-realm-requires
realm-realm-requires c =
    let given = c.args in
    let pre-was = c.requires in
    let second-was = c.second-second in
    let r = c.args.row.now in
    omega (arith, ap length second-was.ensures, second-whole r given.k (row_of r pre-was.1) (at_least r pre-was.1 given.k pre-was.2) (at_most r pre-was.1 given.k pre-was.2))

pub returns : goal.returns
returns c =
    let given = c.args in
    let pre-was = c.requires in
    let second-was = c.second-second in
    let put-bytes-was = c.put_bytes in
    let realm-room-was = c.realm_room in
    let realm-was = c.realm-realm in
    let r = c.args.row.now in
    let k = c.args.k in
    let room : realm-room-was.result.now ≡ filled (access_at r k).realm 128 =
    realm-room-was.ensures ∙ ap (λ (s : List ℕ). part s 8 128) second-was.ensures ∙ realm-is r pre-was.1 k pre-was.2 pre-was.3 in
    let text : realm-was.result.now ≡ (access_at r k).realm =
    realm-was.ensures ∙ ap (λ (s : List ℕ). part s 8 (get_or s 1 0)) second-was.ensures ∙ realm-said r k in
    (put-bytes-was.ensures ∙ ap (put given.notice.now 256) room, ap length text)
