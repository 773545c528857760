-- Three writes into a zero row and the sums of block 0: `new-law` of Rows.
use mathlib.Core.Path.{◌≡◌, ap, ◌∙◌}
use mathlib.Core.List.{List, [], ◌∷◌, ◌++◌}
use Prim.Native.Nat.{ℕ}
use native.Mathlib.Omega.{arith}
use lib.ListN.{length, drop}
use Rattle.octets.specs.Texts.{put, zeros}
use Rattle.table.specs.TheTable.{block_length, form_of, row_length}
use Rattle.table.proofs.Rows.{width-least}
use Rattle.changes.proofs.Rows.{new-law}
use Rattle.changes.proofs.new_row.Goals as goal

pub put_bytes-requires : goal.put_bytes-requires
put_bytes-requires c =
    omega (arith, width-least (form_of c.args.row.now), c.requires.0, c.clear.auto.s)

pub put_bytes-requires-2 : goal.put_bytes-requires-2
put_bytes-requires-2 c =
    omega (arith, width-least (form_of c.args.row.now), c.requires.0, c.clear.auto.s, c.put_bytes.auto.room)

pub put_bytes-requires-3 : goal.put_bytes-requires-3
put_bytes-requires-3 c =
    omega (arith, width-least (form_of c.args.row.now), c.requires.0, c.requires.1, c.clear.auto.s, c.put_bytes.auto.room, c.put_bytes-2.auto.room)

pub slice_bounds-seal-end : goal.slice_bounds-seal-end
slice_bounds-seal-end c =
    omega (arith, width-least (form_of c.args.row.now), c.requires.0, c.clear.auto.s, c.put_bytes.auto.room, c.put_bytes-2.auto.room, c.put_bytes-3.auto.room)

pub returns : goal.returns
returns c =
    let given = c.args in
    let fm : ℕ = form_of given.row.now in
    let name = c.args.name.now in
    let clear-was = c.clear in
    let operator-was = c.put_bytes in
    let head-was = c.put_bytes-2 in
    let name-was = c.put_bytes-3 in
    let z : List ℕ = name-was.new.room in
    let cleared : clear-was.new.s ≡ zeros (row_length fm) = clear-was.ensures ∙ ap zeros c.requires.0 in
    ap (λ (t : List ℕ). t ++ drop block_length z) c.seal.ensures
    ∙ new-law fm given.op name z c.requires.1
    (name-was.ensures
    ∙ ap (λ (t : List ℕ). put t 2 name) (head-was.ensures
    ∙ ap (λ (t : List ℕ). put t 0 (1 ∷ length name ∷ [])) (operator-was.ensures ∙ ap (λ (t : List ℕ). put t 19 (given.op ∷ [])) cleared)))
