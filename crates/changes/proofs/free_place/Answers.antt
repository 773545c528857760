-- The zeroed place and block 0 are all of the freed subscriber that differs: `free_law` of Rows.
use mathlib.Core.Path.{◌≡◌, ap, ◌∙◌}
use mathlib.Core.List.{List, ◌++◌}
use Prim.Native.Nat.{ℕ, ◌-◌, ◌^◌}
use native.Mathlib.Omega.{arith}
use lib.ListN.{get_or, take, drop}
use Rattle.octets.specs.Texts.{part, put, zeros}
use Rattle.table.specs.TheTable.{block_length, form_of, place_length, place_start}
use Rattle.table.proofs.Form.{is-sized}
use Rattle.changes.specs.Writes.{closed_up, head_with}
use Rattle.changes.proofs.Puts.{put_head}
use Rattle.changes.proofs.Rows.{bit_in, free_law, head-agrees, head-stays, place_in, place_inside, place-long, row-size, row_sized}
use Rattle.changes.proofs.free_place.Goals as goal

pub bounds-row-17 : goal.bounds-row-17
bounds-row-17 c =
    omega (arith, (row-size c.args.row.now c.requires.0).size)

pub bit_of-requires : goal.bit_of-requires
bit_of-requires c =
    place_in c.args.row.now c.requires.0 c.args.k c.requires.1

pub overflow_sub-bits : goal.overflow_sub-bits
overflow_sub-bits c =
    omega (arith, bit_in c.args.row.now c.args.k c.requires.0 c.requires.1, c.bit_of.ensures)

pub slice_bounds-line_without-end : goal.slice_bounds-line_without-end
slice_bounds-line_without-end c =
    omega (arith, (row-size c.args.row.now c.requires.0).size)

pub overflow_cast-k : goal.overflow_cast-k
overflow_cast-k c =
    omega (arith, place_in c.args.row.now c.requires.0 c.args.k c.requires.1)

pub start-at-requires : goal.start-at-requires
start-at-requires c =
    let r = c.args.row.now in
    let w = place_in r c.requires.0 c.args.k c.requires.1 in
    (is-sized r (row_sized r c.requires.0), w.0, w.1)

pub write_line-requires : goal.write_line-requires
write_line-requires c =
    let r = c.args.row.now in
    let k = c.args.k in
    let w = place_in r c.requires.0 k c.requires.1 in
    let size = row-size r c.requires.0 in
    let at = c.start-at in
    let zeroed = c.put_zeros in
    let place : zeroed.new.room ≡ put r (place_start (form_of r) k) (zeros (place_length (form_of r))) = zeroed.ensures ∙ (λ i. put r (at.ensures.0 i) (zeros (place-long r size i))) in
    head-agrees r zeroed.new.room c.requires.0 (ap (take block_length) place ∙ head-stays (form_of r) r k (zeros (place_length (form_of r))) (omega (arith, place_inside r k size w.0 w.1)))

pub returns : goal.returns
returns c =
    let written = c.write_line in
    let zeroed = c.put_zeros in
    let at = c.start-at in
    let closed = c.line_without-line in
    let bit = c.bit_of in
    let r = c.args.row.now in
    let k = c.args.k in
    let z : List ℕ = zeroed.new.room in
    let place : z ≡ put r (place_start (form_of r) k) (zeros (place_length (form_of r))) = zeroed.ensures ∙ (λ i. put r (at.ensures.0 i) (zeros (place-long r (row-size r c.requires.0) i))) in
    ap (λ (t : List ℕ). t ++ drop block_length z)
    (written.ensures
    ∙ ap (λ (x : ℕ). head_with (take block_length z) (get_or r 17 0 - x) closed.result) bit.ensures
    ∙ ap (λ (t : List ℕ). head_with (take block_length z) (get_or r 17 0 - 2 ^ (k - 1)) t) closed.ensures)
    ∙ ap (λ (t : List ℕ). put_head t (head_with (take block_length t) (get_or r 17 0 - 2 ^ (k - 1)) (closed_up (part r 20 8) k))) place
    ∙ free_law r k c.requires.0 c.requires.1
