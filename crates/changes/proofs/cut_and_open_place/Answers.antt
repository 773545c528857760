-- Byte 17 without the cut place tells where the new access goes and where the line ends; the two places and block 0 written: `cut-law` of Cuts.
use mathlib.Core.Path.{◌≡◌, ap, ◌∙◌}
use mathlib.Core.List.{List, ◌++◌}
use Prim.Native.Nat.{ℕ, ◌+◌, ◌-◌, ◌/◌, ◌≤◌, ◌^◌}
use native.Mathlib.Omega.{arith}
use lib.Count.{ones}
use lib.ListN.{length, get_or, take, drop, set}
use Rattle.octets.specs.Texts.{part, put, zeros}
use Rattle.table.specs.TheTable.{block_length, form_of, place_length, place_start, read_row}
use Rattle.table.proofs.Form.{is-sized}
use Rattle.changes.specs.Changes.{Opening, freed, kept_in, lowest_free}
use Rattle.changes.specs.Writes.{closed_up, head_with, lowest_clear, opened_bytes}
use Rattle.changes.proofs.Cuts.{cut-clear, cut-fewer, cut_fits, cut-law, cut-lowest, cut_ones}
use Rattle.changes.proofs.Puts.{put_head}
use Rattle.changes.proofs.Rows.{bit_in, came-back, head-agrees, head-stays, place_in, place_inside, place-long, row-size, row_sized}
use Rattle.changes.proofs.cut_and_open_place.Goals as goal

pub bounds-row-17 : goal.bounds-row-17
bounds-row-17 c =
    omega (arith, (row-size c.args.row.now c.requires.0).size)

pub bit_of-requires : goal.bit_of-requires
bit_of-requires c =
    place_in c.args.row.now c.requires.0 c.args.k c.requires.1

pub overflow_sub-bits : goal.overflow_sub-bits
overflow_sub-bits c =
    omega (arith, bit_in c.args.row.now c.args.k c.requires.0 c.requires.1, c.bit_of.ensures)

pub overflow_cast-count : goal.overflow_cast-count
overflow_cast-count c =
    let r = c.args.row.now in
    let count : ones (get_or r 17 0 - c.bit_of.result) ≡ length (freed c.args.k (read_row r)).accesses =
    ap (λ (x : ℕ). ones (get_or r 17 0 - x)) c.bit_of.ensures ∙ cut_ones r c.args.k c.requires.0 c.requires.1 in
    omega (arith, cut-fewer r c.args.k c.requires.0 c.requires.1)

pub lowest_free-place-requires : goal.lowest_free-place-requires
lowest_free-place-requires c =
    rw c.bit_of.ensures (cut-clear c.args.row.now c.args.k c.requires.0 c.requires.1)

pub slice_bounds-line_without-end : goal.slice_bounds-line_without-end
slice_bounds-line_without-end c =
    omega (arith, (row-size c.args.row.now c.requires.0).size)

pub overflow_cast-k : goal.overflow_cast-k
overflow_cast-k c =
    omega (arith, place_in c.args.row.now c.requires.0 c.args.k c.requires.1)

pub overflow_cast-line : goal.overflow_cast-line
overflow_cast-line c =
    omega (arith, c.lowest_free-place.ensures.2, place_in c.args.row.now c.requires.0 c.args.k c.requires.1)

pub bounds-line-count : goal.bounds-line-count
bounds-line-count c =
    let r = c.args.row.now in
    let count : ones (get_or r 17 0 - c.bit_of.result) ≡ length (freed c.args.k (read_row r)).accesses =
    ap (λ (x : ℕ). ones (get_or r 17 0 - x)) c.bit_of.ensures ∙ cut_ones r c.args.k c.requires.0 c.requires.1 in
    omega (arith, cut-fewer r c.args.k c.requires.0 c.requires.1)

pub overflow_sub-long : goal.overflow_sub-long
overflow_sub-long c =
    omega (arith, (row-size c.args.row.now c.requires.0).size)

pub start-cut-requires : goal.start-cut-requires
start-cut-requires c =
    let r = c.args.row.now in
    let w = place_in r c.requires.0 c.args.k c.requires.1 in
    (is-sized r (row_sized r c.requires.0), w.0, w.1)

pub start-a-requires : goal.start-a-requires
start-a-requires c =
    let r = c.args.row.now in
    let lowest = c.lowest_free-place in
    (is-sized r (row_sized r c.requires.0), lowest.ensures.1, lowest.ensures.2)

pub overflow_add-bits : goal.overflow_add-bits
overflow_add-bits c =
    let r = c.args.row.now in
    let k = c.args.k in
    let lowest = c.lowest_free-place in
    let bit = c.bit_of in
    let place : lowest.result ≡ lowest_free (freed k (read_row r)).accesses =
    lowest.ensures.0 ∙ ap (λ (x : ℕ). lowest_clear (get_or r 17 0 - x)) bit.ensures ∙ cut-lowest r k c.requires.0 c.requires.1 in
    let more : c.bit_of-2.result ≡ 2 ^ (lowest_free (freed k (read_row r)).accesses - 1) = c.bit_of-2.ensures ∙ ap (λ (i : ℕ). 2 ^ (i - 1)) place in
    omega (arith, bit.ensures, cut_fits r k c.requires.0 c.requires.1)

pub write_line-requires : goal.write_line-requires
write_line-requires c =
    let r = c.args.row.now in
    let k = c.args.k in
    let fm : ℕ = form_of r in
    let lowest = c.lowest_free-place in
    let at = c.start-a in
    let cut = c.start-cut in
    let a : ℕ = at.result in
    let n : ℕ = (length r - block_length) / 8 in
    let q : Opening = record { session = c.args.session.now; host = c.args.host.now; realm = kept_in fm c.args.realm.now } in
    let o : List ℕ = opened_bytes fm c.args.entry q in
    let w = c.write_access in
    let zeroed = c.put_zeros in
    let v : List ℕ = zeroed.new.room in
    let size = row-size r c.requires.0 in
    let long = place-long r size in
    let fits : a + n ≤ length v = omega (arith, at.ensures.2, long, zeroed.auto.room) in
    let z : List ℕ = take a v ++ (w.new.place ++ drop (a + n - a) (drop a v)) in
    let taken : z ≡ put v (place_start fm lowest.result) o = came-back v fm lowest.result a n c.args.entry c.args.session.now c.args.host.now c.args.realm.now w.new.place at.ensures.0 long fits w.ensures in
    let place : v ≡ put r (place_start fm k) (zeros (place_length fm)) = zeroed.ensures ∙ (λ i. put r (cut.ensures.0 i) (zeros (long i))) in
    let in-8 = place_in r c.requires.0 k c.requires.1 in
    head-agrees r z c.requires.0
    (ap (take block_length) taken
    ∙ head-stays fm v lowest.result o (omega (arith, at.ensures.0, fits))
    ∙ ap (take block_length) place
    ∙ head-stays fm r k (zeros (place_length fm)) (omega (arith, place_inside r k size in-8.0 in-8.1)))

pub returns : goal.returns
returns c =
    let r = c.args.row.now in
    let k = c.args.k in
    let e = c.args.entry in
    let fm : ℕ = form_of r in
    let bit = c.bit_of in
    let lowest = c.lowest_free-place in
    let closed = c.line_without-line in
    let cut = c.start-cut in
    let at = c.start-a in
    let p : ℕ = lowest.result in
    let a : ℕ = at.result in
    let n : ℕ = (length r - block_length) / 8 in
    let q : Opening = record { session = c.args.session.now; host = c.args.host.now; realm = kept_in fm c.args.realm.now } in
    let o : List ℕ = opened_bytes fm e q in
    let w = c.write_access in
    let zeroed = c.put_zeros in
    let v : List ℕ = zeroed.new.room in
    let place : p ≡ lowest_free (freed k (read_row r)).accesses =
    lowest.ensures.0 ∙ ap (λ (x : ℕ). lowest_clear (get_or r 17 0 - x)) bit.ensures ∙ cut-lowest r k c.requires.0 c.requires.1 in
    let long = place-long r (row-size r c.requires.0) in
    let fits : a + n ≤ length v = omega (arith, at.ensures.2, long, zeroed.auto.room) in
    let z : List ℕ = take a v ++ (w.new.place ++ drop (a + n - a) (drop a v)) in
    let free : v ≡ put r (place_start fm k) (zeros (place_length fm)) = zeroed.ensures ∙ (λ i. put r (cut.ensures.0 i) (zeros (long i))) in
    let taken : z ≡ put (put r (place_start fm k) (zeros (place_length fm))) (place_start fm p) o = came-back v fm p a n e c.args.session.now c.args.host.now c.args.realm.now w.new.place at.ensures.0 long fits w.ensures ∙ ap (λ (t : List ℕ). put t (place_start fm p) o) free in
    let bits : get_or r 17 0 - bit.result ≡ get_or r 17 0 - 2 ^ (k - 1) = ap (λ (x : ℕ). get_or r 17 0 - x) bit.ensures in
    let m : ℕ = ones (get_or r 17 0 - 2 ^ (k - 1)) in (
      ap (λ (t : List ℕ). t ++ drop block_length z)
          (c.write_line.ensures
          ∙ (λ i. head_with (take block_length z) (bits i + c.bit_of-2.ensures i) (set (closed.ensures i) (ones (bits i)) p)))
          ∙ ap (λ (t : List ℕ). put_head t (head_with (take block_length t) (get_or r 17 0 - 2 ^ (k - 1) + 2 ^ (p - 1)) (set (closed_up (part r 20 8) k) m p))) taken
          ∙ cut-law r k c.requires.0 c.requires.1 e q p m place (cut_ones r k c.requires.0 c.requires.1),
      place,
    )
