-- Byte 17 of a sound row tells the place and the end of the line; the place and block 0 written: `open-law` of Rows.
use mathlib.Core.Path.{◌≡◌, ap, ◌∙◌}
use mathlib.Core.List.{List, ◌++◌}
use Prim.Native.Nat.{ℕ, ◌+◌, ◌-◌, ◌/◌, ◌≤◌, ◌^◌}
use native.Mathlib.Omega.{arith}
use lib.Count.{ones}
use lib.ListN.{length, get_or, take, drop, set}
use Rattle.octets.specs.Texts.{part, put}
use Rattle.table.specs.TheTable.{block_length, form_of, place_start, read_row}
use Rattle.table.proofs.Form.{is-sized}
use Rattle.changes.specs.Changes.{Opening, kept_in, lowest_free}
use Rattle.changes.specs.Writes.{head_with, opened_bytes}
use Rattle.changes.proofs.Puts.{put_head}
use Rattle.changes.proofs.Rows.{bit-fits, came-back, head-agrees, head-stays, lowest-is, open-law, place-long, row-size, row_sized, some-clear}
use Rattle.changes.proofs.Steps.{ones-byte}
use Rattle.changes.proofs.open_place.Goals as goal

pub bounds-row-17 : goal.bounds-row-17
bounds-row-17 c =
    omega (arith, (row-size c.args.row.now c.requires.0).size)

pub overflow_cast-count : goal.overflow_cast-count
overflow_cast-count c =
    omega (arith, ones-byte c.args.row.now c.requires.0, c.requires.1)

pub lowest_free-place-requires : goal.lowest_free-place-requires
lowest_free-place-requires c =
    some-clear c.args.row.now c.requires.0 c.requires.1

pub start-a-requires : goal.start-a-requires
start-a-requires c =
    let r = c.args.row.now in
    (is-sized r (row_sized r c.requires.0), c.lowest_free-place.ensures.1, c.lowest_free-place.ensures.2)

pub overflow_add-bits : goal.overflow_add-bits
overflow_add-bits c =
    let r = c.args.row.now in
    let place = c.lowest_free-place in
    let bit : c.bit_of.result ≡ 2 ^ (lowest_free (read_row r).accesses - 1) =
    c.bit_of.ensures ∙ ap (λ (i : ℕ). 2 ^ (i - 1)) (place.ensures.0 ∙ lowest-is r c.requires.0 c.requires.1) in
    omega (arith, bit-fits r c.requires.0 c.requires.1)

pub enlist-requires : goal.enlist-requires
enlist-requires c =
    let r = c.args.row.now in
    let lowest = c.lowest_free-place in
    let at = c.start-a in
    let a : ℕ = at.result in
    let n : ℕ = (length r - block_length) / 8 in
    let q : Opening = record { session = c.args.session.now; host = c.args.host.now; realm = kept_in (form_of r) c.args.realm.now } in
    let o : List ℕ = opened_bytes (form_of r) c.args.entry q in
    let w = c.write_access in
    let long = place-long r (row-size r c.requires.0) in
    let fits : a + n ≤ length r = omega (arith, at.ensures.2, long) in
    let z : List ℕ = take a r ++ (w.new.place ++ drop (a + n - a) (drop a r)) in
    let taken : z ≡ put r (place_start (form_of r) lowest.result) o = came-back r (form_of r) lowest.result a n c.args.entry c.args.session.now c.args.host.now c.args.realm.now w.new.place at.ensures.0 long fits w.ensures in
    let agrees = head-agrees r z c.requires.0 (ap (take block_length) taken ∙ head-stays (form_of r) r lowest.result o (omega (arith, at.ensures.0, at.ensures.2))) in
    (agrees.0, agrees.1, omega (arith, ones-byte r c.requires.0, c.requires.1))

pub returns : goal.returns
returns c =
    let r = c.args.row.now in
    let e = c.args.entry in
    let lowest = c.lowest_free-place in
    let at = c.start-a in
    let p : ℕ = lowest.result in
    let a : ℕ = at.result in
    let n : ℕ = (length r - block_length) / 8 in
    let q : Opening = record { session = c.args.session.now; host = c.args.host.now; realm = kept_in (form_of r) c.args.realm.now } in
    let w = c.write_access in
    let place : p ≡ lowest_free (read_row r).accesses = lowest.ensures.0 ∙ lowest-is r c.requires.0 c.requires.1 in
    let long = place-long r (row-size r c.requires.0) in
    let fits : a + n ≤ length r = omega (arith, at.ensures.2, long) in
    let z : List ℕ = take a r ++ (w.new.place ++ drop (a + n - a) (drop a r)) in
    let taken : z ≡ put r (place_start (form_of r) p) (opened_bytes (form_of r) e q) = came-back r (form_of r) p a n e c.args.session.now c.args.host.now c.args.realm.now w.new.place at.ensures.0 long fits w.ensures in
    let m : ℕ = ones (get_or r 17 0) in (
      ap (λ (t : List ℕ). t ++ drop block_length z) (c.enlist.ensures ∙ ap (λ (x : ℕ). head_with (take block_length z) (get_or r 17 0 + x) (set (part (take block_length z) 20 8) m p)) c.bit_of.ensures)
          ∙ ap (λ (t : List ℕ). put_head t (head_with (take block_length t) (get_or r 17 0 + 2 ^ (p - 1)) (set (part (take block_length t) 20 8) m p))) taken
          ∙ open-law r c.requires.0 c.requires.1 e q p m place (ones-byte r c.requires.0),
      place,
    )
