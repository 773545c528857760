-- A place is cut for a new access: the row between the two is never written whole, but it is the row of a sound subscriber.
use mathlib.Core.Path.{◌≡◌, sym, ap, ◌∙◌}
use mathlib.Core.Bool.{true}
use mathlib.Core.List.{List, [], ◌∷◌, ◌++◌, append_assoc}
use Prim.Native.Nat.{ℕ, ◌+◌, ◌-◌, ◌*◌, ◌≤◌, ◌<◌, ◌^◌}
use native.Mathlib.Omega.{arith}
use lib.Count.{ones}
use lib.Dec.{eqb}
use lib.ListN.{length, take, drop, get_or, set, take-append-drop}
use lib.Seq.{drop_at, length-take-le}
use Rattle.octets.specs.Lists.{is_on}
use Rattle.octets.specs.Texts.{filled, part, put, zeros}
use Rattle.octets.proofs.Lists.{keep-split}
use Rattle.octets.proofs.Texts.{length-put, length-zeros}
use Rattle.table.specs.Soundness.{sound}
use Rattle.table.specs.TheTable.{block_length, Access, Subscriber, form_of, head_bytes, line, order_line, place_length, place_start, read_row, row_bytes, used_bits}
use Rattle.table.proofs.Bytes.{length-head, read-row}
use Rattle.table.proofs.Sound.{row_is, says-good}
use Rattle.changes.specs.Changes.{Opening, freed, leave, lowest_free, new_access, opened, with_accesses}
use Rattle.changes.specs.Writes.{closed_up, head_with, lowest_clear, opened_bytes}
use Rattle.changes.proofs.Keep.{good-freed, sound-freed}
use Rattle.changes.proofs.Puts.{freed-puts, opened-puts, put_head, put_piece, put_place}
use Rattle.changes.proofs.Rows.{Measured, at_most, bit_in, bit-out, bits_fit, closed_is, find_at, head_of, head-stays, in-8, length-opened, line-more, line-new, lowest-in, lowest-is, new-place, opened-new, order_is, place_in, place_inside, put-place, row-size, some-clear}
use Rattle.changes.proofs.Steps.{head-line, ones-byte, row-bits}
use Rattle.octets.proofs.Pieces.{drop_past, take_past}

-- what block 0 was does not matter to the places behind it
behind-head : (fm : ℕ) (h d o : List ℕ) (p : ℕ) → length h ≡ block_length → drop block_length (put_place fm (h ++ d) p o) ≡ put_piece (place_length fm) d (p - 1) o
behind-head fm h d o p l =
    let v : block_length + block_length * fm * (p - 1) + block_length * fm ≡ block_length + (block_length * fm * (p - 1) + block_length * fm) = omega arith in
    rw (v, take_past block_length (block_length * fm * (p - 1)) h d l, drop_past block_length (block_length * fm * (p - 1) + block_length * fm) h d l, append_assoc)
    (drop_at h (put_piece (place_length fm) d (p - 1) o) block_length l)

over-head : (fm : ℕ) (y h o : List ℕ) (p : ℕ) → length h ≡ block_length → block_length ≤ length y → drop block_length (put_place fm (h ++ drop block_length y) p o) ≡ drop block_length (put_place fm y p o)
over-head fm y h o p l m =
    behind-head fm h (drop block_length y) o p l
    ∙ sym (behind-head fm (take block_length y) (drop block_length y) o p (length-take-le block_length y m))
    ∙ ap (λ (t : List ℕ). drop block_length (put_place fm t p o)) (take-append-drop block_length y)

module _ (r : List ℕ) (k : ℕ) (h : sound r ≡ true) (o : is_on (order_line r) k ≡ true) where
  -- the row between
  abbrev cut : List ℕ
  cut = row_bytes (form_of r) (freed k (read_row r))

  cut-sound : sound cut ≡ true
  cut-sound = sound-freed k r h

  cut-says : read_row cut ≡ freed k (read_row r)
  cut-says = read-row (form_of r) _ (good-freed k (read_row r) (says-good r h))

  pub cut-fewer : length (freed k (read_row r)).accesses < 8
  unfolding freed leave
  cut-fewer =
      let a : List Access = (read_row r).accesses in
      let f = find_at (form_of r) k a (ap (λ (l : List ℕ). is_on l k) (order_is r) ∙ o) in
      omega (arith, keep-split (λ (x : Access). eqb x.place k) a, ap length f.on, at_most r h)

  cut-room : length (read_row cut).accesses < 8
  cut-room = rw cut-says cut-fewer

  cut-bits : get_or r 17 0 - 2 ^ (k - 1) ≡ get_or cut 17 0
  unfolding freed
  cut-bits = omega (arith, bit_in r k h o, row-bits (form_of r) (freed k (read_row r)))

  pub cut-clear : get_or r 17 0 - 2 ^ (k - 1) < 255
  cut-clear = rw cut-bits (some-clear cut cut-sound cut-room)

  pub cut_ones : ones (get_or r 17 0 - 2 ^ (k - 1)) ≡ length (freed k (read_row r)).accesses
  cut_ones = ap ones cut-bits ∙ ones-byte cut cut-sound ∙ ap (λ (s : Subscriber). length s.accesses) cut-says

  pub cut-lowest : lowest_clear (get_or r 17 0 - 2 ^ (k - 1)) ≡ lowest_free (freed k (read_row r)).accesses
  cut-lowest = ap lowest_clear cut-bits ∙ lowest-is cut cut-sound cut-room ∙ ap (λ (s : Subscriber). lowest_free s.accesses) cut-says

  cut-bit : get_or r 17 0 - 2 ^ (k - 1) + 2 ^ (lowest_free (freed k (read_row r)).accesses - 1)
      ≡ used_bits (line (freed k (read_row r)).accesses ++ (lowest_free (freed k (read_row r)).accesses ∷ []))
  cut-bit =
      ap (λ (b : ℕ). b + 2 ^ (lowest_free (freed k (read_row r)).accesses - 1)) cut-bits
      ∙ ap (λ (s : Subscriber). get_or cut 17 0 + 2 ^ (lowest_free s.accesses - 1)) (sym cut-says)
      ∙ bit-out cut cut-sound cut-room
      ∙ ap (λ (s : Subscriber). used_bits (line s.accesses ++ (lowest_free s.accesses ∷ []))) cut-says

  pub cut_fits : get_or r 17 0 - 2 ^ (k - 1) + 2 ^ (lowest_free (freed k (read_row r)).accesses - 1) < 256
  cut_fits = rw cut-bit (bits_fit _)

  pub cut-law : (n : ℕ) (q : Opening) (p m : ℕ) → p ≡ lowest_free (freed k (read_row r)).accesses → m ≡ length (freed k (read_row r)).accesses
      → put_head (put (put r (place_start (form_of r) k) (zeros (place_length (form_of r)))) (place_start (form_of r) p) (opened_bytes (form_of r) n q))
      (head_with (take block_length (put (put r (place_start (form_of r) k) (zeros (place_length (form_of r)))) (place_start (form_of r) p) (opened_bytes (form_of r) n q))) (get_or r 17 0 - 2 ^ (k - 1) + 2 ^ (p - 1)) (set (closed_up (part r 20 8) k) m p))
      ≡ row_bytes (form_of r) (opened n q (freed k (read_row r)))
  unfolding opened freed head_with
  cut-law n q p m ep em =
      let fm : ℕ = form_of r in
      let s : Subscriber = read_row r in
      let a : List Access = leave k s.accesses in
      let y : Access = new_access a n q in
      let b : List Access = a ++ (y ∷ []) in
      let new : List ℕ = opened_bytes fm n q in
      let ln : length new ≡ place_length fm = length-opened fm n q in
      let free : List ℕ = zeros (place_length fm) in
      let w : (1 ≤ k) × (k ≤ 8) = place_in r h k o in
      let v : (1 ≤ lowest_free a) × (lowest_free a ≤ 8) = rw cut-says at (lowest-in cut cut-sound cut-room) in
      let g : Measured r = row-size r h in
      let z : List ℕ = put r (place_start fm k) free in
      let lz : length z ≡ length r = length-put r (place_start fm k) free (omega (arith, length-zeros (place_length fm), place_inside r k g w.0 w.1)) in
      let u : List ℕ = put z (place_start fm p) new in
      let e1 : take block_length u ≡ head_bytes s =
      head-stays fm z p new (omega (arith, place_inside r p g (omega (arith, v.0)) (omega (arith, v.1)))) ∙ head-stays fm r k free (omega (arith, place_inside r k g w.0 w.1)) ∙ head_of r h in
      let e2 : get_or r 17 0 - 2 ^ (k - 1) + 2 ^ (p - 1) ≡ used_bits (line b) =
      ap (λ (i : ℕ). get_or r 17 0 - 2 ^ (k - 1) + 2 ^ (i - 1)) ep ∙ cut-bit ∙ ap used_bits (sym (line-new a n q)) in
      let e3 : set (closed_up (part r 20 8) k) m p ≡ filled (line b) 8 = ap (λ (t : List ℕ). set t m p) (closed_is r k h o) ∙ line-more a y m p cut-fewer (ep ∙ sym (new-place a n q)) em in
      let head : head_with (take block_length u) (get_or r 17 0 - 2 ^ (k - 1) + 2 ^ (p - 1)) (set (closed_up (part r 20 8) k) m p) ≡ head_bytes (with_accesses b s) =
      ap (λ (t : List ℕ). head_with t (get_or r 17 0 - 2 ^ (k - 1) + 2 ^ (p - 1)) (set (closed_up (part r 20 8) k) m p)) e1
      ∙ ap (λ (t : ℕ). head_with (head_bytes s) t (set (closed_up (part r 20 8) k) m p)) e2
      ∙ ap (λ (t : List ℕ). head_with (head_bytes s) (used_bits (line b)) t) e3
      ∙ sym (head-line s b) in
      let ez : z ≡ put_place fm (row_bytes fm s) k free = put-place fm r k free (length-zeros (place_length fm)) ∙ ap (λ (t : List ℕ). put_place fm t k free) (row_is r h) in
      let eu : u ≡ put_place fm z (lowest_free a) new = put-place fm z p new ln ∙ ap (λ (i : ℕ). put_place fm z i new) ep in
      let ec : cut ≡ head_bytes (freed k s) ++ drop block_length z = freed-puts fm k s (in-8 k w.0 w.1) ∙ ap (λ (t : List ℕ). head_bytes (freed k s) ++ drop block_length t) (sym ez) in
      let rest : drop block_length u ≡ drop block_length (put_place fm cut (lowest_free a) new) =
      ap (drop block_length) eu
      ∙ sym (over-head fm z (head_bytes (freed k s)) new (lowest_free a) (length-head (freed k s)) (omega (arith, g.size)))
      ∙ ap (λ (t : List ℕ). drop block_length (put_place fm t (lowest_free a) new)) (sym ec) in
      (λ i. head i ++ rest i)
      ∙ ap (λ (t : List ℕ). head_bytes (with_accesses b s) ++ drop block_length (put_place fm cut (lowest_free a) t)) (opened-new fm a n q)
      ∙ sym (opened-puts fm n q (freed k s) cut-fewer)
