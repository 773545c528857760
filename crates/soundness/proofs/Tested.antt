-- What the code tests of a row is the paper's soundness.
use mathlib.Core.Path.{◌≡◌, refl, sym, ap, ◌∙◌}
use mathlib.Core.Bool.{Bool, true, false, ◌&&◌}
use mathlib.Core.List.{List}
use Prim.Native.Nat.{ℕ, ◌≤◌, ◌<◌}
use native.Mathlib.Omega.{arith}
use borrow.Author.Tests.{eq-eqb, eqb-false, eqb-true, le-leb}
use lib.Dec.{eqb, leb}
use lib.ListN.{length, get_or}
use Rattle.octets.specs.Choice.{pick, within}
use Rattle.octets.specs.Lists.{distinct, every, is_on, sum_of}
use Rattle.octets.specs.Texts.{all_zero, part, same}
use Rattle.octets.proofs.Lists.{and_left, and_right, both, by-test, every_map, within-high, within_low}
use Rattle.row.proofs.Entries.{count-is}
use Rattle.row.proofs.Places.{row-sizes}
use Rattle.table.proofs.Form.{Sized, every-on, length-first-of, length-second-of, sized}
use Rattle.soundness.proofs.Forms.{both_of, nothing-at, nothing-behind, of-both, zero-first, zero-second}
use Rattle.soundness.proofs.Line.{Exact, exact}
use Rattle.table.proofs.Sound.{Clauses, at_place, clauses, clauses-sound, each_on, each-place-of, head_of, in_use_lem, sums-tail, sums-zero}
use Rattle.table.proofs.Tests.{clash}
use Rattle.blocks.specs.RowTests.{access_sound, head_sound, place_sound, second_sound}
use Rattle.table.specs.Soundness.{access_form, entries_form, head_form, in_use, is_row, labels, limits, line_exact, only_behind, place_form, place_sums, policies_in_order, policy_marked, same_label, second_form, sessions, sound, sums_agree, under_limits}
use Rattle.table.specs.TheTable.{block_length, access_at, entries_room, first_block, form_of, head, order_line, place, places, read_access, read_entries, read_row, second_block}

-- BLOCK 0, read from the row

pub head-sound-is : (r : List ℕ) (n : ℕ) → n ≡ get_or (head r) 18 0 → head_sound r
    ≡ head_form (head r) && (entries_form n (entries_room r)
    && (distinct same_label (labels (read_entries n (entries_room r))) && leb (sum_of (limits (read_entries n (entries_room r)))) 8))
unfolding head_sound read_row
head-sound-is r n e = rw e

pub head-count : (r : List ℕ) → head_form (head r) ≡ true → get_or (head r) 18 0 ≤ 4
head-count r h = (head_of (head r) h).2

pub few-entries : (r : List ℕ) → head_sound r ≡ true → get_or (head r) 18 0 ≤ 4
unfolding head_sound
few-entries r h = head-count r (and_left (head_form (head r)) _ h)

-- THE WHOLE ROW

unfoldable pub tested : List ℕ → Bool
tested r =
    head_sound r && (line_exact r && (every (place_sound (get_or (head r) 18 0) r) places
    && (distinct same (sessions (read_row r).accesses)
    && (under_limits 1 (limits (read_row r).entries) (read_row r).accesses && sums_agree (head r)))))

-- the same by name
record Parts (r : List ℕ) : Type 0 where
  pub head-form : head_form (head r) ≡ true
  pub entries-form : entries_form (get_or (head r) 18 0) (part (head r) 32 416) ≡ true
  pub labels-once : distinct same_label (labels (read_row r).entries) ≡ true
  pub eight : leb (sum_of (limits (read_row r).entries)) 8 ≡ true
  pub line-exact : line_exact r ≡ true
  pub each : every (place_sound (get_or (head r) 18 0) r) places ≡ true
  pub sessions-once : distinct same (sessions (read_row r).accesses) ≡ true
  pub under : under_limits 1 (limits (read_row r).entries) (read_row r).accesses ≡ true
  pub sum-zero : sums_agree (head r) ≡ true

parts : (r : List ℕ) → tested r ≡ true → Parts r
unfolding tested head_sound
parts r t =
    let h = and_left (head_sound r) _ t in
    let h1 = and_right (head_form (head r)) _ h in
    let h2 = and_right (entries_form (get_or (head r) 18 0) (part (head r) 32 416)) _ h1 in
    let t1 = and_right (head_sound r) _ t in
    let t2 = and_right (line_exact r) _ t1 in
    let t3 = and_right (every (place_sound (get_or (head r) 18 0) r) places) _ t2 in
    let t4 = and_right (distinct same (sessions (read_row r).accesses)) _ t3 in
    record {
      head-form = and_left (head_form (head r)) _ h;
      entries-form = and_left (entries_form (get_or (head r) 18 0) (part (head r) 32 416)) _ h1;
      labels-once = and_left (distinct same_label (labels (read_row r).entries)) _ h2;
      eight = and_right (distinct same_label (labels (read_row r).entries)) _ h2;
      line-exact = and_left (line_exact r) _ t1;
      each = and_left (every (place_sound (get_or (head r) 18 0) r) places) _ t2;
      sessions-once = and_left (distinct same (sessions (read_row r).accesses)) _ t3;
      under = and_left (under_limits 1 (limits (read_row r).entries) (read_row r).accesses) _ t4;
      sum-zero = and_right (under_limits 1 (limits (read_row r).entries) (read_row r).accesses) _ t4;
    }

same_number : (n : ℕ) → eqb n n ≡ true
same_number n = eq-eqb n n refl

-- from the paper's clauses
module _ (r : List ℕ) (c : Clauses r) where
  entry-there : (k : ℕ) → is_on (order_line r) k ≡ true → within 1 (get_or (head r) 18 0) (get_or (first_block (place r k)) 1 0) ≡ true
  unfolding read_row access_at read_access
  entry-there k o =
      let w : within 1 (length (read_row r).entries) (get_or (first_block (place r k)) 1 0) ≡ true =
      every-on (λ j. within 1 (length (read_row r).entries) (access_at r j).entry) (order_line r) k (rw every_map at c.entry_in) o in
      ap (λ (n : ℕ). within 1 n (get_or (first_block (place r k)) 1 0)) (sym (count-is r)) ∙ w

  -- the two blocks of a place on the line
  blocks-pass : (k : ℕ) → within 1 8 k ≡ true → is_on (order_line r) k ≡ true → in_use r k ≡ true
      → (access_sound (get_or (head r) 18 0) (first_block (place r k)) ≡ true) × (form_of r ≡ 2 → second_sound (second_block (place r k)) (get_or (first_block (place r k)) 5 0) ≡ true)
  unfolding access_sound second_sound place_form place_sums policy_marked policies_in_order pick
  blocks-pass k w o u =
      let b : List ℕ = first_block (place r k) in
      let d : List ℕ = second_block (place r k) in
      let f : place_form r k ≡ true = at_place (place_form r) k c.places-form w in
      let fo : (access_form b ≡ true) × (form_of r ≡ 2 → second_form d ≡ true) = of-both (form_of r) _ _ (rw u at f) in
      let su : (sums_agree b ≡ true) × (form_of r ≡ 2 → sums_agree d ≡ true) = of-both (form_of r) _ _ (at_place (place_sums r) k c.sum-each w) in
      let m : eqb (get_or b 4 0) (pick (leb 1 (get_or b 5 0)) 1 0) ≡ true = every-on (policy_marked r) (order_line r) k c.marked o in
      let q : only_behind (get_or d 3 0) (get_or b 5 0) && only_behind (get_or d 4 0) (get_or d 3 0) ≡ true = every-on (policies_in_order r) (order_line r) k c.ordered o in
      let q3 : only_behind (get_or d 3 0) (get_or b 5 0) ≡ true = and_left (only_behind (get_or d 3 0) (get_or b 5 0)) _ q in
      let q4 : only_behind (get_or d 4 0) (get_or d 3 0) ≡ true = and_right (only_behind (get_or d 3 0) (get_or b 5 0)) _ q in
      (both fo.0 (both m (both (entry-there k o) su.0)), λ e. both (fo.1 e) (both q3 (both q4 (su.1 e))))

  place-passes : (k : ℕ) → within 1 8 k ≡ true → place_sound (get_or (head r) 18 0) r k ≡ true
  unfolding place_sound place_form pick
  place-passes k w =
      let f : place_form r k ≡ true = at_place (place_form r) k c.places-form w in
      by-test (in_use r k)
      (λ u. let o : is_on (order_line r) k ≡ true = sym (in_use_lem r k c.bits w) ∙ u in
      let t = blocks-pass k w o u in
      rw u (both_of (form_of r) _ _ t.0 t.1))
      (λ u. rw u (rw u at f))

  line-passes : line_exact r ≡ true
  unfolding line_exact
  line-passes = rw (c.line-in, c.line-once, ← c.bits) (same_number (get_or (head r) 17 0))

  passes : tested r ≡ true
  unfolding tested head_sound
  passes =
      rw (c.head-form, c.entries-form, c.labels-once, c.eight, line-passes, each-place-of (place_sound (get_or (head r) 18 0) r) place-passes, c.sessions-once, c.under, c.sum-zero)

-- to the paper's clauses
module _ (r : List ℕ) (row : is_row r ≡ true) (p : Parts r) where
  at : (k : ℕ) → within 1 8 k ≡ true → place_sound (get_or (head r) 18 0) r k ≡ true
  at k w = at_place (place_sound (get_or (head r) 18 0) r) k p.each w

  shown : (k : ℕ) → within 1 8 k ≡ true → in_use r k ≡ true
      → (access_sound (get_or (head r) 18 0) (first_block (place r k)) ≡ true) × (form_of r ≡ 2 → second_sound (second_block (place r k)) (get_or (first_block (place r k)) 5 0) ≡ true)
  unfolding place_sound pick
  shown k w u = let t : place_sound (get_or (head r) 18 0) r k ≡ true = at k w in of-both (form_of r) _ _ (rw u at t)

  zero-there : (k : ℕ) → within 1 8 k ≡ true → in_use r k ≡ false → all_zero (place r k) ≡ true
  unfolding place_sound pick
  zero-there k w u = let t : place_sound (get_or (head r) 18 0) r k ≡ true = at k w in rw u at t

  on-used : (k : ℕ) → is_on (order_line r) k ≡ true → (within 1 8 k ≡ true) × (in_use r k ≡ true)
  on-used k o =
      let x : Exact r = exact r p.line-exact in
      let w : within 1 8 k ≡ true = every-on (within 1 8) (order_line r) k x.in-range o in
      (w, in_use_lem r k x.bits w ∙ o)

  on-shown : (k : ℕ) → is_on (order_line r) k ≡ true
      → (access_sound (get_or (head r) 18 0) (first_block (place r k)) ≡ true) × (form_of r ≡ 2 → second_sound (second_block (place r k)) (get_or (first_block (place r k)) 5 0) ≡ true)
  on-shown k o = shown k (on-used k o).0 (on-used k o).1

  form-there : (k : ℕ) → within 1 8 k ≡ true → place_form r k ≡ true
  unfolding place_form access_sound second_sound pick
  form-there k w =
      by-test (in_use r k)
      (λ u. rw u (both_of (form_of r) _ _ (and_left (access_form (first_block (place r k))) _ (shown k w u).0) (λ e. and_left (second_form (second_block (place r k))) _ ((shown k w u).1 e))))
      (λ u. rw u (zero-there k w u))

  -- behind the form of the first block: the mark, the entry, the sums
  first_rest : (k : ℕ) → access_sound (get_or (head r) 18 0) (first_block (place r k)) ≡ true
      → (policy_marked r k ≡ true) × (within 1 (get_or (head r) 18 0) (get_or (first_block (place r k)) 1 0) ≡ true) × (sums_agree (first_block (place r k)) ≡ true)
  unfolding policy_marked access_sound
  first_rest k s =
      let b : List ℕ = first_block (place r k) in
      let t = and_right (access_form b) _ s in
      let t1 = and_right (eqb (get_or b 4 0) (pick (leb 1 (get_or b 5 0)) 1 0)) _ t in (
        and_left (eqb (get_or b 4 0) (pick (leb 1 (get_or b 5 0)) 1 0)) _ t,
        and_left (within 1 (get_or (head r) 18 0) (get_or b 1 0)) _ t1,
        and_right (within 1 (get_or (head r) 18 0) (get_or b 1 0)) _ t1,
      )

  -- behind the form of the second: the policies in order, the sums
  second-rest : (k : ℕ) → second_sound (second_block (place r k)) (get_or (first_block (place r k)) 5 0) ≡ true
      → (policies_in_order r k ≡ true) × (sums_agree (second_block (place r k)) ≡ true)
  unfolding policies_in_order second_sound
  second-rest k s =
      let b : List ℕ = first_block (place r k) in
      let d : List ℕ = second_block (place r k) in
      let t = and_right (second_form d) _ s in
      let t1 = and_right (only_behind (get_or d 3 0) (get_or b 5 0)) _ t in (
        both (and_left (only_behind (get_or d 3 0) (get_or b 5 0)) _ t) (and_left (only_behind (get_or d 4 0) (get_or d 3 0)) _ t1),
        and_right (only_behind (get_or d 4 0) (get_or d 3 0)) _ t1,
      )

  mark-there : (k : ℕ) → is_on (order_line r) k ≡ true → policy_marked r k ≡ true
  mark-there k o = (first_rest k (on-shown k o).0).0

  names-entry : (k : ℕ) → is_on (order_line r) k ≡ true → within 1 (length (read_row r).entries) (get_or (first_block (place r k)) 1 0) ≡ true
  names-entry k o = ap (λ (n : ℕ). within 1 n (get_or (first_block (place r k)) 1 0)) (count-is r) ∙ (first_rest k (on-shown k o).0).1

  -- in form 1 there is no second policy, and no third
  order-one : (k : ℕ) → within 1 8 k ≡ true → (form_of r ≡ 2 → ⊥) → policies_in_order r k ≡ true
  unfolding policies_in_order
  order-one k w n =
      let z : length (second_block (place r k)) ≡ 0 = omega (arith, row-sizes r row, length-second-of r k (sized r row) (within_low 1 8 k w) (within-high 1 8 k w)) in
      both (nothing-behind _ _ (nothing-at (second_block (place r k)) 3 z)) (nothing-behind _ _ (nothing-at (second_block (place r k)) 4 z))

  order-there : (k : ℕ) → is_on (order_line r) k ≡ true → policies_in_order r k ≡ true
  order-there k o =
      by-test (eqb (form_of r) 2)
      (λ e. (second-rest k ((on-shown k o).1 (eqb-true (form_of r) 2 e))).0)
      (λ e. order-one k (on-used k o).0 (eqb-false (form_of r) 2 e))

  sum-there : (k : ℕ) → within 1 8 k ≡ true → place_sums r k ≡ true
  unfolding place_sums
  sum-there k w =
      let z : Sized r = sized r row in
      let b : List ℕ = first_block (place r k) in
      let d : List ℕ = second_block (place r k) in
      let lb : length b ≡ block_length = length-first-of r k z (within_low 1 8 k w) (within-high 1 8 k w) in
      let ld : form_of r ≡ 2 → length d ≡ block_length = λ e. omega (arith, length-second-of r k z (within_low 1 8 k w) (within-high 1 8 k w)) in
      by-test (in_use r k)
      (λ u. both_of (form_of r) _ _ (first_rest k (shown k w u).0).2 (λ e. (second-rest k ((shown k w u).1 e)).1))
      (λ u. both_of (form_of r) _ _
      (sums-tail b lb ∙ sums-zero b lb (zero-first block_length (place r k) (zero-there k w u)))
      (λ e. sums-tail d (ld e) ∙ sums-zero d (ld e) (zero-second block_length (place r k) (zero-there k w u))))

  clauses-hold : Clauses r
  unfolding read_row access_at read_access
  clauses-hold =
      let x : Exact r = exact r p.line-exact in
      record {
        row = sized r row;
        head-form = p.head-form;
        entries-form = p.entries-form;
        places-form = each-place-of (place_form r) form-there;
        sum-zero = p.sum-zero;
        sum-each = each-place-of (place_sums r) sum-there;
        line-in = x.in-range;
        line-once = x.once;
        bits = x.bits;
        labels-once = p.labels-once;
        eight = p.eight;
        sessions-once = p.sessions-once;
        entry_in = rw every_map (each_on (order_line r) _ names-entry);
        under = p.under;
        marked = each_on (order_line r) (policy_marked r) mark-there;
        ordered = each_on (order_line r) (policies_in_order r) order-there;
      }

pub sound-by : (r : List ℕ) → is_row r ≡ true → sound r ≡ tested r
sound-by r row =
    by-test (tested r)
    (λ t. clauses-sound r (clauses-hold r row (parts r t)) ∙ sym t)
    (λ t. by-test (sound r)
    (λ s. absurd (clash (passes r (clauses r s)) t))
    (λ s. s ∙ sym t))

-- that a row has at most four entries says nothing new of a sound one, and one with more is not sound
sound-few : (r : List ℕ) → sound r ≡ true → get_or (head r) 18 0 ≤ 4
sound-few r s = head-count r (clauses r s).head-form

pub few-said : (r : List ℕ) (n : ℕ) → n ≡ get_or (head r) 18 0 → sound r ≡ true → leb n 4 ≡ sound r
few-said r n e s = le-leb n 4 (omega (arith, e, sound-few r s)) ∙ sym s

pub many-unsound : (r : List ℕ) (n : ℕ) → n ≡ get_or (head r) 18 0 → 4 < n → false ≡ sound r
many-unsound r n e h = by-test (sound r) (λ s. absurd (omega (arith, e, h, sound-few r s))) (λ s. sym s)
