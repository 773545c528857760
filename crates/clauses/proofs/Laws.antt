-- The clauses of a row one by one: what the code tests is each clause, a law for each way out, and that the number is 0 exactly for a sound row.
use mathlib.Core.Path.{◌≡◌, refl, sym, ap, ◌∙◌}
use mathlib.Core.Bool.{Bool, true, false, ◌&&◌}
use mathlib.Core.List.{List, [], ◌∷◌}
use Prim.Native.Nat.{ℕ, ◌≤◌, ◌<◌}
use native.Mathlib.Omega.{arith}
use borrow.Author.Tests.{eqb-true, eq-eqb, ne_eqb, lt-leb, le-leb}
use lib.Dec.{eqb, leb}
use lib.ListN.{length, get_or}
use Rattle.octets.specs.Choice.{pick, require, first_of, within}
use Rattle.octets.specs.Lists.{every, distinct, sum_of}
use Rattle.octets.specs.Texts.{part, same}
use Rattle.octets.proofs.Lists.{and_right, both, by-test, every_map}
use Rattle.octets.proofs.Choice.{first_passes, others-pass, passed}
use Rattle.table.specs.TheTable.{Access, access_at, entries_room, first_block, head, line_room, order_line, place, places, read_entries, read_row, second_block}
use Rattle.table.specs.Soundness.{entries_form, has_form, head_form, is_row, labels, limits, line_exact, only_behind, place_form, place_sums, policies_in_order, policy_marked, same_label, sessions, sound, sums_agree, under_limits}
use Rattle.row.proofs.Entries.{count-is}
use Rattle.soundness.proofs.Forms.{nothing-at, nothing-behind}
use Rattle.soundness.proofs.Line.{line_at}
use Rattle.clauses.specs.Clauses.{broken_form, broken_contents, broken_clause}

-- WHAT IS TESTED

-- an access names an entry that exists, by its place
pub names_entry : List ℕ → ℕ → Bool
names_entry r k = within 1 (get_or (head r) 18 0) (access_at r k).entry

pub names-all : (r : List ℕ) → every (λ (x : Access). within 1 (length (read_row r).entries) x.entry) (read_row r).accesses ≡ every (names_entry r) (order_line r)
unfolding read_row names_entry
names-all r = rw (every_map, count-is r)

-- along the line
module _ (r : List ℕ) (i k : ℕ) (l : i < length (order_line r)) (e : k ≡ get_or (line_room r) i 0) where
  here : get_or (order_line r) i 0 ≡ k
  here = line_at r i l ∙ sym e

  pub names_at : names_entry r (get_or (order_line r) i 0) ≡ within 1 (get_or (head r) 18 0) (access_at r k).entry
  unfolding names_entry
  names_at = rw here

  pub marked-at : policy_marked r (get_or (order_line r) i 0) ≡ eqb (get_or (first_block (place r k)) 4 0) (pick (leb 1 (get_or (first_block (place r k)) 5 0)) 1 0)
  unfolding policy_marked
  marked-at = rw here

  pub ordered_at : policies_in_order r (get_or (order_line r) i 0) ≡ policies_in_order r k
  ordered_at = rw here

-- the policies of one access; in form 1 there is no second block
module _ (r : List ℕ) (k : ℕ) where
  pub order-none : length (second_block (place r k)) ≡ 0 → true ≡ policies_in_order r k
  unfolding policies_in_order
  order-none z = sym (both (nothing-behind _ _ (nothing-at (second_block (place r k)) 3 z)) (nothing-behind _ _ (nothing-at (second_block (place r k)) 4 z)))

  pub order-out : only_behind (get_or (second_block (place r k)) 3 0) (get_or (first_block (place r k)) 5 0) ≡ false → false ≡ policies_in_order r k
  unfolding policies_in_order
  order-out e = rw e

  pub order-last : only_behind (get_or (second_block (place r k)) 3 0) (get_or (first_block (place r k)) 5 0) ≡ true
      → only_behind (get_or (second_block (place r k)) 4 0) (get_or (second_block (place r k)) 3 0) ≡ policies_in_order r k
  unfolding policies_in_order
  order-last e = rw e

-- the entries
pub entries-read : (r : List ℕ) (n : ℕ) → n ≡ get_or (head r) 18 0 → (read_row r).entries ≡ read_entries n (entries_room r)
unfolding read_row
entries-read r n e = rw e

-- THE FORM AND THE SUMS

module _ (r : List ℕ) (row : is_row r ≡ true) where
  pub breaks-1 : head_form (head r) ≡ false → 1 ≡ broken_form r
  unfolding broken_form first_of require pick
  breaks-1 h = rw (row, h)

  module _ (h : head_form (head r) ≡ true) where
    pub breaks-2 : entries_form (get_or (head r) 18 0) (part (head r) 32 416) ≡ false → 2 ≡ broken_form r
    unfolding broken_form first_of require pick
    breaks-2 e = rw (row, h, e)

    module _ (e : entries_form (get_or (head r) 18 0) (part (head r) 32 416) ≡ true) where
      pub breaks-3 : every (place_form r) places ≡ false → 3 ≡ broken_form r
      unfolding broken_form first_of require pick
      breaks-3 p = rw (row, h, e, p)

      module _ (p : every (place_form r) places ≡ true) where
        pub breaks-4 : sums_agree (head r) && every (place_sums r) places ≡ false → 4 ≡ broken_form r
        unfolding broken_form first_of require pick
        breaks-4 s = rw (row, h, e, p, s)

        pub form-kept : sums_agree (head r) && every (place_sums r) places ≡ true → 0 ≡ broken_form r
        unfolding broken_form first_of require pick
        form-kept s = rw (row, h, e, p, s)

pub form-holds : (r : List ℕ) → broken_form r ≡ 0 → (head_form (head r) ≡ true) × (entries_form (get_or (head r) 18 0) (part (head r) 32 416) ≡ true)
unfolding broken_form
form-holds r z =
    let a : Bool = is_row r && head_form (head r) in
    let b : Bool = entries_form (get_or (head r) 18 0) (part (head r) 32 416) in
    let z1 = others-pass (require a 1) _ z in (
      and_right (is_row r) (head_form (head r)) (passed a 1 (omega arith) (first_passes (require a 1) _ z)),
      passed b 2 (omega arith) (first_passes (require b 2) _ z1),
    )

-- THE CONTENTS

module _ (r : List ℕ) (n : ℕ) (room : List ℕ) (same-n : n ≡ get_or (head r) 18 0) (same-room : room ≡ entries_room r) where
  read : (read_row r).entries ≡ read_entries n room
  read = entries-read r n same-n ∙ ap (read_entries n) (sym same-room)

  pub entries-form-said : entries_form (get_or (head r) 18 0) (entries_room r) ≡ true → entries_form n room ≡ true
  entries-form-said h = rw (same-n, same-room) h

  pub labels-are : distinct same_label (labels (read_row r).entries) ≡ distinct same_label (labels (read_entries n room))
  labels-are = ap (λ es. distinct same_label (labels es)) read

  limits-are : sum_of (limits (read_row r).entries) ≡ sum_of (limits (read_entries n room))
  limits-are = ap (λ es. sum_of (limits es)) read

  pub limits-over : 8 < sum_of (limits (read_entries n room)) → leb (sum_of (limits (read_row r).entries)) 8 ≡ false
  limits-over h = rw limits-are (lt-leb (sum_of (limits (read_entries n room))) 8 h)

  pub limits-fit : sum_of (limits (read_entries n room)) ≤ 8 → leb (sum_of (limits (read_row r).entries)) 8 ≡ true
  limits-fit h = rw limits-are (le-leb (sum_of (limits (read_entries n room))) 8 h)

module _ (r : List ℕ) where
  pub breaks-5 : line_exact r ≡ false → 5 ≡ broken_contents r
  unfolding broken_contents first_of require pick
  breaks-5 a = rw a

  module _ (a : line_exact r ≡ true) where
    pub breaks-6 : distinct same_label (labels (read_row r).entries) ≡ false → 6 ≡ broken_contents r
    unfolding broken_contents first_of require pick
    breaks-6 b = rw (a, b)

    module _ (b : distinct same_label (labels (read_row r).entries) ≡ true) where
      pub breaks-7 : leb (sum_of (limits (read_row r).entries)) 8 ≡ false → 7 ≡ broken_contents r
      unfolding broken_contents first_of require pick
      breaks-7 c = rw (a, b, c)

      module _ (c : leb (sum_of (limits (read_row r).entries)) 8 ≡ true) where
        pub breaks-8 : distinct same (sessions (read_row r).accesses) ≡ false → 8 ≡ broken_contents r
        unfolding broken_contents first_of require pick
        breaks-8 d = rw (a, b, c, d)

        module _ (d : distinct same (sessions (read_row r).accesses) ≡ true) where
          pub breaks-9 : every (λ (x : Access). within 1 (length (read_row r).entries) x.entry) (read_row r).accesses ≡ false → 9 ≡ broken_contents r
          unfolding broken_contents first_of require pick
          breaks-9 e = rw (a, b, c, d, e)

          module _ (e : every (λ (x : Access). within 1 (length (read_row r).entries) x.entry) (read_row r).accesses ≡ true) where
            pub breaks-10 : under_limits 1 (limits (read_row r).entries) (read_row r).accesses ≡ false → 10 ≡ broken_contents r
            unfolding broken_contents first_of require pick
            breaks-10 f = rw (a, b, c, d, e, f)

            module _ (f : under_limits 1 (limits (read_row r).entries) (read_row r).accesses ≡ true) where
              pub breaks-11 : every (policy_marked r) (order_line r) ≡ false → 11 ≡ broken_contents r
              unfolding broken_contents first_of require pick
              breaks-11 g = rw (a, b, c, d, e, f, g)

              module _ (g : every (policy_marked r) (order_line r) ≡ true) where
                pub breaks-12 : every (policies_in_order r) (order_line r) ≡ false → 12 ≡ broken_contents r
                unfolding broken_contents first_of require pick
                breaks-12 h = rw (a, b, c, d, e, f, g, h)

                pub contents-kept : every (policies_in_order r) (order_line r) ≡ true → 0 ≡ broken_contents r
                unfolding broken_contents first_of require pick
                contents-kept h = rw (a, b, c, d, e, f, g, h)

-- A ROW

pub form-first : (r : List ℕ) → 1 ≤ broken_form r → broken_form r ≡ broken_clause r
unfolding broken_clause first_of pick
form-first r h = rw (ne_eqb (broken_form r) 0 (λ z. omega arith))

contents-last : (n : ℕ) → n ≡ first_of (n ∷ [])
unfolding first_of pick
contents-last n = by-test (eqb n 0) (λ e. rw e (eqb-true n 0 e)) (λ e. rw e)

pub form-then : (r : List ℕ) → broken_form r ≡ 0 → broken_contents r ≡ broken_clause r
unfolding broken_clause first_of pick
form-then r z = rw (eq-eqb (broken_form r) 0 z) (contents-last (broken_contents r))

-- no code is given exactly where all tests pass
both_zero : (m n : ℕ) → eqb (first_of (m ∷ n ∷ [])) 0 ≡ eqb m 0 && eqb n 0
unfolding first_of pick
both_zero m n = by-test (eqb m 0) (λ e. rw e (ap (λ (k : ℕ). eqb k 0) (sym (contents-last n)))) (λ e. rw (e, e))

four : (a b c d : Bool) → eqb (first_of (require a 1 ∷ require b 2 ∷ require c 3 ∷ require d 4 ∷ [])) 0 ≡ a && (b && (c && d))
unfolding first_of require pick
four false b c d = refl
four true false c d = refl
four true true false d = refl
four true true true false = refl
four true true true true = refl

eight : (a b c d e f g h : Bool)
    → eqb (first_of (require a 5 ∷ require b 6 ∷ require c 7 ∷ require d 8 ∷ require e 9 ∷ require f 10 ∷ require g 11 ∷ require h 12 ∷ [])) 0
    ≡ a && (b && (c && (d && (e && (f && (g && h))))))
unfolding first_of require pick
eight false b c d e f g h = refl
eight true false c d e f g h = refl
eight true true false d e f g h = refl
eight true true true false e f g h = refl
eight true true true true false f g h = refl
eight true true true true true false g h = refl
eight true true true true true true false h = refl
eight true true true true true true true false = refl
eight true true true true true true true true = refl

regroup : (a b c d e f : Bool) → ((a && b) && (c && (d && e))) && f ≡ (a && (b && (c && d))) && (e && f)
regroup false b c d e f = refl
regroup true false c d e f = refl
regroup true true false d e f = refl
regroup true true true false e f = refl
regroup true true true true e f = refl

-- no clause is broken exactly by a sound row
pub unbroken : (r : List ℕ) → eqb (broken_clause r) 0 ≡ sound r
unfolding broken_clause broken_form broken_contents sound has_form
unbroken r =
    let entries : Bool = entries_form (get_or (head r) 18 0) (part (head r) 32 416) in
    both_zero (broken_form r) (broken_contents r)
    ∙ rw four (regroup (is_row r) (head_form (head r)) entries (every (place_form r) places) (sums_agree (head r) && every (place_sums r) places) (eqb (broken_contents r) 0)
    ∙ rw eight)
