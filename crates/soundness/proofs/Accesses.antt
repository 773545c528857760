-- The accesses along an exact order line, read from the row.
use mathlib.Core.Path.{◌≡◌, refl, sym, ap, ◌∙◌}
use mathlib.Core.Bool.{Bool, true, false, ◌&&◌}
use mathlib.Core.List.{List, [], ◌∷◌, map}
use Prim.Native.Nat.{ℕ, suc, ◌+◌, ◌*◌, ◌≤◌, ◌<◌}
use native.Mathlib.Numerals.{add-one}
use native.Mathlib.Omega.{arith}
use lib.Dec.{eqb, leb}
use lib.ListN.{length, get_or, drop, length-map, drop_of_length-le}
use lib.Seq.{drop-cons}
use Rattle.octets.specs.Choice.{pick}
use Rattle.octets.specs.Lists.{keep}
use Rattle.octets.specs.Texts.{part}
use Rattle.octets.proofs.Lists.{by-test}
use Rattle.table.proofs.Entries.{limits-at, length-limits-read, map_at}
use Rattle.soundness.proofs.Line.{line_at}
use Rattle.table.specs.Soundness.{limits, on_entry, sessions, under_limits}
use Rattle.table.specs.TheTable.{Access, access_at, entries_room, head, line_room, order_line, read_entry, read_row}

-- THE SESSION-IDS

session-of : List ℕ → ℕ → List ℕ
session-of r k = (access_at r k).session

sessions-map : (r l : List ℕ) → sessions (map (access_at r) l) ≡ map (session-of r) l
unfolding sessions session-of
sessions-map r [] = refl
sessions-map r (k ∷ l) = ap (λ (t : List (List ℕ)). (access_at r k).session ∷ t) (sessions-map r l)

sessions-line : (r : List ℕ) → sessions (read_row r).accesses ≡ map (session-of r) (order_line r)
unfolding read_row
sessions-line r = sessions-map r (order_line r)

pub length-sessions : (r : List ℕ) → length (sessions (read_row r).accesses) ≡ length (order_line r)
length-sessions r = ap length (sessions-line r) ∙ simp length-map

-- the i-th Session-Id is that of the place at the line's i-th byte
pub session-at : (r : List ℕ) (i k : ℕ) → i < length (order_line r) → k ≡ get_or (line_room r) i 0
    → (access_at r k).session ≡ get_or (sessions (read_row r).accesses) i []
unfolding session-of
session-at r i k l e =
    sym (ap (λ (t : List (List ℕ)). get_or t i []) (sessions-line r) ∙ map_at (session-of r) 0 [] (order_line r) i l ∙ ap (session-of r) (line_at r i l ∙ sym e))

-- THE ACCESSES ON AN ENTRY

pub is_at : List ℕ → ℕ → ℕ → Bool
is_at r e k = eqb (access_at r k).entry e

on-map : (r : List ℕ) (e : ℕ) (l : List ℕ) → length (on_entry e (map (access_at r) l)) ≡ length (keep (is_at r e) l)
unfolding on_entry keep pick is_at
on-map r e [] = refl
on-map r e (k ∷ l) =
    by-test (eqb (access_at r k).entry e) (λ t. rw t (ap suc (on-map r e l))) (λ t. rw t (on-map r e l))

pub on_line : (r : List ℕ) (e : ℕ) → length (on_entry e (read_row r).accesses) ≡ length (keep (is_at r e) (order_line r))
unfolding read_row
on_line r e = on-map r e (order_line r)

-- whether the i-th access is on entry e
pub at_entry : (r : List ℕ) (i k x e : ℕ) → i < length (order_line r) → k ≡ get_or (line_room r) i 0 → x ≡ (access_at r k).entry
    → is_at r e (get_or (order_line r) i 0) ≡ eqb x e
unfolding is_at
at_entry r i k x e l p s = let place : get_or (order_line r) i 0 ≡ k = line_at r i l ∙ sym p in rw (place, s)

module _ (f : ℕ → Bool) (l : List ℕ) (i : ℕ) where
  pub keep-hit : i < length l → f (get_or l i 0) ≡ true → length (keep f (drop i l)) ≡ suc (length (keep f (drop (i + 1) l)))
  unfolding keep pick
  keep-hit h e = rw (drop-cons l i 0 h, e, add-one)

  pub keep-miss : i < length l → f (get_or l i 0) ≡ false → length (keep f (drop i l)) ≡ length (keep f (drop (i + 1) l))
  unfolding keep pick
  keep-miss h e = rw (drop-cons l i 0 h, e, add-one)

  pub keep-over : length l ≤ i → length (keep f (drop i l)) ≡ 0
  unfolding keep
  keep-over h = rw (drop_of_length-le l h)

-- LIMITS

pub under-turn : (ls : List ℕ) (a : List Access) (i : ℕ) → i < length ls
    → under_limits (i + 1) (drop i ls) a ≡ leb (length (on_entry (i + 1) a)) (get_or ls i 0) && under_limits (i + 1 + 1) (drop (i + 1) ls) a
unfolding under_limits
under-turn ls a i h =
    let q : i + 1 + 1 ≡ suc (i + 1) = omega arith in
    let p : i + 1 ≡ suc i = omega arith in
    rw (drop-cons ls i 0 h, q, p)

pub under-end : (ls : List ℕ) (a : List Access) (n i : ℕ) → length ls ≤ i → under_limits n (drop i ls) a ≡ true
unfolding under_limits
under-end ls a n i h = rw (drop_of_length-le ls h)

pub limit-count : (r : List ℕ) → length (limits (read_row r).entries) ≡ get_or (head r) 18 0
unfolding read_row
limit-count r = length-limits-read (get_or (head r) 18 0) (entries_room r)

-- the limit of entry i + 1
pub limit-at : (r : List ℕ) (i : ℕ) → i < get_or (head r) 18 0 → get_or (limits (read_row r).entries) i 0 ≡ (read_entry (part (entries_room r) (104 * i) 104)).limit
unfolding read_row
limit-at r i h = limits-at (get_or (head r) 18 0) i (entries_room r) h
