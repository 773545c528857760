-- How many entries a row has, the size of their room, and what a sound row has.
use mathlib.Core.Path.{◌≡◌, refl}
use mathlib.Core.Bool.{true}
use mathlib.Core.List.{List, [], ◌∷◌}
use Prim.Native.Nat.{ℕ, ◌≤◌}
use native.Mathlib.Omega.{arith}
use borrow.Author.Tests.{eqb-false, eqb-true, leb-true}
use lib.Dec.{eqb}
use lib.ListN.{length, get_or, length-take}
use Rattle.octets.specs.Choice.{within}
use Rattle.octets.specs.Lists.{is_on}
use Rattle.octets.specs.Texts.{part}
use Rattle.octets.proofs.Lists.{by-test, within-high, within_low}
use Rattle.octets.proofs.Texts.{length_part}
use Rattle.table.specs.Soundness.{is_row, sound}
use Rattle.table.specs.TheTable.{block_length, access_at, entries_room, first_block, form_of, head, order_line, place, read_access, read_row, second_block}
use Rattle.table.proofs.Form.{every-on, is-sized, length-read, length-second-of}
use Rattle.table.proofs.Sound.{Blocks, blocks-on, clauses, head_of}
use Rattle.row.proofs.Places.{row-sizes}

pub count-is : (r : List ℕ) → length (read_row r).entries ≡ get_or (head r) 18 0
unfolding read_row
count-is r = length-read (get_or (head r) 18 0) (entries_room r)

pub head-size : (r : List ℕ) → block_length ≤ length r → length (head r) ≡ block_length
head-size r h = rw length-take (omega arith)

pub length-room : (r : List ℕ) → block_length ≤ length r → length (entries_room r) ≡ 416
length-room r h = length_part (head r) 32 416 (omega (arith, head-size r h))

-- a row has block 0
pub row-least : (r : List ℕ) → is_row r ≡ true → block_length ≤ length r
row-least r h = omega (arith, (row-sizes r h).0)

module _ (r : List ℕ) (h : sound r ≡ true) where
  pub row_of : is_row r ≡ true
  row_of = is-sized r (clauses r h).row

  pub least-of : block_length ≤ length r
  least-of = row-least r row_of

  pub most-four : length (read_row r).entries ≤ 4
  most-four = omega (arith, count-is r, (head_of (head r) (clauses r h).head-form).2)

-- WHAT THE SECOND BLOCK OF A PLACE SAYS

module _ (r : List ℕ) (k : ℕ) where
  pub realm-said : part (second_block (place r k)) 8 (get_or (second_block (place r k)) 1 0) ≡ (access_at r k).realm
  unfolding access_at read_access
  realm-said = refl

  pub second-said : part (second_block (place r k)) 136 (get_or (second_block (place r k)) 3 0) ≡ (access_at r k).policies.second
  unfolding access_at read_access
  second-said = refl

  pub third-said : part (second_block (place r k)) 264 (get_or (second_block (place r k)) 4 0) ≡ (access_at r k).policies.third
  unfolding access_at read_access
  third-said = refl

-- THE POLICIES OF AN ACCESS of a sound row end within their rooms

nothing-short : (c : List ℕ) (j : ℕ) → length c ≡ 0 → get_or c j 0 ≤ 128
nothing-short [] j h = omega arith
nothing-short (x ∷ c) j h = absurd (omega arith)

module _ (r : List ℕ) (h : sound r ≡ true) (k : ℕ) (o : is_on (order_line r) k ≡ true) where
  placed : within 1 8 k ≡ true
  placed = every-on (within 1 8) (order_line r) k (clauses r h).line-in o

  blocks : Blocks (form_of r) (place r k)
  blocks = blocks-on r (clauses r h) k placed o

  pub first_short : get_or (first_block (place r k)) 5 0 ≤ 128
  first_short = leb-true _ 128 blocks.first.policy-in

  second-bytes : (j : ℕ) → (form_of r ≡ 2 → get_or (second_block (place r k)) j 0 ≤ 128) → get_or (second_block (place r k)) j 0 ≤ 128
  second-bytes j two =
      by-test (eqb (form_of r) 2)
      (λ e. two (eqb-true _ 2 e))
      (λ e. nothing-short (second_block (place r k)) j
      (omega (arith, eqb-false (form_of r) 2 e, row-sizes r (row_of r h), length-second-of r k (clauses r h).row (within_low 1 8 k placed) (within-high 1 8 k placed))))

  pub realm-short : get_or (second_block (place r k)) 1 0 ≤ 128
  realm-short = second-bytes 1 (λ e. leb-true _ 128 (blocks.second e).realm-in)

  pub second_short : get_or (second_block (place r k)) 3 0 ≤ 128
  second_short = second-bytes 3 (λ e. leb-true _ 128 (blocks.second e).second-in)

  pub third-short : get_or (second_block (place r k)) 4 0 ≤ 128
  third-short = second-bytes 4 (λ e. leb-true _ 128 (blocks.second e).third-in)
