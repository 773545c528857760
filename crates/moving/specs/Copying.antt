-- How a row is moved without its texts being read: block 0 does not depend on the form, nor does the first block of a place. So they are
-- copied, and what form 2 has behind a first block is one of two constants. That this is `moved_row` is `moved-copied` of proofs/Copies.
use Rattle.std.specs.Prelude.{List, [], ◌∷◌, ◌++◌, map, ℕ, eqb, get_or}
use Rattle.octets.specs.Choice.{pick}
use Rattle.octets.specs.Texts.{filled, zeros}
use Rattle.table.specs.TheTable.{block_length, first_block, head, place, place_length, places}
use Rattle.moving.specs.Moving.{joined_rows}

-- The second block of an access without a realm and without further policies: 3, zeros, and the sums, 0 and 3.
unfoldable pub plain_second : List ℕ
plain_second = 3 ∷ zeros 510 ++ (3 ∷ [])

-- What stands behind a first block: that, where it is an access's; zeros behind that of a free place.
unfoldable pub behind_first : (first : List ℕ) → List ℕ
behind_first b = pick (eqb (get_or b 0 0) 2) plain_second (zeros block_length)

-- A place of w bytes from its first block.
unfoldable pub copied_place : (w : ℕ) → (first : List ℕ) → List ℕ
copied_place w b = filled (b ++ behind_first b) w

unfoldable pub copied_places : (w : ℕ) → List ℕ → List ℕ
copied_places w r = joined_rows (map (λ (k : ℕ). copied_place w (first_block (place r k))) places)

unfoldable pub copied_row : (to : ℕ) → List ℕ → List ℕ
copied_row to r = head r ++ copied_places (place_length to) r
