-- The places of a row as the code tests them: the first blocks, then the second ones. That together they are `place_sound` is `places-cut` of
-- proofs/Forms.
use Rattle.std.specs.Prelude.{Bool, List, ℕ, get_or}
use Rattle.octets.specs.Choice.{pick}
use Rattle.octets.specs.Texts.{all_zero}
use Rattle.table.specs.TheTable.{first_block, place, second_block}
use Rattle.table.specs.Soundness.{in_use}
use Rattle.blocks.specs.RowTests.{access_sound, second_sound}

-- The first block of a place: that of an access, where the subscriber has n entries, or zero where the place is free.
unfoldable pub first_sound : ℕ → List ℕ → ℕ → Bool
first_sound n r k = pick (in_use r k) (access_sound n (first_block (place r k))) (all_zero (first_block (place r k)))

-- Its second block.
unfoldable pub other_sound : List ℕ → ℕ → Bool
other_sound r k =
    pick (in_use r k) (second_sound (second_block (place r k)) (get_or (first_block (place r k)) 5 0)) (all_zero (second_block (place r k)))
