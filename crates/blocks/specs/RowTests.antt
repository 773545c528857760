-- The clauses of a sound row, block by block, as the code tests them. That together they are the paper's is `sound-by`
-- of proofs/Tested.
use Rattle.std.specs.Prelude.{Bool, ◌&&◌, List, ℕ, eqb, leb, get_or}
use Rattle.octets.specs.Choice.{pick, within}
use Rattle.octets.specs.Lists.{distinct, sum_of}
use Rattle.octets.specs.Texts.{part, all_zero}
use Rattle.table.specs.TheTable.{first_block, form_of, head, place, read_row, second_block}
use Rattle.table.specs.Soundness.{access_form, entries_form, head_form, in_use, labels, limits, of_blocks, only_behind, same_label, second_form, sums_agree}

-- The first block of a place in use, where the subscriber has n entries: its form; its policy is marked where it has bytes; its entry is one of
-- the n; its sums agree.
unfoldable pub access_sound : ℕ → List ℕ → Bool
access_sound n b =
    access_form b && (eqb (get_or b 4 0) (pick (leb 1 (get_or b 5 0)) 1 0)
    && (within 1 n (get_or b 1 0) && sums_agree b))

-- Its second block, where the first policy has so many bytes: its form; no policy behind one that is not there; its sums agree.
unfoldable pub second_sound : List ℕ → (first : ℕ) → Bool
second_sound c first =
    second_form c && (only_behind (get_or c 3 0) first && (only_behind (get_or c 4 0) (get_or c 3 0) && sums_agree c))

-- A place of a row. A free one is zero, and the sums of a zero block agree.
unfoldable pub place_sound : ℕ → List ℕ → ℕ → Bool
place_sound n r k =
    pick (in_use r k)
    (of_blocks (form_of r) (access_sound n (first_block (place r k))) (second_sound (second_block (place r k)) (get_or (first_block (place r k)) 5 0)))
    (all_zero (place r k))

-- Block 0 but for its sums and for what its order line says: its form, the entries' form, their labels and limits.
unfoldable pub head_sound : List ℕ → Bool
head_sound r =
    head_form (head r) && (entries_form (get_or (head r) 18 0) (part (head r) 32 416)
    && (distinct same_label (labels (read_row r).entries) && leb (sum_of (limits (read_row r).entries)) 8))
