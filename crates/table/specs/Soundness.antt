-- The table: when a row is sound. Clause by clause, in the paper's order.
use Rattle.std.specs.Prelude.{Bool, true, ◌&&◌, List, [], ◌∷◌, map, ℕ, zero, suc, ◌+◌, ◌-◌, ◌/◌, ◌%◌, ◌^◌, eqb, leb, length, get_or, take, drop}
use Rattle.octets.specs.Choice.{pick, within}
use Rattle.octets.specs.Lists.{every, keep, distinct, sum_of, up_to0}
use Rattle.octets.specs.Texts.{part, same, all_zero}
use Rattle.table.specs.TheTable.{sums, Entry, Access, Subscriber, is_form, form_of, places, used_bits, row_length, head, place, first_block, second_block, order_line, read_row}

-- THE FORM

-- A room of bytes holds n bytes of text, and zeros behind them.
unfoldable pub zero_behind : ℕ → List ℕ → Bool
zero_behind n room = all_zero (drop n room)

unfoldable pub is_digit : ℕ → Bool
is_digit d = within 48 57 d

-- A name: 1 to 15 ASCII decimal digits.
unfoldable pub is_name : List ℕ → Bool
is_name n = within 1 15 (length n) && every is_digit n

-- Block 0: byte 0 is 1; the name's length 1 to 15, digits, zeros behind them; at most 4 entries; an operator of at most 15;
-- zeros behind the places on the order line; bytes 28 to 31 and 448 to 509 zero.
unfoldable pub head_form : List ℕ → Bool
head_form b =
    eqb (get_or b 0 0) 1 && (is_name (part b 2 (get_or b 1 0)) && (zero_behind (get_or b 1 0) (part b 2 15)
    && (leb (get_or b 18 0) 4 && (leb (get_or b 19 0) 15 && (zero_behind (length (up_to0 (part b 20 8))) (part b 20 8)
    && (all_zero (part b 28 4) && all_zero (part b 448 62)))))))

-- An entry of 104 bytes: length 1 to 100, zeros behind the label, flags 0 to 3, limit 1 to 8, zero.
unfoldable pub entry_form : List ℕ → Bool
entry_form b =
    within 1 100 (get_or b 0 0) && (zero_behind (get_or b 0 0) (part b 1 100)
    && (leb (get_or b 101 0) 3 && (within 1 8 (get_or b 102 0) && eqb (get_or b 103 0) 0)))

-- The first n entries have this form, and the bytes of the others are zero.
unfoldable pub entries_form : ℕ → List ℕ → Bool
entries_form zero b = all_zero b
entries_form (suc n) b = entry_form (take 104 b) && entries_form n (drop 104 b)

-- Bit k of byte 17 says whether place k + 1 is in use.
unfoldable pub in_use : List ℕ → ℕ → Bool
in_use r k = eqb (get_or (head r) 17 0 / 2 ^ (k - 1) % 2) 1

-- The first block of a place in use: byte 0 is 2; lengths of Session-Id and host 1 to 128, of the first policy at most 128; byte 4 is
-- 0 or 1; bytes 6 and 7 zero; zeros behind each text; bytes 392 to 509 zero.
unfoldable pub access_form : List ℕ → Bool
access_form b =
    eqb (get_or b 0 0) 2 && (within 1 128 (get_or b 2 0) && (within 1 128 (get_or b 3 0) && (leb (get_or b 5 0) 128
    && (leb (get_or b 4 0) 1 && (all_zero (part b 6 2) && (zero_behind (get_or b 2 0) (part b 8 128)
    && (zero_behind (get_or b 3 0) (part b 136 128) && (zero_behind (get_or b 5 0) (part b 264 128) && all_zero (part b 392 118)))))))))

-- The second block of a place in use: byte 0 is 3; the realm's length and those of the second and the third policy at most 128; byte 2 zero,
-- bytes 5 to 7 zero; zeros behind each text; bytes 392 to 509 zero.
unfoldable pub second_form : List ℕ → Bool
second_form b =
    eqb (get_or b 0 0) 3 && (leb (get_or b 1 0) 128 && (leb (get_or b 3 0) 128 && (leb (get_or b 4 0) 128
    && (eqb (get_or b 2 0) 0 && (all_zero (part b 5 3) && (zero_behind (get_or b 1 0) (part b 8 128)
    && (zero_behind (get_or b 3 0) (part b 136 128) && (zero_behind (get_or b 4 0) (part b 264 128) && all_zero (part b 392 118)))))))))

-- What is asked of both blocks of a place; in form 1, which has no second, of the first alone.
unfoldable pub of_blocks : (form : ℕ) → (first second : Bool) → Bool
of_blocks f first second = first && pick (eqb f 2) second true

-- A free place is wholly zero.
unfoldable pub place_form : List ℕ → ℕ → Bool
place_form r k =
    let p : List ℕ = place r k in
    pick (in_use r k) (of_blocks (form_of r) (access_form (first_block p)) (second_form (second_block p))) (all_zero p)

-- The length is that of a row of form 1 or 2.
unfoldable pub is_row : List ℕ → Bool
is_row r = is_form (form_of r) && eqb (length r) (row_length (form_of r))

unfoldable pub has_form : List ℕ → Bool
has_form r =
    is_row r && (head_form (head r) && (entries_form (get_or (head r) 18 0) (part (head r) 32 416)
    && every (place_form r) places))

-- THE SUMS

-- Bytes 510 and 511 of a block are the second and first sum of its bytes 0 to 509.
unfoldable pub sums_agree : List ℕ → Bool
sums_agree b = same (part b 510 2) (sums (take 510 b))

-- So in each block of a place.
unfoldable pub place_sums : List ℕ → ℕ → Bool
place_sums r k = let p : List ℕ = place r k in of_blocks (form_of r) (sums_agree (first_block p)) (sums_agree (second_block p))

-- THE CONTENTS

-- The order line is the places in use, none left out and none twice: its numbers are places, all differ, and byte 17 is
-- the number with just their bits.
unfoldable pub line_exact : List ℕ → Bool
line_exact r =
    every (within 1 8) (order_line r) && (distinct eqb (order_line r) && eqb (get_or (head r) 17 0) (used_bits (order_line r)))

-- The 26 ASCII letters A to Z (41 to 5A) in lower case (61 to 7A); any other byte as it is.
unfoldable pub lower_case : ℕ → ℕ
lower_case x = pick (within 65 90 x) (x + 32) x

-- When two labels are the same: equal byte by byte, a letter in either case. Nothing else is compared so.
unfoldable pub same_label : List ℕ → List ℕ → Bool
same_label a b = same (map lower_case a) (map lower_case b)

unfoldable pub labels : List Entry → List (List ℕ)
labels es = map (λ (e : Entry). e.label) es

unfoldable pub limits : List Entry → List ℕ
limits es = map (λ (e : Entry). e.limit) es

unfoldable pub sessions : List Access → List (List ℕ)
sessions a = map (λ (x : Access). x.session) a

-- The accesses on entry n, first opened first.
unfoldable pub on_entry : ℕ → List Access → List Access
on_entry n a = keep (λ (x : Access). eqb x.entry n) a

-- No entry has more accesses than its limit; entries are counted from n.
unfoldable pub under_limits : ℕ → List ℕ → List Access → Bool
under_limits n [] a = true
under_limits n (l ∷ ls) a = leb (length (on_entry n a)) l && under_limits (suc n) ls a

-- The mark of a policy, byte 4, is 1 where the first policy has bytes (its length is byte 5), and 0 where it has none.
unfoldable pub policy_marked : List ℕ → ℕ → Bool
policy_marked r k = let b : List ℕ = first_block (place r k) in eqb (get_or b 4 0) (pick (leb 1 (get_or b 5 0)) 1 0)

-- A text of n bytes only behind one that has some.
unfoldable pub only_behind : (n before : ℕ) → Bool
only_behind n before = pick (leb 1 n) (leb 1 before) true

-- No second policy without a first, no third without a second.
unfoldable pub policies_in_order : List ℕ → ℕ → Bool
policies_in_order r k =
    let b : List ℕ = first_block (place r k) in
    let c : List ℕ = second_block (place r k) in
    only_behind (get_or c 3 0) (get_or b 5 0) && only_behind (get_or c 4 0) (get_or c 3 0)

-- A ROW IS SOUND

-- The bytes have the form above, and the sums of each block are those of its bytes. Then what they say has to hold together: the
-- line is the places in use; no two labels are the same, and the limits come to 8 or less; no two accesses have one
-- Session-Id, the entry of each is there, and no entry has more of them than its limit allows; a policy is marked where it has bytes, and
-- none stands behind one that is not there.
unfoldable pub sound : List ℕ → Bool
sound r =
    let says : Subscriber = read_row r in
    has_form r
    && ((sums_agree (head r) && every (place_sums r) places)
    && (line_exact r
    && (distinct same_label (labels says.entries)
    && (leb (sum_of (limits says.entries)) 8
    && (distinct same (sessions says.accesses)
    && (every (λ (x : Access). within 1 (length says.entries) x.entry) says.accesses
    && (under_limits 1 (limits says.entries) says.accesses
    && (every (policy_marked r) (order_line r)
    && every (policies_in_order r) (order_line r)))))))))
