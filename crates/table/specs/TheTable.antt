-- The table: its rows, what a row says, the bytes of a row, and how a subscriber's row is found.
use Rattle.std.specs.Prelude.{Bool, true, false, ◌&&◌, List, [], ◌∷◌, ◌++◌, map, ℕ, zero, suc, ◌+◌, ◌-◌, ◌*◌, ◌/◌, ◌%◌, eqb, leb, length, get_or, take, drop}
use Rattle.octets.specs.Choice.{first_of, pick, require, within}
use Rattle.octets.specs.Lists.{counted, is_on, keep, up_to0}
use Rattle.octets.specs.Texts.{part, pieces, zeros, filled, same, put}

-- THE SUMS

-- Fletcher-16: two remainders by 255, 0 to begin with. Each byte goes into the first, and what the first then is into the
-- second. The second stands before the first.
unfoldable pub sums_from : ℕ → ℕ → List ℕ → List ℕ
sums_from first second [] = second ∷ first ∷ []
sums_from first second (b ∷ bs) = sums_from ((first + b) % 255) ((second + (first + b) % 255) % 255) bs

abbrev pub sums : List ℕ → List ℕ
sums s = sums_from 0 0 s

-- A block: 510 bytes and their sums.
unfoldable pub sealed : List ℕ → List ℕ
sealed s = s ++ sums s

-- THE FORMS

-- How long a block is, with its sums.
abbrev pub block_length : ℕ
block_length = 512

-- A table has form 1 or form 2 (W5), and the caller says which. In form f a place has f blocks of 512 bytes. A row is block 0 and eight
-- places: 4,608 bytes in form 1, 8,704 in form 2.
unfoldable pub is_form : ℕ → Bool
is_form f = within 1 2 f

abbrev pub place_length : (form : ℕ) → ℕ
place_length f = block_length * f

unfoldable pub row_length : (form : ℕ) → ℕ
row_length f = block_length + 8 * place_length f

-- The form of a row is told by its length.
unfoldable pub form_of : List ℕ → ℕ
form_of r = (length r - block_length) / (8 * place_length 1)

-- WHAT A ROW SAYS

-- A W-APN entry. Flag 1 is barred, flag 2 may roam.
pub record Entry : Type 0 where
  pub label : List ℕ
  pub flags : ℕ
  pub limit : ℕ

unfoldable pub barred : Entry → Bool
barred e = eqb (e.flags % 2) 1

unfoldable pub may_roam : Entry → Bool
may_roam e = eqb (e.flags / 2 % 2) 1

-- The routing policies of an access, in order; no bytes where there is none. Form 1 holds the first alone.
pub record Policies : Type 0 where
  pub first : List ℕ
  pub second : List ℕ
  pub third : List ℕ

-- An access: its place 1 to 8, the number of its entry counted from 1, Session-Id, host and realm of its gateway (no realm
-- in form 1), and its policies.
pub record Access : Type 0 where
  pub place : ℕ
  pub entry : ℕ
  pub session : List ℕ
  pub host : List ℕ
  pub realm : List ℕ
  pub policies : Policies

-- Whose a row is: the operator that the account is of, 0 to 15, and the name.
pub record Account : Type 0 where
  pub operator : ℕ
  pub name : List ℕ

-- A subscriber. The accesses stand in the order in which they were opened, first opened first.
pub record Subscriber : Type 0 where
  pub operator : ℕ
  pub name : List ℕ
  pub entries : List Entry
  pub accesses : List Access

unfoldable pub places : List ℕ
places = counted 1 8

-- The order line: the places of the accesses, first opened first.
unfoldable pub line : List Access → List ℕ
line a = map (λ (x : Access). x.place) a

-- THE BYTES OF A ROW

-- An entry: the label's length, 100 bytes for the label, flags, limit, zero.
unfoldable pub entry_bytes : Entry → List ℕ
entry_bytes e = length e.label ∷ filled e.label 100 ++ (e.flags ∷ e.limit ∷ 0 ∷ [])

unfoldable pub entries_bytes : List Entry → List ℕ
entries_bytes [] = []
entries_bytes (e ∷ es) = entry_bytes e ++ entries_bytes es

-- A byte from its bits, lowest first.
unfoldable pub from_bits : List Bool → ℕ
from_bits [] = 0
from_bits (b ∷ bs) = pick b 1 0 + 2 * from_bits bs

-- Byte 17: bit k is set exactly if place k + 1 is in use.
unfoldable pub used_bits : List ℕ → ℕ
used_bits l = from_bits (map (is_on l) places)

-- Block 0: 1; the name's length and 15 bytes for the name; the places in use; the number of entries; the operator;
-- the order line in 8 bytes; 4 zeros; four entries of 104 bytes; zeros; the sums.
unfoldable pub head_bytes : Subscriber → List ℕ
head_bytes s =
    sealed (1 ∷ length s.name ∷ filled s.name 15
    ++ (used_bits (line s.accesses) ∷ length s.entries ∷ s.operator ∷ filled (line s.accesses) 8
    ++ (zeros 4 ++ (filled (entries_bytes s.entries) 416 ++ zeros 62))))

-- Byte 4 of a place: 1 if a policy is held, else 0.
unfoldable pub held : List ℕ → ℕ
held [] = 0
held (x ∷ xs) = 1

-- The first block of an access: 2; its entry's number; the lengths of Session-Id and host; whether a policy is held, and the length of
-- the first; 2 zeros; Session-Id, host and first policy in 128 bytes each; zeros; the sums.
unfoldable pub first_bytes : Access → List ℕ
first_bytes a =
    sealed (2 ∷ a.entry ∷ length a.session ∷ length a.host ∷ held a.policies.first ∷ length a.policies.first ∷ 0 ∷ 0
    ∷ filled a.session 128 ++ (filled a.host 128 ++ (filled a.policies.first 128 ++ zeros 118)))

-- Its second block: 3; the length of the realm; zero; the lengths of the second and the third policy; 3 zeros; the realm and these two
-- policies in 128 bytes each; zeros; the sums.
unfoldable pub second_bytes : Access → List ℕ
second_bytes a =
    sealed (3 ∷ length a.realm ∷ 0 ∷ length a.policies.second ∷ length a.policies.third ∷ 0 ∷ 0 ∷ 0
    ∷ filled a.realm 128 ++ (filled a.policies.second 128 ++ (filled a.policies.third 128 ++ zeros 118)))

-- An access in its place, which ends behind the first block in form 1 and behind the second in form 2.
unfoldable pub access_bytes : (form : ℕ) → Access → List ℕ
access_bytes f a = filled (first_bytes a ++ second_bytes a) (place_length f)

-- Place k: that of its access; a free place is wholly zero.
unfoldable pub place_bytes : (form : ℕ) → List Access → ℕ → List ℕ
place_bytes f [] k = zeros (place_length f)
place_bytes f (a ∷ r) k = pick (eqb a.place k) (access_bytes f a) (place_bytes f r k)

unfoldable pub places_bytes : (form : ℕ) → List Access → List ℕ → List ℕ
places_bytes f a [] = []
places_bytes f a (k ∷ ks) = place_bytes f a k ++ places_bytes f a ks

-- A row: block 0, and the places 1 to 8.
unfoldable pub row_bytes : (form : ℕ) → Subscriber → List ℕ
row_bytes f s = head_bytes s ++ places_bytes f s.accesses places

-- READING A ROW

-- Block 0, and place k behind it.
abbrev pub head : List ℕ → List ℕ
head r = take block_length r

abbrev pub place_start : (form k : ℕ) → ℕ
place_start f k = block_length + place_length f * (k - 1)

unfoldable pub place : List ℕ → ℕ → List ℕ
place r k = part r (place_start (form_of r) k) (place_length (form_of r))

-- The first block of a place; and the second, of which form 1 has no byte.
abbrev pub first_block : List ℕ → List ℕ
first_block p = take block_length p

abbrev pub second_block : List ℕ → List ℕ
second_block p = drop block_length p

unfoldable pub read_entry : List ℕ → Entry
read_entry b = record { label = part b 1 (get_or b 0 0); flags = get_or b 101 0; limit = get_or b 102 0 }

unfoldable pub read_entries : ℕ → List ℕ → List Entry
read_entries zero b = []
read_entries (suc n) b = read_entry (take 104 b) ∷ read_entries n (drop 104 b)

-- From the two blocks of its place.
unfoldable pub read_access : (k : ℕ) → (first second : List ℕ) → Access
read_access k b c =
    record {
      place = k;
      entry = get_or b 1 0;
      session = part b 8 (get_or b 2 0);
      host = part b 136 (get_or b 3 0);
      realm = part c 8 (get_or c 1 0);
      policies = record { first = part b 264 (get_or b 5 0); second = part c 136 (get_or c 3 0); third = part c 264 (get_or c 4 0) };
    }

unfoldable pub access_at : List ℕ → ℕ → Access
access_at r k = read_access k (first_block (place r k)) (second_block (place r k))

-- The rooms of the order line, bytes 20 to 27, and of the entries.
abbrev pub line_room : List ℕ → List ℕ
line_room r = part (head r) 20 8

abbrev pub entries_room : List ℕ → List ℕ
entries_room r = part (head r) 32 416

-- The places on the order line, up to the first zero.
unfoldable pub order_line : List ℕ → List ℕ
order_line r = up_to0 (line_room r)

-- What the bytes say, by the layout above.
unfoldable pub read_row : List ℕ → Subscriber
read_row r =
    record {
      operator = get_or (head r) 19 0;
      name = part (head r) 2 (get_or (head r) 1 0);
      entries = read_entries (get_or (head r) 18 0) (entries_room r);
      accesses = map (access_at r) (order_line r);
    }

-- A TABLE AND ITS ROWS

-- A table, as it is lent: its form and its bytes.
pub record Table : Type 0 where
  pub form : ℕ
  pub bytes : List ℕ

abbrev pub width : Table → ℕ
width t = row_length t.form

-- The most rows that a table may have.
abbrev pub most_rows : ℕ
most_rows = 1024

-- Number 1: there is no such form, or the table has not 1 to 1,024 rows of it and nothing behind them.
unfoldable pub table_number : Table → ℕ
table_number t = require (is_form t.form && (eqb (length t.bytes % width t) 0 && within 1 most_rows (length t.bytes / width t))) 1

-- The first numbers of every call that brings an operator: 1, then 33, an operator over 15.
unfoldable pub first_number : Table → (operator : ℕ) → ℕ
first_number t o = first_of (table_number t ∷ require (leb o 15) 33 ∷ [])

-- The rows, one behind another.
unfoldable pub rows : Table → List (List ℕ)
rows t = pieces (width t) (length t.bytes / width t) t.bytes

-- Row i, counted from 0, and the table with another row there.
unfoldable pub row_at : Table → ℕ → List ℕ
row_at t i = part t.bytes (width t * i) (width t)

unfoldable pub with_row : Table → ℕ → List ℕ → Table
with_row t i r = record { form = t.form; bytes = put t.bytes (width t * i) r }

-- THE LOOKUP

-- What the lookup reads of a row: the operator, byte 19; byte 0, the name's length and the room of the name.
unfoldable pub found_by : List ℕ → List ℕ
found_by r = get_or r 19 0 ∷ take 17 r

-- When a row is found by a name: byte 0 is 1, byte 1 is 1 to 15 and the name's length, and the name's bytes follow.
unfoldable pub has_name : (name r : List ℕ) → Bool
has_name name r =
    eqb (get_or r 0 0) 1 && (within 1 15 (get_or r 1 0) && (eqb (get_or r 1 0) (length name) && same (part r 2 (length name)) name))

-- A row is that of an account only if both match, the operator and the name.
unfoldable pub is_row_of : Account → List ℕ → Bool
is_row_of a r = eqb (get_or r 19 0) a.operator && has_name a.name r

-- An operator's rows: byte 0 is 1 and byte 19 the operator's number, sound or not.
unfoldable pub is_own : (operator : ℕ) → List ℕ → Bool
is_own o r = eqb (get_or r 0 0) 1 && eqb (get_or r 19 0) o

unfoldable pub own_rows : (operator : ℕ) → Table → List (List ℕ)
own_rows o t = keep (is_own o) (rows t)

-- The first row that passes a test.
pub data Found : Type 0 where
  row : ℕ → Found
  nothing : Found

unfoldable pub later : Found → Found
later (row i) = row (suc i)
later nothing = nothing

unfoldable pub first_row : (List ℕ → Bool) → List (List ℕ) → Found
first_row f [] = nothing
first_row f (r ∷ rs) = let others : Found = later (first_row f rs) in pick (f r) (row 0) others

-- A subscriber's row is the first that is found by operator and name, sound or not.
unfoldable pub lookup : Table → Account → Found
lookup t a = first_row (is_row_of a) (rows t)

unfoldable pub is_found : Found → Bool
is_found (row i) = true
is_found nothing = false
