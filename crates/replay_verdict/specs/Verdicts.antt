-- What a record expects of a call (oracle/README.md, *expected*), and when all that the call left is as expected.
use Rattle.std.specs.Prelude.{Result, is_ok, ⊤, Bool, true, false, ◌&&◌, List, [], ◌∷◌, ℕ, zero, suc, ◌+◌, ◌-◌, eqb, leb, ltb, length, get_or, take, drop}
use Rattle.octets.specs.Choice.{pick}
use Rattle.octets.specs.Numbers.{net32}
use Rattle.octets.specs.Texts.{part, same, all_zero}
use Rattle.replay_script.specs.TheScript.{digest_of, as_filled}
use Rattle.replay_verdict.specs.declared.Got.{Got}
use Rattle.replay_verdict.specs.declared.Fault.{Fault}

-- A verdict says that all is as expected.
unfoldable pub agreed : Result ⊤ Fault → Bool
agreed v = is_ok v

-- Where the text at byte a ends, whose length stands before it; past the end of the record where even the length is cut off.
unfoldable pub text_end : List ℕ → ℕ → ℕ
text_end r a = pick (ltb (length r) (a + 4)) (a + 4) (a + 4 + net32 r a)

-- The bytes of that text.
unfoldable pub text_at : List ℕ → ℕ → List ℕ
text_at r a = part r (a + 4) (text_end r a - (a + 4))

-- The four numbers from byte a on are those got on the answer, and those got on the cut.
unfoldable pub answer_numbers : List ℕ → ℕ → Got → Bool
answer_numbers r a g =
    eqb (net32 r a) g.code
    && (eqb (net32 r (a + 4)) g.kind
    && (eqb (net32 r (a + 8)) g.length
    && eqb (net32 r (a + 12)) g.place))

unfoldable pub cut_numbers : List ℕ → ℕ → Got → Bool
cut_numbers r a g =
    eqb (net32 r a) g.cut
    && (eqb (net32 r (a + 4)) g.cut_session
    && (eqb (net32 r (a + 8)) g.cut_host
    && eqb (net32 r (a + 12)) g.cut_realm))

-- A room has the text at its front, and is as before the call behind it.
unfoldable pub room_as : (seed : ℕ) (room text : List ℕ) → Bool
room_as seed room text =
    leb (length text) (length room)
    && (same (take (length text) room) text
    && as_filled seed (length text) (drop (length text) room))

-- The text stands in the table from byte a on.
unfoldable pub stands_at : (table : List ℕ) (a : ℕ) (text : List ℕ) → Bool
stands_at table a text = leb (a + length text) (length table) && same (part table a (length text)) text

-- n changes fill s from byte p on, each a place and a text, and each text stands in the table at its place.
unfoldable pub changes_from : (n : ℕ) (table s : List ℕ) (p : ℕ) → Bool
changes_from zero table s p = eqb p (length s)
changes_from (suc n) table s p =
    leb (text_end s (p + 4)) (length s)
    && (stands_at table (net32 s p) (text_at s (p + 4))
    && changes_from n table s (text_end s (p + 4)))

-- Where the mark is 1 the whole table is zero.
unfoldable pub cleared_as : (table : List ℕ) (mark : ℕ) → Bool
cleared_as table mark = pick (eqb mark 1) (all_zero table) true

-- Where the mark is not 0 both digests behind it are those of the table.
unfoldable pub digests_as : (table s : List ℕ) → Bool
digests_as table s =
    pick (eqb (get_or s 0 0) 0) true
    (eqb (net32 s 1) (digest_of 1103515245 0 table) && eqb (net32 s 5) (digest_of 1664525 0 table))

-- What is expected of the table: the mark for all zero, the number of changes, the changes, and nine bytes for the digests.
unfoldable pub table_as : (table s : List ℕ) → Bool
table_as table s =
    cleared_as table (get_or s 0 0)
    && (changes_from (net32 s 1) table (part s 5 (length s - 14)) 0
    && digests_as table (part s (length s - 9) 9))

-- Behind eight numbers stands the answer, then the notice, then what is expected of the table.
unfoldable pub answer_end : List ℕ → ℕ → ℕ
answer_end r at = text_end r (at + 32)

unfoldable pub notice_end : List ℕ → ℕ → ℕ
notice_end r at = text_end r (answer_end r at)

-- All is as the record expects from its byte `at` on: the record holds both texts and the 14 bytes that are always there,
-- the eight numbers are those got, each room has its text and is otherwise as before the call, and the table is as expected.
unfoldable pub as_expected :
    (r : List ℕ) (at : ℕ) (g : Got) (table answer : List ℕ) (answer_seed : ℕ) (notice : List ℕ) (notice_seed : ℕ) → Bool
as_expected r at g table answer answer_seed notice notice_seed =
    leb (notice_end r at + 14) (length r)
    && ((answer_numbers r at g && cut_numbers r (at + 16) g)
    && ((room_as answer_seed answer (text_at r (at + 32)) && room_as notice_seed notice (text_at r (answer_end r at)))
    && table_as table (drop (notice_end r at) r)))

-- The numbers stand in the record from byte a on, four bytes each.
unfoldable pub numbers_at : (r : List ℕ) (a : ℕ) → List ℕ → Bool
numbers_at r a [] = true
numbers_at r a (x ∷ xs) = eqb (net32 r a) x && numbers_at r (a + 4) xs

-- The places for the results of a burst stand in the record from byte a on, eight numbers each.
unfoldable pub results_at : (r : List ℕ) (a : ℕ) → List (List ℕ) → Bool
results_at r a [] = true
results_at r a (s ∷ ss) = numbers_at r a s && results_at r (a + 32) ss
