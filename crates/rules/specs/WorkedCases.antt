-- The worked cases: the twelve with a star as one list, and others that shut out what the twelve let pass.
use Rattle.std.specs.Prelude.{Bool, true, false, ◌&&◌, List, [], ◌∷◌, ◌++◌, ℕ, ◌*◌, eqb, length, take, drop, replicate}
use Rattle.setup.specs.SetUp.{add, clear, enter}
use Rattle.message.specs.WorkedCases.{board, capital_board, case10, case9, end_at, gate, gateway, gateway_realm, name, open_at, open_visited, own_host, own_realm, route_by, route_by_all, session, yard}
use Rattle.octets.specs.Lists.{counted}
use Rattle.octets.specs.Texts.{all_zero, filled, part, same, zeros}
use Rattle.table.specs.TheTable.{Access, Account, Entry, Table, order_line, row_at, read_row, row_bytes, row_length}
use Rattle.changes.specs.Changes.{named, with_entry}
use Rattle.table.specs.WorkedCases.{case8}
use Rattle.rules.specs.Calls.{Left, handle}

-- THE TABLE OF THE CASES, made by the set-up operations: one row, the subscriber with "board" (limit 2, no flags) and
-- "yard" (limit 1, barred).
-- The account is operator 0's, which has a share of one row. The cases are of form 1; those of form 2 stand at the end.
unfoldable pub blank : (form rows : ℕ) → Table
blank f n = record { form = f; bytes = zeros (n * row_length f) }

unfoldable pub of : (operator : ℕ) → Account
of o = record { operator = o; name = name }

unfoldable pub one_share : List ℕ
one_share = 1 ∷ zeros 15

unfoldable pub with_label : Table → (label : List ℕ) → (flags limit : ℕ) → Table
with_label t label flags limit = (add t (of 0) (record { label = label; flags = flags; limit = limit })).table

unfoldable pub start_in : (form : ℕ) → Table
start_in f = with_label (with_label (enter (clear (blank f 1)).table one_share (of 0)).table board 0 2) yard 1 1

unfoldable pub start : Table
start = start_in 1

-- A call: the server's own names, an answer room of zeros, a notice room longer than any notice in which something stands, and
-- yes from the WAG.
unfoldable pub notice_before : List ℕ
notice_before = counted 0 256 ++ counted 0 144

unfoldable pub ask_with : (notice : List ℕ) → (operator : ℕ) → Table → List ℕ → Left
ask_with room o t message =
    handle t (record { operator = o; message = message; host = own_host; realm = own_realm; answer = zeros 5120; notice = room; wag = true })

unfoldable pub ask_from : (operator : ℕ) → Table → List ℕ → Left
ask_from o t message = ask_with notice_before o t message

unfoldable pub ask : Table → List ℕ → Left
ask t message = ask_from 0 t message

-- WHAT IS EXPECTED

-- No cut: no lengths, and the notice room untouched.
unfoldable pub no_cut : Left → Bool
no_cut l =
    eqb l.reply.result.cut 0 && (eqb l.reply.result.cut_session 0 && (eqb l.reply.result.cut_host 0
    && (eqb l.reply.result.cut_realm 0 && same l.reply.notice notice_before)))

-- The cut of the access of that letter: its texts' lengths, and the texts at the head of the notice.
unfoldable pub cut_of_both : ℕ → Left → Bool
cut_of_both letter l =
    eqb l.reply.result.cut 1 && (eqb l.reply.result.cut_session 3 && (eqb l.reply.result.cut_host 2
    && (same (take 128 l.reply.notice) (filled (session letter) 128) && same (part l.reply.notice 128 128) (filled gateway 128))))

-- In form 1 the rest of the room stays; in form 2 the realm comes next, and what is behind it stays.
unfoldable pub cut_of : ℕ → Left → Bool
cut_of letter l =
    cut_of_both letter l && (eqb l.reply.result.cut_realm 0 && same (drop 256 l.reply.notice) (drop 256 notice_before))

unfoldable pub cut_of2 : ℕ → Left → Bool
cut_of2 letter l =
    cut_of_both letter l && (eqb l.reply.result.cut_realm (length gateway_realm)
    && (same (part l.reply.notice 256 128) (filled gateway_realm 128) && same (drop 384 l.reply.notice) (drop 384 notice_before)))

-- Success: 2001, the place, what is said of a cut, and the order line afterwards.
unfoldable pub granted : Left → (place : ℕ) → (cut : Left → Bool) → (line : List ℕ) → Bool
granted l place cut line =
    eqb l.reply.result.code 2001 && (eqb l.reply.result.kind 1 && (eqb l.reply.result.place place
    && (cut l && same (order_line l.table.bytes) line)))

-- A refusal: the code and its kind, place 0, no cut, and the table as it was.
unfoldable pub denied : Left → (before : Table) → (code kind : ℕ) → Bool
denied l before code kind =
    eqb l.reply.result.code code && (eqb l.reply.result.kind kind && (eqb l.reply.result.place 0
    && (no_cut l && same l.table.bytes before.bytes)))

-- Success that changes nothing: 2001, place 0, no cut, and the table as it was.
unfoldable pub goes_on : Left → (before : Table) → Bool
goes_on l before = denied l before 2001 1

-- THE TWELVE

unfoldable pub twelve : List Bool
twelve =
    let a : Left = ask start (open_at (session 97) board) in
    let b : Left = ask a.table (open_at (session 98) board) in
    let c : Left = ask b.table (open_at (session 99) board) in
    let d : Left = ask c.table (open_at (session 100) board) in
    -- 1 to 4: a, then b, then c (a is cut), then d (b is cut)
    granted a 1 no_cut (1 ∷ [])
    ∷ granted b 2 no_cut (1 ∷ 2 ∷ [])
    ∷ granted c 1 (cut_of 97) (2 ∷ 1 ∷ [])
    ∷ granted d 2 (cut_of 98) (1 ∷ 2 ∷ [])
    -- 5: after 3, b again: it stands already (W11)
    ∷ goes_on (ask c.table (open_at (session 98) board)) c.table
    -- 6: after 3, termination of c on board; and of a, W-APN_UNUSED_BY_USER
    ∷ (granted (ask c.table (end_at (session 99) board)) 0 no_cut (2 ∷ [])
    && denied (ask c.table (end_at (session 97) board)) c.table 5042 2)
    -- 7: visited on yard, visited on board (ROAMING_NOT_ALLOWED), and "Board", which answers as "board" does in 1
    ∷ denied (ask start (open_visited (session 97) yard)) start 5003 1
    ∷ denied (ask start (open_visited (session 97) board)) start 5004 2
    ∷ granted (ask start (open_at (session 97) capital_board)) 1 no_cut (1 ∷ [])
    -- 8 to 10: the sums, Result-Code 2001, USER_UNKNOWN
    ∷ case8
    ∷ case9
    ∷ case10
    ∷ []

-- OTHERS

-- The same table, in which the subscriber has a third entry, "gate" (limit 1, may roam).
unfoldable pub gated : Table
gated = with_label start gate 2 1

-- "Board" as an entry of its own, limit 1; a row in which it stands beside "board", which no set-up operation writes; and a
-- subscriber who has it alone.
unfoldable pub capital_entry : Entry
capital_entry = record { label = capital_board; flags = 0; limit = 1 }

unfoldable pub in_both_cases : Table
in_both_cases = record { form = 1; bytes = row_bytes 1 (with_entry capital_entry (read_row start.bytes)) }

unfoldable pub capital_only : Table
capital_only = with_label (enter (blank 1 1) one_share (of 0)).table capital_board 0 1

-- The gate's tunnel g is opened first, from a visited network, then a and b on board: g counts for the gate alone, so that
-- b cuts nothing, and c cuts a, which is not the head of the line.
unfoldable pub others : List Bool
others =
    let g : Left = ask gated (open_visited (session 103) gate) in
    let a : Left = ask g.table (open_at (session 97) board) in
    let b : Left = ask a.table (open_at (session 98) board) in
    let c : Left = ask b.table (open_at (session 99) board) in
    let e : Left = ask c.table (end_at (session 98) board) in
    granted g 1 no_cut (1 ∷ [])
    ∷ granted a 2 no_cut (1 ∷ 2 ∷ [])
    ∷ granted b 3 no_cut (1 ∷ 2 ∷ 3 ∷ [])
    ∷ granted c 2 (cut_of 97) (1 ∷ 3 ∷ 2 ∷ [])
    -- a Session-Id that stands, ended on another W-APN: W-APN_UNUSED_BY_USER
    ∷ denied (ask c.table (end_at (session 98) gate)) c.table 5042 2
    -- one that stands is asked for again: on another W-APN, 5012; on its own, which is at its limit, nothing is cut (W11); so too as "Board"; and the tests
    -- before this one come first
    ∷ denied (ask c.table (open_at (session 103) board)) c.table 5012 1
    ∷ goes_on (ask c.table (open_visited (session 103) gate)) c.table
    ∷ goes_on (ask c.table (open_at (session 98) capital_board)) c.table
    ∷ denied (ask c.table (open_visited (session 98) board)) c.table 5004 2
    -- ended on its own, the line closes up; then a new one takes the lowest free place and the end of the line
    ∷ granted e 0 no_cut (1 ∷ 2 ∷ [])
    ∷ granted (ask e.table (open_at (session 100) board)) 3 no_cut (1 ∷ 2 ∷ 3 ∷ [])
    -- a policy for a Session-Id that stands, and for one that does not
    ∷ granted (ask e.table (route_by (session 99) board)) 0 no_cut (1 ∷ 2 ∷ [])
    ∷ denied (ask e.table (route_by (session 100) board)) e.table 5012 1
    -- a table without a subscriber: USER_UNKNOWN
    ∷ denied (ask (blank 1 1) (open_at (session 97) board)) (blank 1 1) 5001 2
    -- "Board" is "board" from a visited network (ROAMING_NOT_ALLOWED) and in a termination
    ∷ denied (ask start (open_visited (session 97) capital_board)) start 5004 2
    ∷ granted (ask c.table (end_at (session 98) capital_board)) 0 no_cut (1 ∷ 2 ∷ [])
    -- a Session-Id has one case only: "B" is not the b that stands, and opens beside it
    ∷ denied (ask c.table (end_at (session 66) board)) c.table 5042 2
    ∷ granted (ask b.table (open_at (session 66) board)) 2 (cut_of 97) (1 ∷ 3 ∷ 2 ∷ [])
    -- beside "board" it can not be added: 15; a row that has both is unsound: 5012, and 13 on adding
    ∷ eqb (add start (of 0) capital_entry).number 15
    ∷ denied (ask in_both_cases (open_at (session 97) board)) in_both_cases 5012 1
    ∷ eqb (add in_both_cases (of 0) capital_entry).number 13
    -- it is stored as entered, and "board" is granted on it
    ∷ same (part capital_only.bytes 33 5) capital_board
    ∷ granted (ask capital_only (open_at (session 97) board)) 1 no_cut (1 ∷ [])
    ∷ []

-- TWO OPERATORS

-- Three rows, of which operator 0 may have one and operator 1 two. Both have a subscriber of the same name.
unfoldable pub shared : List ℕ
shared = 1 ∷ 2 ∷ zeros 14

unfoldable pub both : Table
both = (enter (enter (blank 1 3) shared (of 0)).table shared (of 1)).table

unfoldable pub other : (operator : ℕ) → Account
other o = record { operator = o; name = 49 ∷ [] }

unfoldable pub board_entry : Entry
board_entry = record { label = board; flags = 0; limit = 2 }

unfoldable pub operators : List Bool
operators =
    let served : Table = (add both (of 1) board_entry).table in
    let o : Left = ask_from 1 served (open_at (session 97) board) in
    -- each has a row of its own, and what is done for one leaves that of the other
    eqb (enter (blank 1 3) shared (of 0)).number 0
    ∷ same (row_at served 0) (row_bytes 1 (named (of 0)))
    ∷ (eqb o.reply.result.code 2001 && (eqb o.reply.result.place 1 && (same (row_at o.table 0) (row_at both 0)
    && same (order_line (row_at o.table 1)) (1 ∷ []))))
    -- operator 0 has no label there, and operator 2 no account
    ∷ denied (ask_from 0 served (open_at (session 97) board)) served 5044 2
    ∷ denied (ask_from 2 served (open_at (session 97) board)) served 5001 2
    -- 10: the same name once more; 27: operator 0's share is full, though a row is free, and operator 1's is not
    ∷ eqb (enter both shared (of 1)).number 10
    ∷ eqb (enter both shared (other 0)).number 27
    ∷ eqb (enter both shared (other 1)).number 0
    -- 26: the shares come to more than the rows, or are not sixteen; 33: no operator is over 15
    ∷ eqb (enter both (2 ∷ 2 ∷ zeros 14) (other 1)).number 26
    ∷ eqb (enter both (1 ∷ 2 ∷ zeros 13) (other 1)).number 26
    ∷ eqb (enter both (2 ∷ 2 ∷ zeros 14) (other 16)).number 33
    ∷ eqb (add both (of 16) board_entry).number 33
    ∷ eqb (ask_from 16 both []).reply.result.code 33
    -- 33 comes before 2, and the shares are summed as whole numbers
    ∷ eqb (handle both (record { operator = 16; message = []; host = []; realm = []; answer = []; notice = []; wag = true })).reply.result.code 33
    ∷ eqb (enter both (1 ∷ 4294967295 ∷ zeros 14) (other 1)).number 26
    ∷ []

-- FORM 2

-- The policies of the worked cases: of one letter, twice, and three times.
unfoldable pub policy_of : (letter n : ℕ) → List ℕ
policy_of letter n = replicate n letter

unfoldable pub access_says : List Access → (realm first second third : List ℕ) → Bool
access_says [] realm first second third = false
access_says (a ∷ others) realm first second third =
    same a.realm realm && (same a.policies.first first && (same a.policies.second second && same a.policies.third third))

-- The access that a row of one subscriber says first on its order line: realm and policies, byte for byte.
unfoldable pub first_says : Left → (realm first second third : List ℕ) → Bool
first_says l realm first second third = access_says (read_row l.table.bytes).accesses realm first second third

-- The code of an opening that brings a notice room of so many bytes.
unfoldable pub in_room : ℕ → Table → ℕ
in_room n t = (ask_with (zeros n) 0 t (open_at (session 97) board)).reply.result.code

-- What a table of form 1 may not do, a table of form 2 does: the realm is kept and told on a cut, and up to three policies are kept.
unfoldable pub in_form2 : List Bool
in_form2 =
    let t : Table = start_in 2 in
    let a : Left = ask t (open_at (session 97) board) in
    let three : Left = ask a.table (route_by_all (session 97) (policy_of 112 1 ∷ policy_of 113 2 ∷ policy_of 114 3 ∷ [])) in
    let one : Left = ask three.table (route_by_all (session 97) (policy_of 115 4 ∷ [])) in
    let b : Left = ask one.table (open_at (session 98) board) in
    let c : Left = ask b.table (open_at (session 99) board) in
    -- an opening stores the realm of its gateway, and no policy
    granted a 1 no_cut (1 ∷ [])
    ∷ first_says a gateway_realm [] [] []
    -- three policies in message order; then one, which leaves no other behind
    ∷ granted three 0 no_cut (1 ∷ [])
    ∷ first_says three gateway_realm (policy_of 112 1) (policy_of 113 2) (policy_of 114 3)
    ∷ granted one 0 no_cut (1 ∷ [])
    ∷ first_says one gateway_realm (policy_of 115 4) [] []
    -- four are too many, and in form 1 two are
    ∷ denied (ask a.table (route_by_all (session 97) (policy_of 112 1 ∷ policy_of 113 1 ∷ policy_of 114 1 ∷ policy_of 115 1 ∷ []))) a.table 5009 1
    ∷ eqb (ask start (route_by_all (session 97) (policy_of 112 1 ∷ policy_of 113 1 ∷ []))).reply.result.code 5009
    -- the cut: a goes, c takes its place, and the second block of the place is that of c
    ∷ granted b 2 no_cut (1 ∷ 2 ∷ [])
    ∷ granted c 1 (cut_of2 97) (2 ∷ 1 ∷ [])
    -- 4: a notice room must hold a notice of the form
    ∷ eqb (in_room 383 t) 4
    ∷ eqb (in_room 384 t) 2001
    ∷ eqb (in_room 255 start) 4
    ∷ eqb (in_room 256 start) 2001
    -- a place that is freed is zero in both blocks
    ∷ all_zero (part (ask b.table (end_at (session 97) board)).table.bytes 512 1024)
    -- a row of the other length is no row of this form
    ∷ eqb (ask (record { form = 2; bytes = start.bytes }) (open_at (session 97) board)).reply.result.code 1
    ∷ eqb (ask (record { form = 1; bytes = t.bytes }) (open_at (session 97) board)).reply.result.code 1
    ∷ eqb (ask (record { form = 3; bytes = t.bytes }) (open_at (session 97) board)).reply.result.code 1
    ∷ []
