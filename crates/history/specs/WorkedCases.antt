-- Worked cases of the proof of age: a day of one subscriber, counted; and the server before this one, at the rollover of its counter.
use Rattle.std.specs.Prelude.{◌≡◌, true, false, not, List, [], ◌∷◌, ◌++◌, ℕ, ◌+◌, ◌%◌, eqb, leb, length}
use Rattle.octets.specs.Choice.{pick}
use Rattle.octets.specs.Lists.{keep}
use Rattle.octets.specs.Texts.{filled}
use Rattle.message.specs.WorkedCases.{board, capital_board, end_at, gate, gateway, open_at, session}
use Rattle.rules.specs.WorkedCases.{of}
use Rattle.order.specs.Demand3.{Told}
use Rattle.order.specs.OpenedAgain.{calling, named}
use Rattle.history.specs.Histories.{Event, answered}
use Rattle.history.specs.OrderOfOpening.{on_name, opened_in_order, took_the_first}
use Rattle.history.specs.EachCounted.{count_of, cuts, ends, opens}

-- WHAT IS TOLD, in form 1: 2001 at a place, or at none, with the cut of the tunnel of a letter, or with none; and W-APN_UNUSED_BY_USER.

unfoldable pub success : (place : ℕ) → (cut : List ℕ) → Told
success place [] =
    record { result = record { length = 0; code = 2001; kind = 1; place = place; cut = 0; cut_session = 0; cut_host = 0; cut_realm = 0 }; answer = []; notice = [] }
success place (letter ∷ others) =
    record {
      result = record { length = 0; code = 2001; kind = 1; place = place; cut = 1; cut_session = 3; cut_host = 2; cut_realm = 0 };
      answer = [];
      notice = filled (session letter) 128 ++ filled gateway 128;
    }

unfoldable pub unused_there : Told
unused_there =
    record { result = record { length = 0; code = 5042; kind = 2; place = 0; cut = 0; cut_session = 0; cut_host = 0; cut_realm = 0 }; answer = []; notice = [] }

-- A DAY. a is opened on board, b on gate, and then c on gate, which cuts b. a is asked for again while it stands, as "Board", and opens nothing (W11); it is ended,
-- as "Board"; it is ended once more, in vain; and it is opened again.
unfoldable pub day : List Event
day =
    answered (calling (open_at (session 97) board)) (success 1 [])
    ∷ answered (calling (open_at (session 98) gate)) (success 2 [])
    ∷ answered (calling (open_at (session 99) gate)) (success 2 (98 ∷ []))
    ∷ answered (calling (open_at (session 97) capital_board)) (success 0 [])
    ∷ answered (calling (end_at (session 97) capital_board)) (success 0 [])
    ∷ answered (calling (end_at (session 97) board)) unused_there
    ∷ answered (calling (open_at (session 97) board)) (success 1 [])
    ∷ []

-- Of a label: opened, standing, cut, ended.
unfoldable pub counts : (label : List ℕ) → List Event → List ℕ
counts label es =
    count_of opens 1 (of 0) label es ∷ length (on_name label (opened_in_order 1 (of 0) es)) ∷ count_of cuts 1 (of 0) label es ∷ count_of ends 1 (of 0) label es ∷ []

-- The line is c a: a stands where it was opened last. On board two were opened, of which one stands and one was ended; on gate two, of which one stands and
-- one was cut, though the line began with a.
abbrev pub DayCounted : Type 0
DayCounted =
    (named (opened_in_order 1 (of 0) day) ≡ session 99 ∷ session 97 ∷ [])
    × (counts board day ≡ 2 ∷ 1 ∷ 0 ∷ 1 ∷ [])
    × (counts gate day ≡ 2 ∷ 1 ∷ 1 ∷ 0 ∷ [])

-- THE SERVER BEFORE THIS ONE gave each tunnel a number of 16 bits, by one counter for the whole server, and cut the tunnel on the name with the lowest number.

pub record Numbered : Type 0 where
  pub number : ℕ
  pub letter : ℕ

unfoldable pub lowest : Numbered → List Numbered → Numbered
lowest x [] = x
lowest x (y ∷ ys) = pick (leb x.number y.number) (lowest x ys) (lowest y ys)

-- With a limit of 2: nothing is cut while fewer than two stand.
unfoldable pub lowest_alone : List Numbered → List Numbered
lowest_alone [] = []
lowest_alone (x ∷ []) = []
lowest_alone (x ∷ y ∷ ys) = lowest x (y ∷ ys) ∷ []

unfoldable pub old_told : (cut : List Numbered) → Told
old_told [] = success 1 []
old_told (x ∷ xs) = success 1 (x.letter ∷ [])

unfoldable pub still_there : (cut held : List Numbered) → List Numbered
still_there [] held = held
still_there (x ∷ xs) held = keep (λ (y : Numbered). not (eqb y.number x.number)) held

-- What is seen of it while tunnels are opened on board, one letter after another; `next` is the number that its counter gives next.
unfoldable pub old_server : (next : ℕ) → (held : List Numbered) → (letters : List ℕ) → List Event
old_server next held [] = []
old_server next held (x ∷ xs) =
    let cut : List Numbered = lowest_alone held in
    answered (calling (open_at (session x) board)) (old_told cut)
    ∷ old_server ((next + 1) % 65536) (still_there cut held ++ (record { number = next; letter = x } ∷ [])) xs

-- a, b and c are opened. With the numbers 0, 1 and 2 all is well. With 65,535, 0 and 1, the opening of c cuts b, which was opened just before it, and not a: the line is
-- what the notices say, so that alone would pass, and that every cut took the first is false.
abbrev pub OldServerRefused : Type 0
OldServerRefused =
    (took_the_first 1 (of 0) [] (old_server 0 [] (97 ∷ 98 ∷ 99 ∷ [])) ≡ true)
    × (named (opened_in_order 1 (of 0) (old_server 65535 [] (97 ∷ 98 ∷ 99 ∷ []))) ≡ session 97 ∷ session 99 ∷ [])
    × (took_the_first 1 (of 0) [] (old_server 65535 [] (97 ∷ 98 ∷ 99 ∷ [])) ≡ false)
