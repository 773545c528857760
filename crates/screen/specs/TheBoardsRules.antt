-- What request W7 asks of the board, as theorems; proofs/TheBoardsRules has their proofs. A request, a result and a notice are feeds of the event that they tell.
use Rattle.std.specs.Prelude.{◌≡◌, true, false, List, map, ℕ, ◌≤◌, length, get_or}
use Rattle.octets.specs.Lists.{keep}
use Rattle.screen.specs.TheBoard.{connected, shown, Event, session_of, right, is_of, feed, Left, is_connected, Counted, count_connected}
use Rattle.screen.specs.Code.{leaves, count_said}
use Rattle.screen.specs.declared.Count.{Count}
use Rattle.screen.specs.declared.Screen.{Screen}

-- ONE ENTRY. A feed changes at most the entry of its Session-Id: any other is as it was, wherever it stands, and the list is as long as it was.
abbrev pub OneEntry : Type 0
OneEntry =
    (board : List Screen) (session : List ℕ) (event : Event) (i : ℕ) (none : Screen)
    → is_of session (get_or board i none) ≡ false
    → get_or (feed board session event).board i none ≡ get_or board i none

abbrev pub SameLength : Type 0
SameLength = (board : List Screen) (session : List ℕ) (event : Event) → length (feed board session event).board ≡ length board

-- No Session-Id changes, so that a list that may be fed may be fed again.
abbrev pub SessionsStay : Type 0
SessionsStay =
    (board : List Screen) (session : List ℕ) (event : Event)
    → map session_of (feed board session event).board ≡ map session_of board

abbrev pub StaysRight : Type 0
StaysRight = (board : List Screen) (session : List ℕ) (event : Event) → right (feed board session event).board ≡ right board

-- A REFUSAL changes nothing.
abbrev pub RefusedStays : Type 0
RefusedStays =
    (board : List Screen) (session : List ℕ) (event : Event)
    → ((feed board session event).number ≡ 0 → ⊥)
    → (feed board session event).board ≡ board

-- TWO SESSION-IDS. What is told of one and what is told of another may come in either order: a result and the notice of the cut that it made.
abbrev pub EitherOrder : Type 0
EitherOrder =
    (board : List Screen) (session other : List ℕ) (event then : Event)
    → right board ≡ true
    → (session ≡ other → ⊥)
    → (feed (feed board session event).board other then).board ≡ (feed (feed board other then).board session event).board

-- THE NUMBER OF CONNECTED SCREENS is the count over the list, of those that show connected with a place, and at most 64.
abbrev pub CountIs : Type 0
CountIs = (board : List Screen) → (count_connected board).number ≡ 0 → (count_connected board).screens ≡ length (keep is_connected board)

abbrev pub CountedShow : Type 0
CountedShow =
    (s : Screen)
    → (is_connected s ≡ true → shown s ≡ connected s.place)
    × ((place : ℕ) → shown s ≡ connected place → is_connected s ≡ true)

abbrev pub AtMost64 : Type 0
AtMost64 = (board : List Screen) → (count_connected board).screens ≤ 64

-- NO SECOND ANSWER: what an operation promises for the same inputs is met by one outcome only, in the number and in every entry of the list. Each equation is the one
-- that the operation ensures; proofs/Ensured holds them to the operations' own.
abbrev pub OneFeed : Type 0
OneFeed = (promised : Left) (n m : ℕ) (s t : List Screen) → leaves n s ≡ promised → leaves m t ≡ promised → (n ≡ m) × (s ≡ t)

abbrev pub OneCount : Type 0
OneCount = (promised : Counted) (x y : Count) → count_said x ≡ promised → count_said y ≡ promised → x ≡ y
