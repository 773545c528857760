-- The screen board (request W7 of document 02): a sales desk sees on it which screens are connected. It is told what was asked, what came of it and what
-- was cut, and knows nothing of the server.
use Rattle.std.specs.Prelude.{Bool, ◌&&◌, not, List, [], ◌∷◌, map, ℕ, eqb, leb, length, take}
use Rattle.octets.specs.Choice.{pick, require, first_of, within}
use Rattle.octets.specs.Lists.{every, keep, distinct}
use Rattle.octets.specs.Texts.{same}
use Rattle.screen.specs.declared.Screen.{Screen}

-- A SCREEN
-- An entry of the lent list is the struct `Screen` of the code, in numbers: the state; the place that it is connected at; the length of its Session-Id (size); and
-- the room of 128 bytes that the Session-Id stands in. The bytes behind it mean nothing.
unfoldable pub session_of : Screen → List ℕ
session_of s = take s.size s.room

-- The states: 0 off, 1 asked, 2 connected with a place, 3 cut. A number over 3, which the list's owner can say, is none of them.
pub data State : Type 0 where
  off : State
  asked : State
  connected : (place : ℕ) → State
  cut : State
  unknown : State

unfoldable pub state_of : (number place : ℕ) → State
state_of number place =
    pick (eqb number 0) off (pick (eqb number 1) asked (pick (eqb number 2) (connected place) (pick (eqb number 3) cut unknown)))

unfoldable pub shown : Screen → State
shown s = state_of s.state s.place

unfoldable pub is_connected : Screen → Bool
is_connected s = eqb s.state 2

-- The number and the place of each state. No line of the table below moves a screen to an unknown one.
unfoldable pub number_of : State → ℕ
number_of off = 0
number_of asked = 1
number_of (connected place) = 2
number_of cut = 3
number_of unknown = 4

unfoldable pub place_in : State → ℕ
place_in off = 0
place_in asked = 0
place_in (connected place) = place
place_in cut = 0
place_in unknown = 0

-- The same screen in another state.
unfoldable pub showing : State → Screen → Screen
showing state s = record { state = number_of state; place = place_in state; size = s.size; room = s.room }

-- WHAT A SCREEN IS TOLD
pub data Event : Type 0 where
  -- nothing that moves a screen
  nothing : Event
  -- a request of type 0
  asks : Event
  -- its success at one of the places 1 to 8
  opens : (place : ℕ) → Event
  -- any other result of it but a success
  fails : Event
  -- a termination that succeeded
  ends : Event
  -- the notice of its cut
  cuts : Event

-- A request's kind: 0 and 1 are the two types of an authorization, 2 is a termination. Any other number is as 1.
unfoldable pub request_says : (which : ℕ) → Event
request_says which = pick (eqb which 0) asks nothing

-- A result is a success if it is the Result-Code 2001; kinds of code are 0 no answer, 1 Result-Code, 2 Experimental-Result.
unfoldable pub success : (code kind : ℕ) → Bool
success code kind = eqb kind 1 && eqb code 2001

-- A success of type 0 at any place but 1 to 8 says nothing.
unfoldable pub result_says : (which code kind place : ℕ) → Event
result_says which code kind place =
    pick (eqb which 0) (pick (success code kind) (pick (within 1 8 place) (opens place) nothing) fails)
    (pick (eqb which 2 && success code kind) ends nothing)

-- THE TABLE: state and event to state. `stays` leaves the screen as it is.
pub data Move : Type 0 where
  stays : Move
  to : State → Move

-- A line of the table: what becomes of a screen that is off, asked, connected, cut, and in a state that is none of them.
unfoldable pub line : (from_off from_asked from_connected from_cut from_unknown : Move) → State → Move
line a b c d e off = a
line a b c d e asked = b
line a b c d e (connected place) = c
line a b c d e cut = d
line a b c d e unknown = e

unfoldable pub after : Event → State → Move
after nothing = line stays stays stays stays stays
after asks = line (to asked) stays stays (to asked) stays
after (opens place) = line stays (to (connected place)) stays stays stays
after fails = line stays (to off) stays stays stays
after ends = line (to off) (to off) (to off) (to off) (to off)
after cuts = line (to cut) (to cut) (to cut) (to cut) (to cut)

unfoldable pub moved : Move → Screen → Screen
moved stays s = s
moved (to state) s = showing state s

-- THE NUMBERS
-- 25: the list has over 64 entries, or a Session-Id on it is not of 1 to 128 bytes, or stands on it twice.
unfoldable pub same_screen : Screen → Screen → Bool
same_screen s t = same (session_of s) (session_of t)

unfoldable pub sized : Screen → Bool
sized s = within 1 128 s.size

unfoldable pub right : List Screen → Bool
right board = leb (length board) 64 && (every sized board && distinct same_screen board)

-- 24: the Session-Id is on no entry.
unfoldable pub is_of : (session : List ℕ) → Screen → Bool
is_of session s = same (session_of s) session

unfoldable pub on_board : List Screen → (session : List ℕ) → Bool
on_board board session = not (every (λ s. not (is_of session s)) board)

unfoldable pub feed_number : List Screen → (session : List ℕ) → ℕ
feed_number board session = first_of (require (right board) 25 ∷ require (on_board board session) 24 ∷ [])

-- FEEDING
-- The screen of that Session-Id moves as the table says, and all others stay as they are.
unfoldable pub moved_by : Event → Screen → Screen
moved_by event s = moved (after event (shown s)) s

unfoldable pub told : (session : List ℕ) → Event → Screen → Screen
told session event s = pick (is_of session s) (moved_by event s) s

-- What a feed leaves: its number, 0 on success, and the list, which a refusal leaves as it was.
pub record Left : Type 0 where
  pub number : ℕ
  pub board : List Screen

unfoldable pub leaving : ℕ → (was is : List Screen) → Left
leaving number was is = record { number = number; board = pick (eqb number 0) is was }

unfoldable pub feed : List Screen → (session : List ℕ) → Event → Left
feed board session event = leaving (feed_number board session) board (map (told session event) board)

-- A request, of its kind.
unfoldable pub feed_request : List Screen → (which : ℕ) → (session : List ℕ) → Left
feed_request board which session = feed board session (request_says which)

-- Its result: code, kind of code and place.
unfoldable pub feed_result : List Screen → (which : ℕ) → (session : List ℕ) → (code kind place : ℕ) → Left
feed_result board which session code kind place = feed board session (result_says which code kind place)

-- A notice.
unfoldable pub feed_notice : List Screen → (session : List ℕ) → Left
feed_notice board session = feed board session cuts

-- COUNTING
-- How many screens are connected, with the number 0; or 25, and then none is counted.
pub record Counted : Type 0 where
  pub number : ℕ
  pub screens : ℕ

unfoldable pub count_connected : List Screen → Counted
count_connected board =
    pick (right board) (record { number = 0; screens = length (keep is_connected board) }) (record { number = 25; screens = 0 })
