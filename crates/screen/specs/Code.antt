-- What the code's numbers and enums say in the board's terms.
use Rattle.std.specs.Prelude.{◌≡◌, true, false, List, [], ℕ, ◌<◌, length, get_or, Option, Some, None, Result, Ok, Err}
use Rattle.screen.specs.TheBoard.{State, off, asked, connected, cut, unknown, Event, nothing, asks, opens, fails, ends, cuts, Move, stays, to, is_of, on_board, feed_number, Left, Counted}
use Rattle.screen.specs.declared.Screen.{Screen}
use Rattle.screen.specs.declared.State.{State as StateIs}
use Rattle.screen.specs.declared.State.TheVariants.{Off, Asked, Connected, Cut, Unknown}
use Rattle.screen.specs.declared.Event.{Event as EventIs}
use Rattle.screen.specs.declared.Event.TheVariants.{Nothing, Asks, Opens, Fails, Ends, Cuts}
use Rattle.screen.specs.declared.Count.{Count}
use Rattle.screen.specs.declared.Seen.{Seen}
use Rattle.screen.specs.declared.Refusal.{Refusal}
use Rattle.screen.specs.declared.Refusal.TheVariants.{NoScreen, WrongList}

-- What stands past the end of a list, where a definition has to name something.
abbrev pub none : Screen
none = record { state = 0; place = 0; size = 0; room = [] }

-- The cases of the code's enums.
unfoldable pub state_said : StateIs → State
state_said Off = off
state_said Asked = asked
state_said (Connected place) = connected place
state_said Cut = cut
state_said Unknown = unknown

unfoldable pub event_said : EventIs → Event
event_said Nothing = nothing
event_said Asks = asks
event_said (Opens place) = opens place
event_said Fails = fails
event_said Ends = ends
event_said Cuts = cuts

unfoldable pub move_said : Option StateIs → Move
move_said None = stays
move_said (Some state) = to (state_said state)

unfoldable pub refusal_said : Refusal → ℕ
refusal_said NoScreen = 24
refusal_said WrongList = 25

-- What one look at the list tells: the number and the count, as `count_connected` has them; and, of a list that may be fed, the entry that has the Session-Id, if one
-- has it.
unfoldable pub counts : Option Seen → Counted
counts None = record { number = 25; screens = 0 }
counts (Some s) = record { number = 0; screens = s.connected }

abbrev pub Found : List Screen → (session : List ℕ) → (at : Option ℕ) → Type 0
Found board session None = on_board board session ≡ false
Found board session (Some at) = (at < length board) × (is_of session (get_or board at none) ≡ true)

-- The entry that is told, or the number of a refusal.
abbrev pub Finds : List Screen → (session : List ℕ) → Result ℕ Refusal → Type 0
Finds board session (Ok at) = (feed_number board session ≡ 0) × (at < length board) × (is_of session (get_or board at none) ≡ true)
Finds board session (Err refusal) = feed_number board session ≡ refusal_said refusal

-- What a feed gives back: its number, and the list as it stands then.
unfoldable pub leaves : ℕ → List Screen → Left
leaves number list = record { number = number; board = list }

unfoldable pub count_said : Count → Counted
count_said c = record { number = c.number; screens = c.screens }
