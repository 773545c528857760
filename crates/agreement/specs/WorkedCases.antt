-- Server and board, computed: a run on which they agree, and three that show why the theorem asks for what it asks.
use Rattle.std.specs.Prelude.{Bool, ◌&&◌, not, List, [], ◌∷◌, ◌++◌, ℕ}
use Rattle.octets.specs.Texts.{same, zeros}
use Rattle.message.specs.WorkedCases.{aa_request, board, end_at, name, open_at, open_visited, session, vendor_bytes}
use Rattle.table.specs.TheTable.{Subscriber, Table, row_bytes}
use Rattle.rules.specs.Calls.{Call, Left, handle}
use Rattle.order.specs.Demand2.{request_in}
use Rattle.order.specs.OpenedAgain.{calling}
use Rattle.screen.specs.declared.Screen.{Screen}
use Rattle.agreement.specs.TheBoardAgrees.{stands_at, each_once, with_request, with_result, Way, result_first, notice_first, Fed, Moment, after}

-- THE TABLE, of a form: two subscribers, each with "board", limit 1.

-- 42
unfoldable pub other : List ℕ
other = 52 ∷ 50 ∷ []

unfoldable pub subscriber : (who : List ℕ) → Subscriber
subscriber who = record { operator = 0; name = who; entries = record { label = board; flags = 0; limit = 1 } ∷ []; accesses = [] }

unfoldable pub two : (form : ℕ) → Table
two f = record { form = f; bytes = row_bytes f (subscriber name) ++ row_bytes f (subscriber other) }

-- THE BOARD: two screens, a and b, in this state.
unfoldable pub screen : (letter state : ℕ) → Screen
screen letter state = record { state = state; place = 0; size = 3; room = session letter }

unfoldable pub begin : (form state : ℕ) → Moment
begin f state = record { table = two f; board = screen 97 state ∷ screen 98 state ∷ [] }

-- State and place of each screen.
unfoldable pub shows : List Screen → List ℕ
shows [] = []
shows (s ∷ b) = s.state ∷ s.place ∷ shows b

-- CALLS

unfoldable pub fed : List ℕ → Way → Fed
fed message way = record { call = calling message; way = way }

-- The second subscriber asks for a tunnel.
unfoldable pub open_other : (sid : List ℕ) → List ℕ
open_other sid = aa_request other sid 0 (vendor_bytes 10415 100 board)

-- In a table of form 1 and in one of form 2: a is connected at place 1; b is, there, and a is cut; b goes off.
unfoldable pub agreeing : (form : ℕ) → Bool
agreeing f =
    let a : Moment = after (begin f 0) (fed (open_at (session 97) board) result_first) in
    let b : Moment = after a (fed (open_at (session 98) board) notice_first) in
    let e : Moment = after b (fed (end_at (session 98) board) result_first) in
    same (shows a.board) (2 ∷ 1 ∷ 0 ∷ 0 ∷ [])
    && (same (shows b.board) (3 ∷ 0 ∷ 2 ∷ 1 ∷ [])
    && (same (shows e.board) (3 ∷ 0 ∷ 0 ∷ 0 ∷ [])
    && (stands_at b.table (session 98) 1
    && (not (stands_at b.table (session 97) 1)
    && (not (stands_at e.table (session 98) 1)
    && each_once b.table b.board)))))

-- TWO ACCOUNTS HOLD ONE SESSION-ID: both open a; the first ends it. Its screen is off, and a still stands at place 1, in the second's row.
unfoldable pub two_accounts : Bool
two_accounts =
    let a : Moment = after (begin 1 0) (fed (open_at (session 97) board) result_first) in
    let b : Moment = after a (fed (open_other (session 97)) result_first) in
    let e : Moment = after b (fed (end_at (session 97) board) result_first) in
    same (shows e.board) (zeros 4) && (stands_at e.table (session 97) 1 && not (each_once b.table b.board))

-- A REQUEST IS FED BEFORE THE RESULT OF AN EARLIER ONE: a is asked for from a visited network, which is refused, and again from home. With both requests
-- fed first, the refusal puts the screen off and the success finds it off, though a stands at place 1.
unfoldable pub crossed : Bool
crossed =
    let c : Call = calling (open_visited (session 97) board) in
    let d : Call = calling (open_at (session 97) board) in
    let x : Left = handle (two 1) c in
    let y : Left = handle x.table d in
    let asked : List Screen = with_request (request_in d).ask (with_request (request_in c).ask (begin 1 0).board) in
    let told : List Screen = with_result (request_in d).ask y.reply.result (with_result (request_in c).ask x.reply.result asked) in
    same (shows asked) (1 ∷ 0 ∷ 0 ∷ 0 ∷ []) && (same (shows told) (zeros 4) && (stands_at y.table (session 97) 1 && each_once y.table told))

-- A STATE THAT IS NONE OF THE FOUR: nothing connects such a screen.
unfoldable pub no_state : Bool
no_state =
    let a : Moment = after (begin 1 4) (fed (open_at (session 97) board) result_first) in
    same (shows a.board) (4 ∷ 0 ∷ 4 ∷ 0 ∷ []) && stands_at a.table (session 97) 1
