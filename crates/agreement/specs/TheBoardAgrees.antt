-- Server and board together (request W7 of document 02): a screen shows connected at place k exactly if its Session-Id stands at place k in a sound row.
-- It holds of tables of either form (W5).
use Rattle.std.specs.Prelude.{◌≡◌, Bool, true, false, ◌&&◌, ◌||◌, not, List, [], ◌∷◌, ℕ, eqb, leb, length}
use Rattle.octets.specs.Choice.{pick}
use Rattle.octets.specs.Lists.{every, keep}
use Rattle.octets.specs.Texts.{same}
use Rattle.message.specs.ReadingAMessage.{Ask, tunnel, policy, termination, Reading, refused, request, read}
use Rattle.table.specs.TheTable.{Access, Table, rows, read_row}
use Rattle.table.specs.Soundness.{sound}
use Rattle.setup.specs.SetUp.{clear}
use Rattle.rules.specs.Calls.{Call, Result, Reply, handle, most_policies}
use Rattle.order.specs.OpenedFirst.{session_cut}
use Rattle.screen.specs.declared.Screen.{Screen}
use Rattle.screen.specs.TheBoard.{session_of, right, is_connected, count_connected, feed_request, feed_result, feed_notice}

-- WHAT STANDS IN A TABLE

module _ {A : Type 0} where
  -- One of the list passes.
  unfoldable pub some : (A → Bool) → List A → Bool
  some f [] = false
  some f (x ∷ xs) = f x || some f xs

  -- Each of the list has this.
  unfoldable pub Each : (A → Type 0) → List A → Type 0
  Each P [] = Unit {0}
  Each P (x ∷ xs) = P x × Each P xs

-- A Session-Id stands in a row if the row is sound and an access of it has that Session-Id; it stands at the place of that access.
unfoldable pub stands_in : (session : List ℕ) → (r : List ℕ) → Bool
stands_in session r = sound r && some (λ (a : Access). same a.session session) (read_row r).accesses

unfoldable pub stands_in_at : (session : List ℕ) → (k : ℕ) → (r : List ℕ) → Bool
stands_in_at session k r = sound r && some (λ (a : Access). same a.session session && eqb a.place k) (read_row r).accesses

-- In some row of the table, whether a lookup finds that row or not.
unfoldable pub stands : (t : Table) → (session : List ℕ) → Bool
stands t session = some (stands_in session) (rows t)

unfoldable pub stands_at : (t : Table) → (session : List ℕ) → (k : ℕ) → Bool
stands_at t session k = some (stands_in_at session k) (rows t)

-- In no two rows at once. In one sound row no Session-Id stands twice.
unfoldable pub stands_once : (t : Table) → (session : List ℕ) → Bool
stands_once t session = leb (length (keep (stands_in session) (rows t))) 1

-- AGREEMENT

unfoldable pub connected_at : (k : ℕ) → Screen → Bool
connected_at k s = is_connected s && eqb s.place k

-- A screen is truthful if its state is one of the four and it shows connected at a place exactly if its Session-Id stands there.
pub record Truthful (t : Table) (s : Screen) : Type 0 where
  pub one-of-four : leb s.state 3 ≡ true
  pub exactly : (k : ℕ) → connected_at k s ≡ stands_at t (session_of s) k

abbrev pub Agrees : (t : Table) → List Screen → Type 0
Agrees t board = Each (Truthful t) board

-- The board can not tell two accounts apart that hold one Session-Id: no Session-Id of the board is held so.
unfoldable pub each_once : (t : Table) → List Screen → Bool
each_once t board = every (λ s. stands_once t (session_of s)) board

-- WHAT IS FED OF A CALL

-- The request's kind in the board's numbers, and its Session-Id.
unfoldable pub kind_asked : Ask → ℕ
kind_asked (tunnel session host realm label visited) = 0
kind_asked (policy session first second third) = 1
kind_asked (termination session label) = 2

unfoldable pub session_asked : Ask → List ℕ
session_asked (tunnel session host realm label visited) = session
session_asked (policy session first second third) = session
session_asked (termination session label) = session

unfoldable pub with_request : Ask → List Screen → List Screen
with_request q board = (feed_request board (kind_asked q) (session_asked q)).board

unfoldable pub with_result : Ask → Result → List Screen → List Screen
with_result q r board = (feed_result board (kind_asked q) (session_asked q) r.code r.kind r.place).board

-- The notice, where there was a cut: the Session-Id that stands in it, of the length that the result gives.
unfoldable pub with_notice : Reply → List Screen → List Screen
with_notice r board = pick (eqb r.result.cut 1) (feed_notice board (session_cut r)).board board

-- The request first, then its result, then the notice of its cut.
unfoldable pub in_turn : Ask → Reply → List Screen → List Screen
in_turn q r board = with_notice r (with_result q r.result (with_request q board))

-- Or the notice before the result. And a call that is not answered 2001, or not at all, may be left out whole. Whoever feeds the board may
-- choose for each call.
pub data Way : Type 0 where
  result_first : Way
  notice_first : Way
  refused_left_out : Way

unfoldable pub with_answer : Way → Ask → Reply → List Screen → List Screen
with_answer result_first q r board = in_turn q r board
with_answer notice_first q r board = with_result q r.result (with_notice r (with_request q board))
with_answer refused_left_out q r board = pick (eqb r.result.code 2001) (in_turn q r board) board

-- A message that is refused in reading has no kind and no Session-Id: nothing is fed. (One whose Session-Id is on no screen is fed in vain: the board says 24
-- and stays.)
unfoldable pub fed_by : Way → Reading → Reply → List Screen → List Screen
fed_by way (refused code) r board = board
fed_by way (request q) r board = with_answer way q.ask r board

-- CALL BY CALL

pub record Fed : Type 0 where
  pub call : Call
  pub way : Way

-- The table and the board at a moment, and after a call. The message is read as for a table of that form.
pub record Moment : Type 0 where
  pub table : Table
  pub board : List Screen

unfoldable pub after : Moment → Fed → Moment
after m f =
    record {
      table = (handle m.table f.call).table;
      board = fed_by f.way (read (most_policies m.table.form) f.call.message) (handle m.table f.call).reply m.board;
    }

unfoldable pub after_all : Moment → List Fed → Moment
after_all m [] = m
after_all m (f ∷ fs) = after_all (after m f) fs

-- No Session-Id of the board stands in two sound rows, before the first call and after each.
unfoldable pub once_throughout : Moment → List Fed → Bool
once_throughout m [] = each_once m.table m.board
once_throughout m (f ∷ fs) = each_once m.table m.board && once_throughout (after m f) fs

-- THE STATEMENTS

-- One call, and any list of calls: a board that agrees with the table agrees with it afterwards.
abbrev pub AgreesAfterCall : Type 0
AgreesAfterCall =
    (m : Moment) (f : Fed) → right m.board ≡ true
    → each_once m.table m.board ≡ true
    → each_once (after m f).table (after m f).board ≡ true
    → Agrees m.table m.board → Agrees (after m f).table (after m f).board

abbrev pub AgreesThroughout : Type 0
AgreesThroughout =
    (m : Moment) (fs : List Fed) → right m.board ≡ true → once_throughout m fs ≡ true
    → Agrees m.table m.board → Agrees (after_all m fs).table (after_all m fs).board

-- One that does to begin with: no screen is connected, and no Session-Id of the board stands in the table.
unfoldable pub dark : List Screen → Bool
dark board = every (λ s. leb s.state 3 && not (is_connected s)) board

abbrev pub DarkAgrees : Type 0
DarkAgrees = (t : Table) (board : List Screen) → dark board ≡ true → every (λ s. not (stands t (session_of s))) board ≡ true → Agrees t board

-- So it is with a table that was cleared.
abbrev pub ClearedAgrees : Type 0
ClearedAgrees = (t : Table) (board : List Screen) → (clear t).number ≡ 0 → dark board ≡ true → Agrees (clear t).table board

-- The number of connected screens is then that of the board's Session-Ids that stand.
abbrev pub CountsWhatStands : Type 0
CountsWhatStands =
    (t : Table) (board : List Screen) → right board ≡ true → Agrees t board
    → (count_connected board).screens ≡ length (keep (λ s. stands t (session_of s)) board)
