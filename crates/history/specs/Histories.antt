-- Histories (W12): from a cleared table on, any operations of any operators, one after another on one table, and what their callers see of them. The
-- form is the table's, so it is the same in all calls.
use Rattle.std.specs.Prelude.{◌≡◌, List, [], ◌∷◌, ◌++◌, ℕ, eqb}
use Rattle.octets.specs.Choice.{pick}
use Rattle.table.specs.TheTable.{Account, Entry, Table}
use Rattle.setup.specs.SetUp.{SetUp, add, clear, enter}
use Rattle.rules.specs.Calls.{Call, Left, handle}
use Rattle.order.specs.Demand3.{Told, told}
use Rattle.burst.specs.TheBurst.{Burst, Bursted, burst}
use Rattle.burstlaws.specs.BurstsRules.{taken_calls}
use Rattle.burstlaws.specs.AnyOrder.{tolds}

-- OPERATIONS

-- The table is cleared; a subscriber enters, with the shares lent for it; a subscriber gets one more W-APN; a request comes; a burst of them comes.
pub data Operation : Type 0 where
  clearing : Operation
  entering : (shares : List ℕ) → Account → Operation
  adding : Account → Entry → Operation
  asking : Call → Operation
  bursting : Burst → Operation

-- WHAT IS SEEN

-- Ages are counted by two things alone: the table was cleared; and a request, with all that it was told: its result, its answer and its cut notice.
pub data Event : Type 0 where
  cleared : Event
  answered : Call → Told → Event

-- Requests, each with what it was told.
unfoldable pub each_answered : List Call → List Told → List Event
each_answered [] xs = []
each_answered (c ∷ cs) [] = []
each_answered (c ∷ cs) (x ∷ xs) = answered c x ∷ each_answered cs xs

-- What is seen, and the table afterwards.
pub record Seen : Type 0 where
  pub events : List Event
  pub table : Table

-- A clearing is seen if it gave 0. Entering and adding, refused or not, open nothing and cut nothing, so nothing is seen of them.
unfoldable pub seen_clearing : SetUp → Seen
seen_clearing s = record { events = pick (eqb s.number 0) (cleared ∷ []) []; table = s.table }

unfoldable pub unseen : SetUp → Seen
unseen s = record { events = []; table = s.table }

unfoldable pub seen_request : (form : ℕ) → Call → Left → Seen
seen_request f c l = record { events = answered c (told f l.reply) ∷ []; table = l.table }

-- Of a burst each message that it took is seen, with what stands of it in the results, the answers and the notices that the burst leaves. A burst
-- that is refused took none.
unfoldable pub seen_burst : (form : ℕ) → (taken : List Call) → Bursted → Seen
seen_burst f cs x = record { events = each_answered cs (tolds f x); table = x.table }

unfoldable pub done : Table → Operation → Seen
done t clearing = seen_clearing (clear t)
done t (entering shares a) = unseen (enter t shares a)
done t (adding a e) = unseen (add t a e)
done t (asking c) = seen_request t.form c (handle t c)
done t (bursting b) = seen_burst t.form (taken_calls t b) (burst t b)

-- A HISTORY: all that was seen, in order, and the table in the end.

unfoldable pub seen_first : Seen → Seen → Seen
seen_first first rest = record { events = first.events ++ rest.events; table = rest.table }

unfoldable pub past : Table → List Operation → Seen
past t [] = record { events = []; table = t }
past t (x ∷ xs) = seen_first (done t x) (past (done t x).table xs)

-- A history begins with a table that was cleared, which is what a clearing that gave 0 leaves.
abbrev pub Cleared : Table → Type 0
Cleared t = (clear t).number ≡ 0

abbrev pub from_cleared : Table → List Operation → Seen
from_cleared t xs = past (clear t).table xs
