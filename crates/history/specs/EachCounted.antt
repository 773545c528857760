-- Proof of age (W12), the count: for each subscriber and label, accesses opened equal accesses standing plus cuts made plus terminations that succeeded.
use Rattle.std.specs.Prelude.{◌≡◌, Bool, false, ◌&&◌, not, List, [], ◌∷◌, ℕ, suc, ◌+◌, eqb, length}
use Rattle.octets.specs.Choice.{pick}
use Rattle.message.specs.ReadingAMessage.{Ask, tunnel, policy, termination}
use Rattle.table.specs.TheTable.{Account, Table}
use Rattle.table.specs.Soundness.{same_label}
use Rattle.rules.specs.Calls.{Call}
use Rattle.order.specs.Demand2.{request_in}
use Rattle.order.specs.Demand3.{Told, subscriber, is_of}
use Rattle.order.specs.OpenedFirst.{label_asked}
use Rattle.history.specs.Histories.{Cleared, Event, Operation, answered, cleared, from_cleared}
use Rattle.history.specs.OrderOfOpening.{on_name, standing}

-- WHAT A REQUEST COUNTS AS, by its result

-- It opened an access: the result has a place. It made a cut: the result has one. It ended an access: it is a termination with Result-Code 2001.
unfoldable pub opens : Ask → Told → Bool
opens q x = not (eqb x.result.place 0)

unfoldable pub cuts : Ask → Told → Bool
cuts q x = eqb x.result.cut 1

unfoldable pub ends : Ask → Told → Bool
ends (tunnel session host realm label visited) x = false
ends (policy session first second third) x = false
ends (termination session label) x = eqb x.result.code 2001

-- The request is the subscriber's, and on that label: a cut counts under the label of the request that made it.
unfoldable pub is_on : (form : ℕ) → Account → (label : List ℕ) → Call → Bool
is_on f a label c = is_of f (subscriber a) c && same_label (label_asked (request_in c).ask) label

-- HOW MANY, of a subscriber on a label, since the table was cleared last; `n` to begin with.
unfoldable pub count_from : (Ask → Told → Bool) → (form : ℕ) → Account → (label : List ℕ) → (n : ℕ) → List Event → ℕ
count_from as' f a label n [] = n
count_from as' f a label n (cleared ∷ es) = count_from as' f a label 0 es
count_from as' f a label n (answered c x ∷ es) = count_from as' f a label (pick (is_on f a label c && as' (request_in c).ask x) (suc n) n) es

abbrev pub count_of : (Ask → Told → Bool) → (form : ℕ) → Account → (label : List ℕ) → List Event → ℕ
count_of as' f a label es = count_from as' f a label 0 es

-- EACH IS COUNTED: whatever was opened stands, was cut or was ended, and each once. What stands is read from the table.
abbrev pub EachCounted : Type 0
EachCounted =
    (t : Table) (xs : List Operation) (a : Account) (label : List ℕ) → Cleared t
    → let es : List Event = (from_cleared t xs).events in
    count_of opens t.form a label es
    ≡ length (on_name label (standing (from_cleared t xs).table a)) + (count_of cuts t.form a label es + count_of ends t.form a label es)
