-- Demand 2: the first failing check gives the code, success is given exactly when none fails, what is cut, and what stays. All of it is said
-- of tables of either form (W5): the form of the table decides how many policies a request may bring, what is kept of it, how a row is laid
-- out, and how long a notice is (W6).
use Rattle.std.specs.Prelude.{◌≡◌, Bool, true, false, ◌&&◌, not, List, [], ◌∷◌, ◌++◌, ℕ, eqb, length}
use Rattle.octets.specs.Choice.{pick}
use Rattle.message.specs.Codes.{Code, plain, user_unknown, number_of, kind_of}
use Rattle.message.specs.ReadingAMessage.{Ask, tunnel, policy, termination, Request, command, avps, request_of}
use Rattle.table.specs.TheTable.{Access, Subscriber, Table, Found, row, nothing, is_found, lookup, row_at, with_row, read_row, row_bytes}
use Rattle.table.specs.Soundness.{sound, on_entry}
use Rattle.changes.specs.Changes.{freed, kept_in, lowest_free, opened, routed}
use Rattle.rules.specs.Deciding.{entry_named, with_session, stands_on, at_limit, place_of}
use Rattle.rules.specs.Calls.{account, Call, Left, call_number, silent, reply, refusal, handle, most_policies, run}
use Rattle.order.specs.ChecksInOrder.{Check, no_row, unsound_row, check, first_failing, none_fails, reading_checks, deciding_checks}

-- THE CHECKS OF A CALL

-- What the message asks and for whom, once it is read; the user's row, and what it says. No bytes where there is no row.
unfoldable pub request_in : Call → Request
request_in c = request_of (command c.message) (avps c.message)

unfoldable pub found : Table → Call → Found
found t c = lookup t (account c (request_in c))

unfoldable pub row_found : Table → Found → List ℕ
row_found t nothing = []
row_found t (row i) = row_at t i

unfoldable pub row_before : Table → Call → List ℕ
row_before t c = row_found t (found t c)

abbrev pub said : Table → Call → Subscriber
said t c = read_row (row_before t c)

-- In the paper's order: reading; there is a row; it is sound; deciding.
unfoldable pub checks : Table → Call → List Check
checks t c =
    reading_checks (most_policies t.form) c.message
    ++ (check no_row (is_found (found t c)) user_unknown
    ∷ check unsound_row (sound (row_before t c)) (plain 5012)
    ∷ deciding_checks (request_in c).ask c.wag (said t c))

-- A call succeeds if it is one that gets an answer and none of its checks fails.
unfoldable pub succeeds : Table → Call → Bool
succeeds t c = eqb (call_number t c) 0 && none_fails (checks t c)

-- THE CUT

-- A tunnel is asked for that does not stand on its entry yet: only then something is opened (W11).
unfoldable pub opens : Ask → Subscriber → Bool
opens (tunnel session host realm label visited) s = not (stands_on (entry_named label s) session s)
opens (policy session first second third) s = false
opens (termination session label) s = false

-- A tunnel is opened on an entry that is at its limit.
unfoldable pub exceeds : Ask → Subscriber → Bool
exceeds (tunnel session host realm label visited) s = opens (tunnel session host realm label visited) s && at_limit (entry_named label s) s
exceeds (policy session first second third) s = false
exceeds (termination session label) s = false

-- The accesses on the entry that is asked for, first on the order line first.
unfoldable pub on_asked : Ask → Subscriber → List Access
on_asked (tunnel session host realm label visited) s = on_entry (entry_named label s) s.accesses
on_asked (policy session first second third) s = []
on_asked (termination session label) s = []

-- The first of a list, alone.
unfoldable pub first_alone : List Access → List Access
first_alone [] = []
first_alone (a ∷ others) = a ∷ []

-- What is cut: nothing, or the first on the order line of the accesses on that entry.
unfoldable pub cut_for : Ask → Subscriber → List Access
cut_for q s = pick (exceeds q s) (first_alone (on_asked q s)) []

-- What the row says once the cut is made.
unfoldable pub spared : Ask → Subscriber → Subscriber
spared q s = pick (exceeds q s) (freed (place_of (on_asked q s)) s) s

-- A new tunnel takes the lowest place that is free then; where none is opened, it is 0.
unfoldable pub place_taken : Ask → Subscriber → ℕ
place_taken q s = pick (opens q s) (lowest_free (spared q s).accesses) 0

-- What the row says after success, in a table of the form: the new access stands behind those that are left, or, where none is opened, it says
-- what it said; or the policies replace what was held; or the place is freed.
unfoldable pub afterwards : (form : ℕ) → Ask → Subscriber → Subscriber
afterwards f (tunnel session host realm label visited) s =
    let q : Ask = tunnel session host realm label visited in
    pick (opens q s) (opened (entry_named label s) (record { session = session; host = host; realm = kept_in f realm }) (spared q s)) s
afterwards f (policy session first second third) s =
    routed (place_of (with_session session s.accesses)) (record { first = first; second = second; third = third }) s
afterwards f (termination session label) s = freed (place_of (with_session session (on_entry (entry_named label s) s.accesses))) s

-- THE STATEMENTS, for any table of any form and any call.

-- A call that gets an answer gets the code, and the kind of code, of the first of its checks that fails.
pub record CodeOf (code : Code) (l : Left) : Type 0 where
  pub number : l.reply.result.code ≡ number_of code
  pub kind : l.reply.result.kind ≡ kind_of code

abbrev pub FirstFailingCheck : Type 0
FirstFailingCheck = (t : Table) (c : Call) → call_number t c ≡ 0 → CodeOf (first_failing (checks t c)) (handle t c)

-- 2001 is given exactly when none fails.
abbrev pub SuccessExactly : Type 0
SuccessExactly = (t : Table) (c : Call) → eqb (handle t c).reply.result.code 2001 ≡ succeeds t c

-- Any other code, or no answer: the table and the notice room stay as they were, and there is no place and no cut.
pub record Unchanged (t : Table) (c : Call) (l : Left) : Type 0 where
  pub table : l.table ≡ t
  pub notice : l.reply.notice ≡ c.notice
  pub place : l.reply.result.place ≡ 0
  pub cut : l.reply.result.cut ≡ 0
  pub cut-session : l.reply.result.cut_session ≡ 0
  pub cut-host : l.reply.result.cut_host ≡ 0
  pub cut-realm : l.reply.result.cut_realm ≡ 0

abbrev pub RefusedChangesNothing : Type 0
RefusedChangesNothing = (t : Table) (c : Call) → eqb (handle t c).reply.result.code 2001 ≡ false → Unchanged t c (handle t c)

-- All that these two leave: no answer, with the number of the first of the nine tests that fails; or a refusal with the code
-- of the first check that fails.
abbrev pub UnansweredLeaves : Type 0
UnansweredLeaves = (t : Table) (c : Call) → eqb (call_number t c) 0 ≡ false → handle t c ≡ silent t c (call_number t c)

abbrev pub RefusedLeaves : Type 0
RefusedLeaves = (t : Table) (c : Call) → call_number t c ≡ 0 → succeeds t c ≡ false → handle t c ≡ refusal t c (first_failing (checks t c))

-- A cut is made exactly when a call succeeds that opens a tunnel on an entry that is at its limit.
abbrev pub CutExactly : Type 0
CutExactly = (t : Table) (c : Call) → (handle t c).reply.result.cut ≡ pick (succeeds t c && exceeds (request_in c).ask (said t c)) 1 0

-- There is then an access to cut.
abbrev pub OneToCut : Type 0
OneToCut = (t : Table) (c : Call) → succeeds t c && exceeds (request_in c).ask (said t c) ≡ true → length (cut_for (request_in c).ask (said t c)) ≡ 1

-- The whole reply to a call that succeeds: 2001, the place taken, and the cut.
abbrev pub SuccessReply : Type 0
SuccessReply =
    (t : Table) (c : Call) → succeeds t c ≡ true
    → (handle t c).reply ≡ reply t.form c (plain 2001) (place_taken (request_in c).ask (said t c)) (cut_for (request_in c).ask (said t c))

-- On success the row that the lookup finds, a sound one, is replaced by the bytes of what it says afterwards. That is sound
-- again, and reads as it was meant.
pub record Replaced (t : Table) (c : Call) (i : ℕ) (l : Left) : Type 0 where
  pub was-sound : sound (row_at t i) ≡ true
  pub table : l.table ≡ with_row t i (row_bytes t.form (afterwards t.form (request_in c).ask (read_row (row_at t i))))
  pub is-sound : sound (row_at l.table i) ≡ true
  pub says : read_row (row_at l.table i) ≡ afterwards t.form (request_in c).ask (read_row (row_at t i))

abbrev pub SuccessFindsRow : Type 0
SuccessFindsRow = (t : Table) (c : Call) → succeeds t c ≡ true → is_found (found t c) ≡ true

abbrev pub SuccessReplacesRow : Type 0
SuccessReplacesRow = (t : Table) (c : Call) (i : ℕ) → succeeds t c ≡ true → found t c ≡ row i → Replaced t c i (handle t c)

-- Every other row stays as it was, whatever the call.
abbrev pub OtherRowsStay : Type 0
OtherRowsStay = (t : Table) (c : Call) (j : ℕ) → (found t c ≡ row j → ⊥) → row_at (handle t c).table j ≡ row_at t j

-- A sound row stays sound under every call, and so under every list of calls.
abbrev pub SoundStaysSound : Type 0
SoundStaysSound = (t : Table) (c : Call) (j : ℕ) → sound (row_at t j) ≡ true → sound (row_at (handle t c).table j) ≡ true

abbrev pub SoundStaysInList : Type 0
SoundStaysInList = (t : Table) (cs : List Call) (j : ℕ) → sound (row_at t j) ≡ true → sound (row_at (run t cs).table j) ≡ true
