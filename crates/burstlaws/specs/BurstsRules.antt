-- What request W2 asks of a burst, as statements. Each has its proof in the file of its name, but for `RefusedStays`, whose proof is in NothingElse. That no
-- second outcome meets the promise is specs/NoSecondAnswer, that the order between subscribers does not matter specs/AnyOrder, and that many calls equal one
-- specs/ManyCalls.
use Rattle.std.specs.Prelude.{◌≡◌, Bool, false, ◌&&◌, not, List, [], ◌∷◌, map, ℕ, ◌-◌, ◌*◌, ◌≤◌, ◌<◌, eqb, leb, length, take, drop, get_or}
use Rattle.octets.specs.Lists.{keep}
use Rattle.octets.specs.Texts.{pieces}
use Rattle.message.specs.TheRooms.{answer_least, notice_length}
use Rattle.table.specs.TheTable.{Table}
use Rattle.rules.specs.Calls.{Call, Left, Result, handle, run}
use Rattle.order.specs.Demand3.{Told, brought, told}
use Rattle.burst.specs.TheBurst.{Burst, Bursted, burst, burst_number, calls_of, joined, refused_burst, whole_messages}
use Rattle.burst.specs.GoingOn.{rest, together}

-- ONE BY ONE. The messages that a burst takes, handled one by one, each with rooms of its own that are large enough, whatever stands in them: the
-- same table; and what they are told, one behind another, is what the burst writes.

-- The messages that were taken, as calls.
unfoldable pub taken_calls : Table → Burst → List Call
taken_calls t b = take (burst t b).taken.messages (calls_of t.form b)

-- What calls are told, one after another.
unfoldable pub told_all : Table → List Call → List Told
told_all t cs = map (told t.form) (run t cs).replies

pub record OneByOneIs (t : Table) (cs : List Call) (left : Bursted) : Type 0 where
  pub table : left.table ≡ (run t cs).table
  pub answers : take left.taken.answers left.answers ≡ joined (map (λ (x : Told). x.answer) (told_all t cs))
  pub notices : take (left.taken.notices * notice_length t.form) left.notices ≡ joined (map (λ (x : Told). x.notice) (told_all t cs))
  pub results : take left.taken.messages left.results ≡ map (λ (x : Told). x.result) (told_all t cs)

-- Calls that bring what those of the taken messages bring: the same operator, messages, own names and words, and rooms that are large enough.
abbrev pub SameAsTaken : Table → Burst → List Call → Type 0
SameAsTaken t b cs = map (brought t.form) cs ≡ map (brought t.form) (taken_calls t b)

abbrev pub OneByOne : Type 0
OneByOne = (t : Table) (b : Burst) (cs : List Call) → (burst t b).taken.number ≡ 0 → SameAsTaken t b cs → OneByOneIs t cs (burst t b)

-- WHAT IS TAKEN. As many as are said, and end to end they are the first bytes of those lent, as many as are said.
pub record TakenIs (b : Burst) (cs : List Call) (left : Bursted) : Type 0 where
  pub count : length cs ≡ left.taken.messages
  pub bytes : joined (map (λ (c : Call). c.message) cs) ≡ take left.taken.bytes b.messages

abbrev pub TakenAreFirst : Type 0
TakenAreFirst = (t : Table) (b : Burst) → (burst t b).taken.number ≡ 0 → TakenIs b (taken_calls t b) (burst t b)

-- WHY IT STOPPED is not told: the numbers say it. Where fewer messages are taken than are whole, too little is left of the rooms for one more.
unfoldable pub room_for_one : (form answers notices : ℕ) → Bool
room_for_one f a n = leb answer_least a && leb (notice_length f) n

abbrev pub WhyItStopped : Type 0
WhyItStopped =
    (t : Table) (b : Burst) → (burst t b).taken.number ≡ 0 → (burst t b).taken.messages < length (whole_messages b.messages)
    → room_for_one t.form (length b.answers - (burst t b).taken.answers) (length b.notices - (burst t b).taken.notices * notice_length t.form) ≡ false

-- WHOSE A NOTICE IS. Notices hold no lengths, and a result does not say where its notice stands. Cut into pieces of a notice's length, what was
-- written are the notices that the messages with a cut are told, in their order; and so are the results with a cut. So the k-th notice is that of
-- the k-th result with a cut, and there are as many.
unfoldable pub with_cut : List Told → List Told
with_cut xs = keep (λ (x : Told). eqb x.result.cut 1) xs

pub record WhoseNotices (t : Table) (cs : List Call) (left : Bursted) : Type 0 where
  pub results : keep (λ (r : Result). eqb r.cut 1) (take left.taken.messages left.results) ≡ map (λ (x : Told). x.result) (with_cut (told_all t cs))
  pub notices : pieces (notice_length t.form) left.taken.notices left.notices ≡ map (λ (x : Told). x.notice) (with_cut (told_all t cs))

abbrev pub NoticesInOrder : Type 0
NoticesInOrder = (t : Table) (b : Burst) (cs : List Call) → (burst t b).taken.number ≡ 0 → SameAsTaken t b cs → WhoseNotices t cs (burst t b)

-- ONE MESSAGE. A burst of one whole message, in rooms that are large enough, is one call in these rooms: the first place for results is written.
unfoldable pub the_call : Burst → Call
the_call b =
    record {
      operator = b.operator;
      message = b.messages;
      host = b.host;
      realm = b.realm;
      answer = b.answers;
      notice = b.notices;
      wag = not (eqb (get_or b.wags 0 0) 0);
    }

unfoldable pub left_by_one : Burst → Left → Bursted
left_by_one b l =
    record {
      taken = record { number = 0; messages = 1; bytes = length b.messages; answers = l.reply.result.length; notices = l.reply.result.cut };
      table = l.table;
      answers = l.reply.answer;
      notices = l.reply.notice;
      results = l.reply.result ∷ drop 1 b.results;
    }

abbrev pub OneMessage : Type 0
OneMessage =
    (t : Table) (b : Burst) → (burst t b).taken.number ≡ 0 → whole_messages b.messages ≡ b.messages ∷ []
    → answer_least ≤ length b.answers → notice_length t.form ≤ length b.notices
    → burst t b ≡ left_by_one b (handle t (the_call b))

-- WITHIN THE ROOMS. No more is taken or written than there is, and every room is as long as it was.
pub record HeldBy (t : Table) (b : Burst) (left : Bursted) : Type 0 where
  pub bytes : left.taken.bytes ≤ length b.messages
  pub answers : left.taken.answers ≤ length b.answers
  pub notices : left.taken.notices * notice_length t.form ≤ length b.notices
  pub results : left.taken.messages ≤ length b.results
  pub long-answers : length left.answers ≡ length b.answers
  pub long-notices : length left.notices ≡ length b.notices
  pub long-results : length left.results ≡ length b.results

abbrev pub WithinRooms : Type 0
WithinRooms = (t : Table) (b : Burst) → HeldBy t b (burst t b)

-- NOTHING ELSE. What stands behind what was written stays, in both rooms and in the places for results.
pub record RestStays (t : Table) (b : Burst) (left : Bursted) : Type 0 where
  pub answers : drop left.taken.answers left.answers ≡ drop left.taken.answers b.answers
  pub notices : drop (left.taken.notices * notice_length t.form) left.notices ≡ drop (left.taken.notices * notice_length t.form) b.notices
  pub results : drop left.taken.messages left.results ≡ drop left.taken.messages b.results

abbrev pub NothingElse : Type 0
NothingElse = (t : Table) (b : Burst) → RestStays t b (burst t b)

-- A burst that is refused has its number and zeros, and changes nothing at all.
abbrev pub RefusedStays : Type 0
RefusedStays = (t : Table) (b : Burst) → ((burst t b).taken.number ≡ 0 → ⊥) → burst t b ≡ refused_burst t b (burst_number t b)

-- TWO CALLS EQUAL ONE

-- How much the first call is lent of everything.
pub record Part : Type 0 where
  pub messages : ℕ
  pub wags : ℕ
  pub answers : ℕ
  pub notices : ℕ
  pub results : ℕ

unfoldable pub first_part : Part → Burst → Burst
first_part p b =
    record {
      operator = b.operator;
      host = b.host;
      realm = b.realm;
      messages = take p.messages b.messages;
      wags = take p.wags b.wags;
      answers = take p.answers b.answers;
      notices = take p.notices b.notices;
      results = take p.results b.results;
    }

-- Whatever the first call is lent, the second goes on as if it had not stopped, unless one call is refused by 18.
abbrev pub TwoCalls : Type 0
TwoCalls =
    (t : Table) (b : Burst) (p : Part) → eqb (burst_number t b) 18 ≡ false
    → together t.form (burst t (first_part p b)) (burst (burst t (first_part p b)).table (rest t.form (burst t (first_part p b)).taken b)) ≡ burst t b
