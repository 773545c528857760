-- Demand 3: order between subscribers does not matter. A list of calls is run on one table, and no call changes the form of a table (`FormStays`):
-- so the form is the same for all calls of a list, and what depends on how messages are read (W5) or on how long a notice is (W6) takes that form.
use Rattle.std.specs.Prelude.{◌≡◌, Bool, true, false, ◌&&◌, List, [], ◌∷◌, ◌++◌, map, ℕ, eqb, leb, length, take}
use Rattle.octets.specs.Choice.{pick, require, first_of}
use Rattle.octets.specs.Lists.{keep}
use Rattle.octets.specs.Texts.{same, put}
use Rattle.message.specs.TheRooms.{answer_least, notice_length}
use Rattle.message.specs.ReadingAMessage.{Reading, refused, request, read, header_code, walk_code, command, avps, starts_with, session_id, user_name, value_of, field_code, fields}
use Rattle.table.specs.TheTable.{Access, Account, Found, Table, row, nothing, lookup, row_at}
use Rattle.rules.specs.Calls.{Call, Result, Reply, Left, own_tests, handle, most_policies, run, notice_bytes}
use Rattle.order.specs.Demand2.{cut_for, request_in, said, succeeds}

-- WHOSE A CALL IS

pub data Subject : Type 0 where
  nobody : Subject
  subscriber : Account → Subject

unfoldable pub same_account : Account → Account → Bool
same_account a b = eqb a.operator b.operator && same a.name b.name

unfoldable pub same_subject : Subject → Subject → Bool
same_subject nobody nobody = true
same_subject nobody (subscriber b) = false
same_subject (subscriber a) nobody = false
same_subject (subscriber a) (subscriber b) = same_account a b

-- The tests that get no answer and do not look at the table but for its form: numbers 33 and 2 to 8, in order, 0 where none fails.
unfoldable pub own_number : (form : ℕ) → Call → ℕ
own_number f c = first_of (own_tests f c)

-- A message that is refused as it is read is nobody's; any other is that of its operator and of the User-Name in it.
unfoldable pub sent_by : (operator : ℕ) → Reading → Subject
sent_by o (refused code) = nobody
sent_by o (request q) = subscriber (record { operator = o; name = q.user })

-- A call that gets no answer, for another reason than the table, is nobody's; any other is its message's. Tested and read as for a
-- table of the form.
unfoldable pub subject : (form : ℕ) → Call → Subject
subject f c = pick (eqb (own_number f c) 0) (sent_by c.operator (read (most_policies f) c.message)) nobody

unfoldable pub is_of : (form : ℕ) → Subject → Call → Bool
is_of f who c = same_subject (subject f c) who

-- THE CALLS OF ONE SUBJECT, AND THE REPLIES TO THEM, in their order.

unfoldable pub calls_of : (form : ℕ) → Subject → List Call → List Call
calls_of f who cs = keep (is_of f who) cs

-- `rs` holds a reply for each call of `cs`.
unfoldable pub replies_of : (form : ℕ) → Subject → (cs : List Call) → (rs : List Reply) → List Reply
replies_of f who [] rs = []
replies_of f who (c ∷ cs) [] = []
replies_of f who (c ∷ cs) (r ∷ rs) = pick (is_of f who c) (r ∷ replies_of f who cs rs) (replies_of f who cs rs)

-- A SUBSCRIBER'S RECORD: the bytes of the row that the lookup finds, or that there is none.

pub data Record : Type 0 where
  absent : Record
  bytes : List ℕ → Record

unfoldable pub record_at : Table → Found → Record
record_at t nothing = absent
record_at t (row i) = bytes (row_at t i)

unfoldable pub record_of : Account → Table → Record
record_of a t = record_at t (lookup t a)

-- No call changes the form, and so no list of calls does.
abbrev pub FormStays : Type 0
FormStays = (t : Table) (cs : List Call) → (run t cs).table.form ≡ t.form

-- A LIST OF CALLS gets one reply for each call, in their order, and each is the one that `handle` gives on the table that
-- the calls before it leave.

abbrev pub OneReplyEach : Type 0
OneReplyEach = (t : Table) (cs : List Call) → length (run t cs).replies ≡ length cs

-- What a call gets and leaves behind the calls `before` it, whatever calls come after.
abbrev pub EachInTurn : Type 0
EachInTurn =
    (t : Table) (before : List Call) (c : Call) (after : List Call)
    → (run t (before ++ (c ∷ after))).replies
    ≡ (run t before).replies ++ ((handle (run t before).table c).reply ∷ (run (handle (run t before).table c).table after).replies)

abbrev pub LastTable : Type 0
LastTable = (t : Table) (before : List Call) (c : Call) → (run t (before ++ (c ∷ []))).table ≡ (handle (run t before).table c).table

-- WHAT A CALL BRINGS AND WHAT IT IS TOLD, whatever stands in its rooms: a caller may lend the same two rooms to all calls, and
-- then what stands in them depends on the calls before.

-- What a call brings to a table of the form; of the two rooms only whether they are large enough, by the numbers 3 and 4.
pub record Brought : Type 0 where
  pub operator : ℕ
  pub message : List ℕ
  pub host : List ℕ
  pub realm : List ℕ
  pub answer_fits : Bool
  pub notice_fits : Bool
  pub wag : Bool

unfoldable pub brought : (form : ℕ) → Call → Brought
brought f c =
    record {
      operator = c.operator;
      message = c.message;
      host = c.host;
      realm = c.realm;
      answer_fits = leb answer_least (length c.answer);
      notice_fits = leb (notice_length f) (length c.notice);
      wag = c.wag;
    }

-- What a reply tells: the result, the bytes of the answer, and those of a cut notice of the form, none without a cut.
pub record Told : Type 0 where
  pub result : Result
  pub answer : List ℕ
  pub notice : List ℕ

unfoldable pub told : (form : ℕ) → Reply → Told
told f r =
    record {
      result = r.result;
      answer = take r.result.length r.answer;
      notice = pick (eqb r.result.cut 1) (take (notice_length f) r.notice) [];
    }

-- The table after a call, and what it is told, depend on the call only by what it brings.
pub record SameLeft (form : ℕ) (l k : Left) : Type 0 where
  pub table : l.table ≡ k.table
  pub reply : told form l.reply ≡ told form k.reply

abbrev pub BroughtDecides : Type 0
BroughtDecides = (t : Table) (c d : Call) → brought t.form c ≡ brought t.form d → SameLeft t.form (handle t c) (handle t d)

-- Each room afterwards is as it stood, but for what is told, which is written from its first byte on.
pub record RoomsOf (form : ℕ) (c : Call) (r : Reply) : Type 0 where
  pub answer : r.answer ≡ put c.answer 0 (told form r).answer
  pub notice : r.notice ≡ put c.notice 0 (told form r).notice

abbrev pub RoomsAfter : Type 0
RoomsAfter = (t : Table) (c : Call) → RoomsOf t.form c (handle t c).reply

-- Of a cut the whole notice is told: the two texts of form 1, the three of form 2.
abbrev pub NoticeTold : Type 0
NoticeTold =
    (t : Table) (c : Call) (a : Access) → succeeds t c ≡ true → cut_for (request_in c).ask (said t c) ≡ a ∷ []
    → (told t.form (handle t c).reply).notice ≡ notice_bytes t.form a

-- DEMAND 3. The table is any list of numbers of any form, one that number 1 refuses too. The calls are any, each with its own names,
-- rooms and word from the WAG.

-- The replies to each subject's calls, with the cuts in them, are those that its calls alone get.
abbrev pub RepliesAlone : Type 0
RepliesAlone = (t : Table) (cs : List Call) (who : Subject) → replies_of t.form who cs (run t cs).replies ≡ (run t (calls_of t.form who cs)).replies

-- Each subscriber's record in the end is the one that its calls alone leave.
abbrev pub RecordAlone : Type 0
RecordAlone =
    (t : Table) (cs : List Call) (a : Account)
    → record_of a (run t cs).table ≡ record_of a (run t (calls_of t.form (subscriber a) cs)).table

-- It is found in the row in which it was found before, or not at all if it was not.
abbrev pub LookupStays : Type 0
LookupStays = (t : Table) (cs : List Call) (a : Account) → lookup (run t cs).table a ≡ lookup t a

-- Two lists in which a subject's calls bring the same, in the same order. Where all rooms are large enough that is: the same
-- operator, message, own names and word from the WAG.
abbrev pub SameBrought : (form : ℕ) → Subject → List Call → List Call → Type 0
SameBrought f who cs ds = map (brought f) (calls_of f who cs) ≡ map (brought f) (calls_of f who ds)

-- If each subscriber's calls bring the same, both lists end with the same table, byte for byte.
abbrev pub SameTable : Type 0
SameTable =
    (t : Table) (cs ds : List Call) → ((a : Account) → SameBrought t.form (subscriber a) cs ds) → (run t cs).table ≡ (run t ds).table

-- A subject's calls are told the same, in the same order, and a subscriber's record ends the same, if these calls bring the
-- same, whatever the others bring. So `ds` may be these calls alone, in other rooms.
abbrev pub SameReplies : Type 0
SameReplies =
    (t : Table) (cs ds : List Call) (who : Subject) → SameBrought t.form who cs ds
    → map (told t.form) (replies_of t.form who cs (run t cs).replies) ≡ map (told t.form) (replies_of t.form who ds (run t ds).replies)

abbrev pub SameRecord : Type 0
SameRecord =
    (t : Table) (cs ds : List Call) (a : Account) → SameBrought t.form (subscriber a) cs ds
    → record_of a (run t cs).table ≡ record_of a (run t ds).table

-- Nobody's call gets a reply that depends on no record: it is the same on any two tables of one form and one length, and it
-- changes nothing.
abbrev pub NobodysReply : Type 0
NobodysReply =
    (t u : Table) (c : Call) → subject t.form c ≡ nobody → t.form ≡ u.form → length t.bytes ≡ length u.bytes
    → (handle t c).reply ≡ (handle u c).reply

abbrev pub NobodyChangesNothing : Type 0
NobodyChangesNothing = (t : Table) (c : Call) → subject t.form c ≡ nobody → (handle t c).table ≡ t

-- So wherever it stands in a list, it gets the reply that it gets on the table before the list.
abbrev pub NobodysReplies : Type 0
NobodysReplies =
    (t : Table) (cs : List Call) → replies_of t.form nobody cs (run t cs).replies ≡ map (λ (c : Call). (handle t c).reply) (calls_of t.form nobody cs)

-- COUNTED BY THE USER-NAME. A message that is refused once its User-Name was read may be counted as that user's, and not as
-- nobody's. Demand 3 holds for this counting too, and for any in which a call that is not refused is its subscriber's.

abbrev pub Counting : (form : ℕ) → (Call → Subject) → Type 0
Counting f owner = (c : Call) (a : Account) → subject f c ≡ subscriber a → owner c ≡ subscriber a

-- The User-Name is read: header and walk pass, and so do the first eight of the list, of which User-Name is the eighth for
-- both commands.
unfoldable pub name_read : (most : ℕ) → List ℕ → Bool
name_read most m =
    eqb (first_of (header_code m ∷ walk_code m ∷ require (starts_with session_id (avps m)) 5005 ∷ take 8 (map (field_code (avps m)) (fields most (command m) (avps m))))) 0

unfoldable pub sender : (form : ℕ) → Call → Subject
sender f c = pick (eqb (own_number f c) 0 && name_read (most_policies f) c.message) (subscriber (record { operator = c.operator; name = value_of user_name (avps c.message) })) nobody

unfoldable pub is_by : (Call → Subject) → Subject → Call → Bool
is_by owner who c = same_subject (owner c) who

unfoldable pub calls_by : (Call → Subject) → Subject → List Call → List Call
calls_by owner who cs = keep (is_by owner who) cs

unfoldable pub replies_by : (Call → Subject) → Subject → (cs : List Call) → (rs : List Reply) → List Reply
replies_by owner who [] rs = []
replies_by owner who (c ∷ cs) [] = []
replies_by owner who (c ∷ cs) (r ∷ rs) = pick (is_by owner who c) (r ∷ replies_by owner who cs rs) (replies_by owner who cs rs)

-- Both ways of counting are such.
abbrev pub SubjectCounts : Type 0
SubjectCounts = (form : ℕ) → Counting form (subject form)

abbrev pub SenderCounts : Type 0
SenderCounts = (form : ℕ) → Counting form (sender form)

-- A call of no sender is nobody's, so that its reply depends on no record.
abbrev pub NoSender : Type 0
NoSender = (form : ℕ) (c : Call) → sender form c ≡ nobody → subject form c ≡ nobody

-- A subscriber's replies and record by this counting.
abbrev pub RepliesAloneBy : Type 0
RepliesAloneBy =
    (t : Table) (owner : Call → Subject) → Counting t.form owner → (cs : List Call) (a : Account)
    → replies_by owner (subscriber a) cs (run t cs).replies ≡ (run t (calls_by owner (subscriber a) cs)).replies

abbrev pub RecordAloneBy : Type 0
RecordAloneBy =
    (t : Table) (owner : Call → Subject) → Counting t.form owner → (cs : List Call) (a : Account)
    → record_of a (run t cs).table ≡ record_of a (run t (calls_by owner (subscriber a) cs)).table

-- Two lists in which a subject's calls by this counting bring the same.
abbrev pub SameBroughtBy : (form : ℕ) → (Call → Subject) → Subject → List Call → List Call → Type 0
SameBroughtBy f owner who cs ds = map (brought f) (calls_by owner who cs) ≡ map (brought f) (calls_by owner who ds)

abbrev pub SameTableBy : Type 0
SameTableBy =
    (t : Table) (owner : Call → Subject) → Counting t.form owner → (cs ds : List Call)
    → ((a : Account) → SameBroughtBy t.form owner (subscriber a) cs ds) → (run t cs).table ≡ (run t ds).table

abbrev pub SameRepliesBy : Type 0
SameRepliesBy =
    (t : Table) (owner : Call → Subject) → Counting t.form owner → (cs ds : List Call) (a : Account) → SameBroughtBy t.form owner (subscriber a) cs ds
    → map (told t.form) (replies_by owner (subscriber a) cs (run t cs).replies) ≡ map (told t.form) (replies_by owner (subscriber a) ds (run t ds).replies)

abbrev pub SameRecordBy : Type 0
SameRecordBy =
    (t : Table) (owner : Call → Subject) → Counting t.form owner → (cs ds : List Call) (a : Account) → SameBroughtBy t.form owner (subscriber a) cs ds
    → record_of a (run t cs).table ≡ record_of a (run t ds).table
