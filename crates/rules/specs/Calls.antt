-- A whole call: what the server answers, and what it leaves in the table and in the rooms.
use Rattle.std.specs.Prelude.{Bool, ◌&&◌, List, [], ◌∷◌, ◌++◌, ℕ, eqb, leb, length, drop}
use Rattle.octets.specs.Choice.{pick, require, first_of, within}
use Rattle.octets.specs.Texts.{filled}
use Rattle.message.specs.TheRooms.{answer_least, notice_length}
use Rattle.message.specs.Codes.{Code, none, plain, user_unknown, number_of, kind_of}
use Rattle.message.specs.CallsThatGetNoAnswer.{message_number}
use Rattle.message.specs.ReadingAMessage.{Request, Reading, refused, request, read}
use Rattle.message.specs.WritingTheAnswer.{answer, answer_room}
use Rattle.table.specs.TheTable.{Access, Account, Table, row_bytes, read_row, table_number, row_at, with_row, Found, row, nothing, lookup}
use Rattle.table.specs.Soundness.{sound}
use Rattle.rules.specs.Deciding.{Verdict, decide}

-- A CALL AND ITS REPLY

-- What a caller brings beside the table: the operator that the message came from; a message; the names by which the server calls itself, host and realm; two rooms to write
-- into, with what stands in them; and the word of the wireless gateway (WAG), true for yes.
pub record Call : Type 0 where
  pub operator : ℕ
  pub message : List ℕ
  pub host : List ℕ
  pub realm : List ℕ
  pub answer : List ℕ
  pub notice : List ℕ
  pub wag : Bool

-- The result, as eight numbers: how long the answer is; the code, and its kind, 0 for no answer, 1 for a Result-Code and 2 for an
-- Experimental-Result; where a new access stands, 0 if there is none; and of a cut 1 with the lengths of the texts that the notice
-- holds, all 0 if there was none. The realm's is 0 in form 1 too, where no access has one.
pub record Result : Type 0 where
  pub length : ℕ
  pub code : ℕ
  pub kind : ℕ
  pub place : ℕ
  pub cut : ℕ
  pub cut_session : ℕ
  pub cut_host : ℕ
  pub cut_realm : ℕ

-- The reply: the result, and all that stands in the two rooms afterwards.
pub record Reply : Type 0 where
  pub result : Result
  pub answer : List ℕ
  pub notice : List ℕ

-- What a call leaves: its reply, and the whole table.
pub record Left : Type 0 where
  pub reply : Reply
  pub table : Table

-- CALLS THAT GET NO DIAMETER ANSWER

-- The tests that do not look at the table, in order: 33, the operator is over 15; 2, the own host or realm is not 1 to 128 bytes; 3, the answer
-- room is under 5,120 bytes; 4, the notice room is shorter than a notice of the form; then the message's own, 5 to 8.
abbrev pub own_tests : (form : ℕ) → Call → List ℕ
own_tests f c =
    require (leb c.operator 15) 33
    ∷ require (within 1 128 (length c.host) && within 1 128 (length c.realm)) 2
    ∷ require (leb answer_least (length c.answer)) 3
    ∷ require (leb (notice_length f) (length c.notice)) 4
    ∷ message_number c.message
    ∷ []

-- Before them 1, the table is not 1 to 1,024 rows. 0 where none fails.
unfoldable pub call_number : Table → Call → ℕ
call_number t c = first_of (table_number t ∷ own_tests t.form c)

-- What such a call leaves: its number as the code, of kind 0, and 0 for everything else; rooms and table as they were.
unfoldable pub silent : Table → Call → ℕ → Left
silent t c n =
    record {
      reply = record {
        result = record { length = 0; code = n; kind = kind_of (none n); place = 0; cut = 0; cut_session = 0; cut_host = 0; cut_realm = 0 };
        answer = c.answer;
        notice = c.notice;
      };
      table = t;
    }

-- THE CUT NOTICE

-- The cut access's Session-Id, the host of its gateway and, in form 2, the gateway's realm, each in 128 bytes with zeros behind it.
unfoldable pub notice_bytes : (form : ℕ) → Access → List ℕ
notice_bytes f a = filled a.session 128 ++ (filled a.host 128 ++ pick (eqb f 2) (filled a.realm 128) [])

-- What the room has past these bytes stays, and all of it where nothing is cut.
unfoldable pub notice_room : (form : ℕ) → List Access → List ℕ → List ℕ
notice_room f [] room = room
notice_room f (a ∷ as') room = notice_bytes f a ++ drop (notice_length f) room

unfoldable pub result_of : (length place : ℕ) → Code → List Access → Result
result_of n place c [] =
    record { length = n; code = number_of c; kind = kind_of c; place = place; cut = 0; cut_session = 0; cut_host = 0; cut_realm = 0 }
result_of n place c (a ∷ as') =
    record {
      length = n;
      code = number_of c;
      kind = kind_of c;
      place = place;
      cut = 1;
      cut_session = length a.session;
      cut_host = length a.host;
      cut_realm = length a.realm;
    }

-- A CALL THAT IS ANSWERED

unfoldable pub reply : (form : ℕ) → Call → Code → (place : ℕ) → (cut : List Access) → Reply
reply f c code place cut =
    record {
      result = result_of (length (answer c.message c.host c.realm code)) place code cut;
      answer = answer_room c.message c.host c.realm code c.answer;
      notice = notice_room f cut c.notice;
    }

-- A refusal: the code, no place, no cut, and the table as it was.
unfoldable pub refusal : Table → Call → Code → Left
refusal t c code = record { reply = reply t.form c code 0 []; table = t }

-- The table that a verdict on row i leaves: that row is the bytes of what it says then; every code but 2001 leaves the table as it was.
unfoldable pub table_after : Table → ℕ → Verdict → Table
table_after t i v = pick (eqb (number_of v.code) 2001) (with_row t i (row_bytes t.form v.after)) t

unfoldable pub settled : Table → Call → ℕ → Verdict → Left
settled t c i v =
    record {
      reply = reply t.form c v.code v.place v.cut;
      table = table_after t i v;
    }

-- Any request: no row, USER_UNKNOWN; the row is unsound, 5012; else as decided.
unfoldable pub on_row : Table → Call → Request → Found → Left
on_row t c q nothing = refusal t c user_unknown
on_row t c q (row i) =
    let r : List ℕ = row_at t i in
    let decided : Left = settled t c i (decide t.form q.ask c.wag (read_row r)) in
    pick (sound r) decided (refusal t c (plain 5012))

-- Whose row a request is for: that of the operator and the user.
unfoldable pub account : Call → Request → Account
account c q = record { operator = c.operator; name = q.user }

-- The message is read; the first failing test gives the code.
unfoldable pub on_reading : Table → Call → Reading → Left
on_reading t c (refused code) = refusal t c (plain code)
on_reading t c (request q) = on_row t c q (lookup t (account c q))

-- How many Routing-Policy AVPs a request may bring: as many as a place of the form holds.
unfoldable pub most_policies : (form : ℕ) → ℕ
most_policies f = pick (eqb f 2) 3 1

unfoldable pub handle : Table → Call → Left
handle t c =
    let answered : Left = on_reading t c (read (most_policies t.form) c.message) in
    pick (eqb (call_number t c) 0) answered (silent t c (call_number t c))

-- A LIST OF CALLS, one after another on one table: the replies, one for each call, and the table in the end.
pub record Ran : Type 0 where
  pub replies : List Reply
  pub table : Table

unfoldable pub ran_first : Left → Ran → Ran
ran_first l rest = record { replies = l.reply ∷ rest.replies; table = rest.table }

unfoldable pub run : Table → List Call → Ran
run t [] = record { replies = []; table = t }
run t (c ∷ cs) = ran_first (handle t c) (run (handle t c).table cs)
