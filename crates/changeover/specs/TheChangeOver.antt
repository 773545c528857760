-- The change-over to form 2 (W5): a table that was moved answers as before, for as long as no request brings a second Routing-Policy, which is
-- what form 2 is for, and every call brings a notice room for a notice of form 2 (W6). What form 2 keeps beside is the realm of the gateway: no
-- answer says it, and a cut notice says it behind all that it said before.
use Rattle.std.specs.Prelude.{◌≡◌, Bool, true, List, [], map, ℕ, ◌≤◌, ◌<◌, eqb, leb, length, take, drop}
use Rattle.octets.specs.Choice.{pick}
use Rattle.octets.specs.Lists.{every}
use Rattle.octets.specs.Texts.{all_zero}
use Rattle.message.specs.TheRooms.{notice_length}
use Rattle.message.specs.ReadingAMessage.{Ask, avps, having, read, routing_policy}
use Rattle.table.specs.Answers.{lent}
use Rattle.table.specs.TheTable.{Access, Subscriber, Table, read_row, row_at, rows}
use Rattle.changes.specs.Changes.{with_accesses}
use Rattle.moving.specs.Moving.{move}
use Rattle.rules.specs.Calls.{Call, Reply, run}
use Rattle.rules.specs.Deciding.{Verdict, decide}

-- READING

-- How many Routing-Policy AVPs a message has.
unfoldable pub policies_in : (message : List ℕ) → ℕ
policies_in m = length (having routing_policy (avps m))

-- A call that brings no second one.
unfoldable pub one_policy : Call → Bool
one_policy c = leb (policies_in c.message) 1

-- A message without a second one is read the same whether one is allowed or three: the same request, or the same code.
abbrev pub ReadAlike : Type 0
ReadAlike = (m : List ℕ) → policies_in m ≤ 1 → read 3 m ≡ read 1 m

-- DECIDING

-- The same with every realm taken away: of an access, of what a row says, and of what is decided.
unfoldable pub without_realm : Access → Access
without_realm a = record { place = a.place; entry = a.entry; session = a.session; host = a.host; realm = []; policies = a.policies }

unfoldable pub without_realms : Subscriber → Subscriber
without_realms s = with_accesses (map without_realm s.accesses) s

unfoldable pub decided_without : Verdict → Verdict
decided_without v = record { code = v.code; place = v.place; cut = map without_realm v.cut; after = without_realms v.after }

-- No realm is ever looked at: form 1 decides on a row without its realms what form 2 decides on the row, but for the realms.
abbrev pub DecidedAlike : Type 0
DecidedAlike = (ask : Ask) (wag : Bool) (s : Subscriber) → decide 1 ask wag (without_realms s) ≡ decided_without (decide 2 ask wag s)

-- THE CHANGE-OVER

-- Of a row in form 1 and the row in form 2: both are wholly zero or neither is, and they say the same but for the realms.
pub record SaysAlike (old new : List ℕ) : Type 0 where
  pub zero-alike : all_zero new ≡ all_zero old
  pub says-alike : without_realms (read_row new) ≡ read_row old

-- A call that brings a notice room of 384 bytes or more, which is a notice of form 2.
unfoldable pub room_for_both : Call → Bool
room_for_both c = leb (notice_length 2) (length c.notice)

-- What a reply tells in both forms: the seven numbers, which are all but the length of a cut realm; the answer room; and the notice room but for
-- the 128 bytes that have the cut realm in form 2. So of a cut it is the first 256 bytes, which are the notice of form 1, and what stands behind
-- the notice of form 2; and without a cut all of it.
pub record ToldInBoth : Type 0 where
  pub length : ℕ
  pub code : ℕ
  pub kind : ℕ
  pub place : ℕ
  pub cut : ℕ
  pub cut_session : ℕ
  pub cut_host : ℕ
  pub answer : List ℕ
  pub notice : List ℕ
  pub behind : List ℕ

unfoldable pub told_in_both : Reply → ToldInBoth
told_in_both r =
    record {
      length = r.result.length;
      code = r.result.code;
      kind = r.result.kind;
      place = r.result.place;
      cut = r.result.cut;
      cut_session = r.result.cut_session;
      cut_host = r.result.cut_host;
      answer = r.answer;
      notice = pick (eqb r.result.cut 1) (take (notice_length 1) r.notice) r.notice;
      behind = drop (notice_length 2) r.notice;
    }

-- A list of calls on the old table and on the new one: call by call the replies tell the same in both forms; and afterwards the rows say the
-- same but for the realms.
pub record Unnoticed (old new : Table) (cs : List Call) : Type 0 where
  pub replies-same : map told_in_both (run new cs).replies ≡ map told_in_both (run old cs).replies
  pub rows_alike : (i : ℕ) → i < length (rows old) → SaysAlike (row_at (run old cs).table i) (row_at (run new cs).table i)

-- For every table of form 1 whose move is not refused, and every list of calls of which none brings a second policy and each a notice room for
-- both forms.
abbrev pub ChangeOver : Type 0
ChangeOver =
    (bytes room : List ℕ) (cs : List Call) → (move 2 bytes room).number ≡ 0 → every one_policy cs ≡ true → every room_for_both cs ≡ true
    → Unnoticed (lent 1 bytes) (lent 2 (move 2 bytes room).target) cs
