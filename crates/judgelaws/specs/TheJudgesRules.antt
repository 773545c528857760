-- What holds of judging (request W10 of document 02).
use Rattle.std.specs.Prelude.{◌≡◌, Bool, true, false, ◌&&◌, ◌||◌, not, List, [], ◌∷◌, map, ℕ, ◌≤◌, eqb, length, take}
use Rattle.octets.specs.Lists.{every, keep}
use Rattle.octets.specs.Texts.{part, same}
use Rattle.message.specs.ReadingAMessage.{Name, base, same_name, Avp, having, present}
use Rattle.rules.specs.Calls.{Call}
use Rattle.order.specs.Demand3.{brought}
use Rattle.likeness.specs.TheSameAnswer.{nothing, failed_avp, fault, true_length, header_due, flag_byte, same_avp, misplaced_from, starts_like, complete, avps_of, answer_finding, same_answer}
use Rattle.judge.specs.declared.Found.{Found}
use Rattle.judge.specs.TheJudge.{Case, case_number, due, row_due, judged, agrees, judge}
use Rattle.judge.specs.Code.{leaves}

-- Nothing is told of an answer exactly where it is the same answer.
abbrev pub ToldExactly : Type 0
ToldExactly = (ours theirs : List ℕ) → eqb (answer_finding ours theirs).number 0 ≡ same_answer ours theirs

-- A case is accepted exactly where it fails no test of its own, and answer, notice and row are those due.
abbrev pub AcceptedExactly : Type 0
AcceptedExactly = (j : Case) → eqb (judged j).number 0 ≡ eqb (case_number j) 0 && agrees j

-- The same case with another call.
unfoldable pub with_call : Case → Call → Case
with_call j c = record { form = j.form; before = j.before; after = j.after; call = c; answer = j.answer; notice = j.notice }

-- What stands in the rooms does not matter: of them only whether they are large enough.
abbrev pub RoomsDoNotMatter : Type 0
RoomsDoNotMatter = (j : Case) (c : Call) → brought j.form j.call ≡ brought j.form c → judged j ≡ judged (with_call j c)

-- An answer that tells its true length, in which no AVP fails and no group is too deep, is the same as itself.
abbrev pub SameAsItself : Type 0
SameAsItself = (answer : List ℕ) → 20 ≤ length answer → part answer 1 3 ≡ true_length (length answer) → fault answer ≡ nothing → same_answer answer answer ≡ true

-- What is due is accepted, if the answer due is the same as itself.
abbrev pub DueIsAccepted : Type 0
DueIsAccepted =
    (j : Case) → case_number j ≡ 0 → same_answer (due j).answer (due j).answer ≡ true
    → j.answer ≡ (due j).answer → j.notice ≡ (due j).notice → j.after ≡ row_due j → (judged j).number ≡ 0

-- Everything that our own server writes is accepted: the answer, the notice and the row that a call leaves.
abbrev pub OwnIsAccepted : Type 0
OwnIsAccepted = (j : Case) → case_number j ≡ 0 → j.answer ≡ (due j).answer → j.notice ≡ (due j).notice → j.after ≡ row_due j → (judged j).number ≡ 0

-- No second judgement: what `judge::judge` promises leaves one result, one row and one content of each room.
abbrev pub OneJudgement : Type 0
OneJudgement =
    (j : Case) (r s : Found) (row row2 answer answer2 notice notice2 : List ℕ) → leaves r row answer notice ≡ judge j → leaves s row2 answer2 notice2 ≡ judge j
    → (r ≡ s) × (row ≡ row2) × (answer ≡ answer2) × (notice ≡ notice2)

-- THE SAME ANSWER BY NAMES, without places

-- The AVPs of two lists are the same, one by one.
unfoldable pub one_by_one : List Avp → List Avp → Bool
one_by_one [] [] = true
one_by_one [] (b ∷ bs) = false
one_by_one (a ∷ xs) [] = false
one_by_one (a ∷ xs) (b ∷ bs) = same_avp a b && one_by_one xs bs

-- Beside those of ours only Failed-AVPs may stand, and AVPs without M of a name that ours lacks.
unfoldable pub may_stand : (ours : List Avp) → Avp → Bool
may_stand ours b = same_name failed_avp b.name || (present b.name ours || not b.mandatory)

-- Those of each name of ours stand in theirs, each once, in their own order.
unfoldable pub by_names : (ours theirs : List Avp) → Bool
by_names ours theirs = every (λ (a : Avp). one_by_one (having a.name ours) (having a.name theirs)) ours && every (may_stand ours) theirs

-- Every AVP of theirs fits in its place and none is missing exactly where the two are the same by names. Ours has no Failed-AVP.
abbrev pub SameByNames : Type 0
SameByNames = (ours theirs : List Avp) → having failed_avp ours ≡ [] → eqb (misplaced_from ours theirs 20 theirs) 0 && complete ours theirs ≡ by_names ours theirs

-- The same answer by names, as a whole: the header due, no AVP that fails and no group too deep, Session-Id first where ours has it first, and the same by names.
unfoldable pub answer_by_names : (ours theirs : List ℕ) → Bool
answer_by_names ours theirs =
    same (take 20 theirs) (header_due ours (length theirs))
    && (eqb (fault theirs).number 0 && (starts_like (avps_of ours) (avps_of theirs) && by_names (avps_of ours) (avps_of theirs)))

abbrev pub SameAnswerByNames : Type 0
SameAnswerByNames = (ours theirs : List ℕ) → having failed_avp (avps_of ours) ≡ [] → same_answer ours theirs ≡ answer_by_names ours theirs

-- No answer of ours has a Failed-AVP.
abbrev pub OursHasNoFailedAvp : Type 0
OursHasNoFailedAvp = (j : Case) → having failed_avp (avps_of (due j).answer) ≡ []

-- So every case, without a word on Failed-AVP: it is accepted exactly where it fails no test of its own, the answer is the one due by names, and notice and row are those due.
abbrev pub DueByNames : Type 0
DueByNames =
    (j : Case)
    → eqb (judged j).number 0
    ≡ eqb (case_number j) 0
    && (answer_by_names (due j).answer j.answer && (same j.notice (due j).notice && same j.after (row_due j)))

-- ONE RESULT

-- Result-Code and Experimental-Result, none with V.
unfoldable pub is_result : Name → Bool
is_result n = same_name (base 268) n || same_name (base 297) n

-- An AVP tells a result if it is one of them, with M.
unfoldable pub tells_result : Avp → Bool
tells_result a = a.mandatory && is_result a.name

unfoldable pub results : List Avp → List Avp
results xs = keep tells_result xs

-- What is compared of an AVP: its name, its flags and its value.
pub record Compared : Type 0 where
  pub name : Name
  pub flags : ℕ
  pub value : List ℕ

unfoldable pub compared_of : Avp → Compared
compared_of a = record { name = a.name; flags = flag_byte a; value = a.value }

-- An answer that is accepted tells the result that ours tells, and no other.
abbrev pub ResultDue : Type 0
ResultDue = (j : Case) → (judged j).number ≡ 0 → map compared_of (results (avps_of j.answer)) ≡ map compared_of (results (avps_of (due j).answer))

-- Where an answer is due, it tells exactly one.
abbrev pub OneResult : Type 0
OneResult = (j : Case) → (judged j).number ≡ 0 → (length (due j).answer ≡ 0 → ⊥) → length (results (avps_of j.answer)) ≡ 1

-- Two answers to one request, both accepted, tell the same result, whatever else stands in them. One request: the same form, row before it, operator, message, names and word of
-- the WAG.
abbrev pub SameResult : Type 0
SameResult =
    (j k : Case) → j.form ≡ k.form → j.before ≡ k.before → brought j.form j.call ≡ brought k.form k.call
    → (judged j).number ≡ 0 → (judged k).number ≡ 0
    → map compared_of (results (avps_of j.answer)) ≡ map compared_of (results (avps_of k.answer))
