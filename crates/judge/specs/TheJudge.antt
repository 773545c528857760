-- Judging the old server's answers (request W10 of document 02). While both servers run, what the old one did with a request is held against what ours does with it
-- on a table of that one row. Accepted is what no number is given for.
use Rattle.std.specs.Prelude.{Bool, ◌&&◌, List, [], ◌∷◌, ℕ, eqb, leb, length}
use Rattle.octets.specs.Choice.{pick, require, first_of, within}
use Rattle.octets.specs.Texts.{same}
use Rattle.message.specs.TheRooms.{answer_least, notice_length}
use Rattle.table.specs.TheTable.{is_form, row_length}
use Rattle.rules.specs.Calls.{Call, Left, handle}
use Rattle.order.specs.Demand3.{Told, told}
use Rattle.likeness.specs.TheSameAnswer.{Finding, or_else, compared, answer_finding, same_answer}

-- What is judged: the form of the rows; the row before and after; the request as a call of ours, with its operator, our names, the word of the WAG and two rooms;
-- the old server's answer and its notice, no bytes for none.
pub record Case : Type 0 where
  pub form : ℕ
  pub before : List ℕ
  pub after : List ℕ
  pub call : Call
  pub answer : List ℕ
  pub notice : List ℕ

-- Exactly one row of the form.
unfoldable pub is_one_row : (form : ℕ) → List ℕ → Bool
is_one_row f row = is_form f && eqb (length row) (row_length f)

-- In order: 1, the bytes before or after are not exactly one row of the form; 33, the operator is over 15; 2, a name of ours is not 1 to 128 bytes. The rooms are those
-- of a call: 3 and 4 where one is too small for any answer or notice of ours. 0 where none fails.
unfoldable pub case_number : Case → ℕ
case_number j =
    first_of
    (require (is_one_row j.form j.before && is_one_row j.form j.after) 1
    ∷ require (leb j.call.operator 15) 33
    ∷ require (within 1 128 (length j.call.host) && within 1 128 (length j.call.realm)) 2
    ∷ require (leb answer_least (length j.call.answer)) 3
    ∷ require (leb (notice_length j.form) (length j.call.notice)) 4
    ∷ [])

-- What our server does: demand 2's answer, notice and row. A request that it does not answer (5 to 8) has no answer, no notice and the row as it was.
unfoldable pub expected : Case → Left
expected j = handle (record { form = j.form; bytes = j.before }) j.call

unfoldable pub due : Case → Told
due j = told j.form (expected j).reply

unfoldable pub row_due : Case → List ℕ
row_due j = (expected j).table.bytes

-- 31, or 32 with the first mismatch: of the answer, of the notice, of the row.
unfoldable pub first_mismatch : Case → Finding
first_mismatch j =
    or_else (answer_finding (due j).answer j.answer)
    (or_else (compared 5 j.notice (due j).notice) (compared 6 j.after (row_due j)))

abbrev pub refused_by : (number : ℕ) → Finding
refused_by n = record { number = n; mismatch = 0; at = 0 }

unfoldable pub judged : Case → Finding
judged j = pick (eqb (case_number j) 0) (first_mismatch j) (refused_by (case_number j))

-- The same in words that are either true or not: the same answer, the same notice, the same row.
unfoldable pub agrees : Case → Bool
agrees j = same_answer (due j).answer j.answer && (same j.notice (due j).notice && same j.after (row_due j))

-- WHAT IS LEFT. Ours is written where it is compared: the row before becomes the row that is due, and the rooms are left as by the call itself. With a number
-- of the case's own, nothing is changed.
pub record Judgement : Type 0 where
  pub finding : Finding
  pub row : List ℕ
  pub answer : List ℕ
  pub notice : List ℕ

unfoldable pub judge : Case → Judgement
judge j =
    let l : Left = expected j in
    pick (eqb (case_number j) 0)
    (record { finding = judged j; row = l.table.bytes; answer = l.reply.answer; notice = l.reply.notice })
    (record { finding = judged j; row = j.before; answer = j.call.answer; notice = j.call.notice })
