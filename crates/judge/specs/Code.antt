-- What the code's arguments and results say.
use Rattle.std.specs.Prelude.{List, ℕ}
use Rattle.rules.specs.Calls.{Call}
use Rattle.likeness.specs.TheSameAnswer.{Finding, or_else, compared, answer_finding}
use Rattle.judge.specs.declared.Found.{Found}
use Rattle.judge.specs.TheJudge.{Case, Judgement, expected, first_mismatch}

-- A case, from what is lent.
unfoldable pub case_of : (form : ℕ) → (before after : List ℕ) → Call → (answer notice : List ℕ) → Case
case_of f before after call answer notice = record { form = f; before = before; after = after; call = call; answer = answer; notice = notice }

-- What is found, as the judge tells it.
unfoldable pub finding_of : Found → Finding
finding_of f = record { number = f.number; mismatch = f.mismatch; at = f.at }

-- All that judging leaves: what is found, and every byte of the row and of both rooms.
unfoldable pub leaves : Found → (row answer notice : List ℕ) → Judgement
leaves f row answer notice = record { finding = finding_of f; row = row; answer = answer; notice = notice }

-- The first mismatch between theirs and ours.
unfoldable pub between : (ours theirs our_notice their_notice row after : List ℕ) → Finding
between ours theirs our_notice their_notice row after = or_else (answer_finding ours theirs) (or_else (compared 5 their_notice our_notice) (compared 6 after row))

-- What is left of a case that fails no test of its own.
unfoldable pub held : Case → Judgement
held j = record { finding = first_mismatch j; row = (expected j).table.bytes; answer = (expected j).reply.answer; notice = (expected j).reply.notice }
