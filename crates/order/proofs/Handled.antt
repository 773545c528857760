-- What every reply is like: the answer that it tells of stands in its room, there is one cut at most, and a notice is told whole or not at all.
use mathlib.Core.Path.{◌≡◌, refl, ap, ◌∙◌}
use mathlib.Core.List.{List, [], ◌∷◌, ◌++◌}
use Prim.Native.Nat.{ℕ, ◌+◌, ◌*◌, ◌≤◌}
use native.Mathlib.Omega.{arith}
use borrow.Author.Tests.{eqb-true, eqb-false}
use lib.Dec.{eqb}
use lib.ListN.{length, drop, length-append, length-drop}
use lib.Seq.{length-take-le}
use Rattle.octets.specs.Choice.{pick}
use Rattle.octets.specs.Texts.{put}
use Rattle.octets.proofs.Choice.{by-pick}
use Rattle.octets.proofs.Lists.{by-test}
use Rattle.message.specs.TheRooms.{notice_length}
use Rattle.message.specs.Codes.{Code, plain, user_unknown}
use Rattle.message.specs.ReadingAMessage.{Request, Reading, refused, request, read}
use Rattle.message.specs.WritingTheAnswer.{answer, answer_room}
use Rattle.table.specs.TheTable.{Access, Found, Table, row, nothing, lookup, row_at}
use Rattle.table.specs.Soundness.{sound}
use Rattle.rules.specs.Calls.{account, Call, Left, Reply, call_number, handle, most_policies, on_reading, on_row, refusal, reply, result_of, settled, silent}
use Rattle.order.specs.Demand3.{told}
use Rattle.order.proofs.Rooms.{rooms-after}

pub record Fine (r : Reply) : Type 0 where
  pub answer-stands : r.result.length ≤ length r.answer
  pub one-cut : r.result.cut ≤ 1

result-cut : (n place : ℕ) (c : Code) (cut : List Access) → (result_of n place c cut).cut ≤ 1
unfolding result_of
result-cut n place c [] = omega arith
result-cut n place c (a ∷ others) = omega arith

result-length : (n place : ℕ) (c : Code) (cut : List Access) → (result_of n place c cut).length ≡ n
unfolding result_of
result-length n place c [] = refl
result-length n place c (a ∷ others) = refl

fine-reply : (f : ℕ) (c : Call) (code : Code) (place : ℕ) (cut : List Access) → Fine (reply f c code place cut)
unfolding reply answer_room
fine-reply f c code place cut =
    let bytes : List ℕ = answer c.message c.host c.realm code in
    let n : (result_of (length bytes) place code cut).length ≡ length bytes = result-length (length bytes) place code cut in
    let room : length (bytes ++ drop (length bytes) c.answer) ≡ length bytes + length (drop (length bytes) c.answer) = length-append bytes _ in
    record { answer-stands = omega (arith, n, room); one-cut = result-cut (length bytes) place code cut }

module _ (t : Table) (c : Call) where
  abbrev Fined : Left → Type 0
  Fined l = Fine l.reply

  fine-row : (q : Request) (F : Found) → Fined (on_row t c q F)
  unfolding on_row refusal settled
  fine-row q nothing = fine-reply t.form c user_unknown 0 []
  fine-row q (row i) = by-pick Fined (sound (row_at t i)) (λ h. fine-reply t.form c _ _ _) (λ h. fine-reply t.form c (plain 5012) 0 [])

  fine-reading : (g : Reading) → Fined (on_reading t c g)
  unfolding on_reading refusal
  fine-reading (refused code) = fine-reply t.form c (plain code) 0 []
  fine-reading (request q) = fine-row q (lookup t (account c q))

  fine-silent : (n : ℕ) → Fined (silent t c n)
  unfolding silent
  fine-silent n = record { answer-stands = omega arith; one-cut = omega arith }

  pub fine : Fine (handle t c).reply
  unfolding handle
  fine = by-pick Fined (eqb (call_number t c) 0) (λ h. fine-reading (read (most_policies t.form) c.message)) (λ h. fine-silent (call_number t c))

-- WHAT IS TOLD, by its length

pub longer : (room s : List ℕ) → length room ≤ length (put room 0 s)
unfolding put
longer room s =
    let all : length (s ++ drop (0 + length s) room) ≡ length s + length (drop (0 + length s) room) = length-append s _ in
    omega (arith, all, length-drop (0 + length s) room)

module _ (t : Table) (c : Call) where
  abbrev answered : Reply
  answered = (handle t c).reply

  pub told-length : length (told t.form answered).answer ≡ answered.result.length
  unfolding told
  told-length = length-take-le answered.result.length answered.answer (fine t c).answer-stands

  -- a notice has its length, and there is none without a cut
  pub notice-length : notice_length t.form ≤ length c.notice → length (told t.form answered).notice ≡ answered.result.cut * notice_length t.form
  unfolding told pick
  notice-length h =
      let room : length answered.notice ≡ length (put c.notice 0 (told t.form answered).notice) = ap length (rooms-after t c).notice in
      let fits : notice_length t.form ≤ length answered.notice = omega (arith, h, room, longer c.notice (told t.form answered).notice) in
      by-test (eqb answered.result.cut 1)
      (λ e. rw (e, eqb-true answered.result.cut 1 e) (length-take-le (notice_length t.form) answered.notice fits ∙ omega arith))
      (λ e.
      let none : answered.result.cut ≡ 0 = omega (arith, eqb-false answered.result.cut 1 e, (fine t c).one-cut) in
      rw (e, none) (omega arith))
