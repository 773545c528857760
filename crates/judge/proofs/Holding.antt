-- What a call leaves is what is due: the parts of the rooms that are compared are what the call tells.
use mathlib.Core.Path.{◌≡◌, ap, ◌∙◌}
use mathlib.Core.List.{List, []}
use Prim.Native.Nat.{ℕ, zero, suc, ◌-◌, ◌*◌, ◌≤◌}
use native.Mathlib.Omega.{arith}
use borrow.Author.Tests.{eq-eqb, ne_eqb}
use lib.Dec.{eqb}
use lib.ListN.{length, take, drop}
use Rattle.octets.specs.Choice.{pick}
use Rattle.octets.specs.Texts.{put}
use Rattle.message.specs.TheRooms.{notice_length}
use Rattle.table.specs.TheTable.{Table}
use Rattle.table.specs.Answers.{lent}
use Rattle.rules.specs.Calls.{Left}
use Rattle.decision.specs.Outcomes.{cut_made, leaves as call_leaves, result_said}
use Rattle.decision.specs.declared.Outcome.{Outcome}
use Rattle.order.specs.Demand3.{told}
use Rattle.order.proofs.Rooms.{rooms-after}
use Rattle.order.proofs.Handled.{Fine, fine, longer}
use Rattle.judge.specs.declared.Found.{Found}
use Rattle.judge.specs.TheJudge.{Case, case_number, expected, due, row_due, first_mismatch, judged, judge}
use Rattle.judge.specs.Code.{between, held, leaves, finding_of}

-- nothing of a room without a cut, a whole notice with one
cut-part : (k n : ℕ) (s : List ℕ) → k ≤ 1 → take (k * n - 0) s ≡ pick (eqb k 1) (take n s) []
unfolding pick
cut-part zero n s h = let z : 0 * n - 0 ≡ 0 = omega arith in rw z
cut-part (suc zero) n s h = let z : 1 * n - 0 ≡ n = omega arith in rw z
cut-part (suc (suc k)) n s h = absurd (omega arith)

at_most : (k n : ℕ) → k ≤ 1 → k * n ≤ n
at_most zero n h = omega arith
at_most (suc zero) n h = omega arith
at_most (suc (suc k)) n h = absurd (omega arith)

module _ (j : Case) (o : Outcome) (row answer notice : List ℕ) (e : call_leaves o (lent j.form row) answer notice ≡ expected j) where
  fined : Fine (expected j).reply
  unfolding expected
  fined = fine (lent j.form j.before) j.call

  row_is : row ≡ (expected j).table.bytes
  unfolding call_leaves
  row_is = ap (λ (l : Left). l.table.bytes) e

  answer-is : answer ≡ (expected j).reply.answer
  unfolding call_leaves
  answer-is = ap (λ (l : Left). l.reply.answer) e

  notice-is : notice ≡ (expected j).reply.notice
  unfolding call_leaves
  notice-is = ap (λ (l : Left). l.reply.notice) e

  length-is : o.length ≡ (expected j).reply.result.length
  unfolding call_leaves result_said
  length-is = ap (λ (l : Left). l.reply.result.length) e

  cut-is : cut_made o.cut ≡ (expected j).reply.result.cut
  unfolding call_leaves result_said
  cut-is = ap (λ (l : Left). l.reply.result.cut) e

  pub answer-inside : o.length ≤ length answer
  answer-inside = rw (length-is, answer-is) fined.answer-stands

  pub one-cut : cut_made o.cut ≤ 1
  one-cut = rw cut-is fined.one-cut

  -- the notice that a cut leaves lies inside its room
  pub notice-inside : notice_length j.form ≤ length j.call.notice → (n : ℕ) → n ≡ cut_made o.cut * notice_length j.form → n ≤ length notice
  unfolding expected
  notice-inside h n s =
      let t : Table = lent j.form j.before in
      let room : (expected j).reply.notice ≡ put j.call.notice 0 (told j.form (expected j).reply).notice = (rooms-after t j.call).notice in
      let long : length j.call.notice ≤ length notice = rw (notice-is, room) (longer j.call.notice (told j.form (expected j).reply).notice) in
      omega (arith, h, s, long, at_most (cut_made o.cut) (notice_length j.form) one-cut)

  answer-told : take (o.length - 0) (drop 0 answer) ≡ (due j).answer
  unfolding due told
  answer-told =
      let z : o.length - 0 ≡ o.length = omega arith in
      rw (z, length-is, answer-is)

  notice-told : take (cut_made o.cut * notice_length j.form - 0) (drop 0 notice) ≡ (due j).notice
  unfolding due told
  notice-told =
      ap (λ (k : ℕ). take (k * notice_length j.form - 0) notice) cut-is
      ∙ ap (take ((expected j).reply.result.cut * notice_length j.form - 0)) notice-is
      ∙ cut-part (expected j).reply.result.cut (notice_length j.form) (expected j).reply.notice fined.one-cut

  pub mismatch-is : (n : ℕ) → n ≡ cut_made o.cut * notice_length j.form
      → between (take (o.length - 0) (drop 0 answer)) j.answer (take (n - 0) (drop 0 notice)) j.notice row j.after ≡ first_mismatch j
  unfolding between first_mismatch row_due
  mismatch-is n t = rw (t, answer-told, notice-told, row_is)

  pub held-is : (f : Found) → finding_of f ≡ first_mismatch j → leaves f row answer notice ≡ held j
  unfolding leaves held
  held-is f h = rw (h, row_is, answer-is, notice-is)

-- A CASE

module _ (j : Case) where
  pub judge-held : case_number j ≡ 0 → judge j ≡ held j
  unfolding judge judged held pick
  judge-held e = rw (eq-eqb (case_number j) 0 e)

  pub judge-refused : (n : ℕ) → n ≡ case_number j → (n ≡ 0 → ⊥)
      → leaves (record { number = n; mismatch = 0; at = 0 }) j.before j.call.answer j.call.notice ≡ judge j
  unfolding leaves finding_of judge judged pick
  judge-refused n h e = rw (h, ne_eqb (case_number j) 0 (λ z. e (h ∙ z)))
