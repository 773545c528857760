-- What stands in the rooms does not matter, since what a call tells depends on what it brings (`brought-decides` of `order`).
use mathlib.Core.Path.{◌≡◌, ap, ◌∙◌}
use mathlib.Core.Bool.{◌&&◌}
use mathlib.Core.List.{List, [], ◌∷◌}
use Prim.Native.Nat.{ℕ}
use lib.Dec.{eqb, leb}
use lib.ListN.{length}
use Rattle.octets.specs.Choice.{pick, require, first_of, within}
use Rattle.table.specs.TheTable.{Table}
use Rattle.rules.specs.Calls.{Call}
use Rattle.order.specs.Demand3.{Brought, SameLeft, Told, brought}
use Rattle.order.proofs.Rooms.{brought-decides}
use Rattle.judge.specs.TheJudge.{Case, is_one_row, case_number, expected, due, row_due, first_mismatch, refused_by, judged}
use Rattle.likeness.specs.TheSameAnswer.{Finding, or_else, compared, answer_finding}
use Rattle.judgelaws.specs.TheJudgesRules.{with_call, RoomsDoNotMatter}

module _ (j : Case) (c : Call) (e : brought j.form j.call ≡ brought j.form c) where
  same_left : SameLeft j.form (expected j) (expected (with_call j c))
  unfolding expected with_call
  same_left = brought-decides (record { form = j.form; bytes = j.before }) j.call c e

  same-due : due j ≡ due (with_call j c)
  unfolding due with_call
  same-due = same_left.reply

  same_row : row_due j ≡ row_due (with_call j c)
  unfolding row_due
  same_row = ap (λ (t : Table). t.bytes) same_left.table

  same_number : case_number j ≡ case_number (with_call j c)
  unfolding case_number with_call brought
  same_number =
      ap (λ (b : Brought).
      first_of
      (require (is_one_row j.form j.before && is_one_row j.form j.after) 1
      ∷ require (leb b.operator 15) 33
      ∷ require (within 1 128 (length b.host) && within 1 128 (length b.realm)) 2
      ∷ require b.answer_fits 3
      ∷ require b.notice_fits 4
      ∷ [])) e

  same-mismatch : first_mismatch j ≡ first_mismatch (with_call j c)
  unfolding first_mismatch with_call
  same-mismatch =
      ap (λ (d : Told). or_else (answer_finding d.answer j.answer) (or_else (compared 5 j.notice d.notice) (compared 6 j.after (row_due j)))) same-due
      ∙ ap (λ (r : List ℕ). or_else (answer_finding (due (with_call j c)).answer j.answer) (or_else (compared 5 j.notice (due (with_call j c)).notice) (compared 6 j.after r))) same_row

pub rooms-do-not-matter : RoomsDoNotMatter
unfolding judged
rooms-do-not-matter j c e =
    ap (λ (n : ℕ). pick (eqb n 0) (first_mismatch j) (refused_by n)) (same_number j c e)
    ∙ ap (λ (f : Finding). pick (eqb (case_number (with_call j c)) 0) f (refused_by (case_number (with_call j c)))) (same-mismatch j c e)
