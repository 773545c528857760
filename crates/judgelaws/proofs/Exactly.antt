-- Findings in order tell nothing exactly where each of them tells nothing.
use mathlib.Core.Path.{◌≡◌, refl, sym, ap, ◌∙◌}
use mathlib.Core.Bool.{Bool, true, false, ◌&&◌, and-false}
use mathlib.Core.List.{List}
use Prim.Native.Nat.{ℕ}
use native.Mathlib.Omega.{arith}
use borrow.Author.Tests.{eqb-true, eq-eqb, ne_eqb}
use lib.Dec.{eqb}
use lib.ListN.{length, take}
use Rattle.octets.specs.Choice.{pick}
use Rattle.octets.specs.Texts.{same}
use Rattle.octets.proofs.Lists.{by-test, both, same_refl}
use Rattle.likeness.specs.TheSameAnswer.{Finding, differs, or_else, unless, agreeing, compared, fault, header_due, header_finding, misplaced, place_finding, complete, missing_finding, avps_of, answer_finding, same_answer}
use Rattle.judge.specs.TheJudge.{Case, case_number, due, row_due, first_mismatch, judged, agrees, Judgement}
use Rattle.judge.specs.declared.Found.{Found}
use Rattle.judge.specs.Code.{leaves, finding_of}
use Rattle.judgelaws.specs.TheJudgesRules.{ToldExactly, AcceptedExactly, DueIsAccepted, OneJudgement}

-- FINDINGS

both-none : (f g : Finding) → eqb (or_else f g).number 0 ≡ eqb f.number 0 && eqb g.number 0
unfolding or_else pick
both-none f g = by-test (eqb f.number 0) (λ e. rw e) (λ e. rw (e, e))

unless-none : (b : Bool) (kind at : ℕ) → eqb (unless b (differs kind at)).number 0 ≡ b
unfolding unless pick
unless-none true kind at = refl
unless-none false kind at = refl

compared-none : (kind : ℕ) (s t : List ℕ) → eqb (compared kind s t).number 0 ≡ same s t
unfolding compared
compared-none kind s t = unless-none (same s t) kind (agreeing s t)

-- THE ANSWER

pub told-exactly : ToldExactly
unfolding answer_finding same_answer header_finding place_finding missing_finding pick
told-exactly ours theirs =
    by-test (eqb (fault theirs).number 31)
    (λ e.
    let z : eqb (fault theirs).number 0 ≡ false = ne_eqb (fault theirs).number 0 (λ y. let x : (fault theirs).number ≡ 31 = eqb-true (fault theirs).number 31 e in absurd (omega arith)) in
    rw (e, z) (sym (and-false (same (take 20 theirs) (header_due ours (length theirs))))))
    (λ e.
    rw e
    (rw (
      both-none (header_finding ours theirs) (or_else (fault theirs) (or_else (place_finding (avps_of ours) (avps_of theirs)) (missing_finding (avps_of ours) (avps_of theirs)))),
      both-none (fault theirs) (or_else (place_finding (avps_of ours) (avps_of theirs)) (missing_finding (avps_of ours) (avps_of theirs))),
      both-none (place_finding (avps_of ours) (avps_of theirs)) (missing_finding (avps_of ours) (avps_of theirs)),
      compared-none 1 (take 20 theirs) (header_due ours (length theirs)),
      unless-none (eqb (misplaced (avps_of ours) (avps_of theirs)) 0) 3 (misplaced (avps_of ours) (avps_of theirs)),
      unless-none (complete (avps_of ours) (avps_of theirs)) 4 0,
    )))

-- A CASE

mismatch-none : (j : Case) → eqb (first_mismatch j).number 0 ≡ agrees j
unfolding first_mismatch agrees
mismatch-none j =
    let a : Finding = answer_finding (due j).answer j.answer in
    rw (
      both-none a (or_else (compared 5 j.notice (due j).notice) (compared 6 j.after (row_due j))),
      both-none (compared 5 j.notice (due j).notice) (compared 6 j.after (row_due j)),
      told-exactly (due j).answer j.answer,
      compared-none 5 j.notice (due j).notice,
      compared-none 6 j.after (row_due j),
    )

pub accepted-exactly : AcceptedExactly
unfolding judged pick
accepted-exactly j =
    by-test (eqb (case_number j) 0)
    (λ e. rw e (mismatch-none j))
    (λ e. rw (e, e))

pub due-is-accepted : DueIsAccepted
unfolding agrees
due-is-accepted j e s answer notice row =
    let n : List ℕ = (due j).notice in
    let r : List ℕ = row_due j in
    let same-ones : agrees j ≡ true =
    both (ap (same_answer (due j).answer) answer ∙ s)
    (both (ap (λ (x : List ℕ). same x n) notice ∙ same_refl n) (ap (λ (x : List ℕ). same x r) row ∙ same_refl r)) in
    eqb-true (judged j).number 0 (accepted-exactly j ∙ both (eq-eqb (case_number j) 0 e) same-ones)

-- ONE JUDGEMENT

found_of : Finding → Found
found_of f = record { number = f.number; mismatch = f.mismatch; at = f.at }

read_back : (f : Found) → found_of (finding_of f) ≡ f
unfolding finding_of found_of
read_back f = refl

pub one-judgement : OneJudgement
unfolding leaves
one-judgement j r s row row2 answer answer2 notice notice2 e f =
    let g : leaves r row answer notice ≡ leaves s row2 answer2 notice2 = e ∙ sym f in
    (sym (read_back r) ∙ ap (λ (x : Judgement). found_of x.finding) g ∙ read_back s, ap (λ (x : Judgement). x.row) g, ap (λ (x : Judgement). x.answer) g, ap (λ (x : Judgement). x.notice) g)
