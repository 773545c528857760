-- No answer of ours has a Failed-AVP, so that every case is judged by names.
use mathlib.Core.Path.{◌≡◌, refl, ap, ◌∙◌}
use mathlib.Core.Bool.{true, false, not}
use mathlib.Core.List.{List, [], ◌∷◌}
use Prim.Native.Nat.{ℕ}
use borrow.Author.Tests.{not-true}
use Rattle.octets.specs.Choice.{pick}
use Rattle.octets.specs.Lists.{every, keep}
use Rattle.octets.proofs.Lists.{and_left, and_right}
use Rattle.message.specs.Codes.{Code}
use Rattle.message.specs.ReadingAMessage.{Name, same_name, Avp, walk_one, walk_up_to, walk_by, walk, having}
use Rattle.message.specs.WritingTheAnswer.{answer_body, answer}
use Rattle.order.specs.Demand3.{told}
use Rattle.decision.proofs.Numbers.{Ready}
use Rattle.likeness.specs.TheSameAnswer.{failed_avp, avps_of, same_answer}
use Rattle.likeness.proofs.Groups.{inner}
use Rattle.judge.specs.TheJudge.{expected, due, agrees}
use Rattle.judgelaws.specs.TheJudgesRules.{answer_by_names, OursHasNoFailedAvp, DueByNames}
use Rattle.judgelaws.proofs.Exactly.{accepted-exactly}
use Rattle.judgelaws.proofs.Names.{same-answer-by-names}
use Rattle.judgelaws.proofs.Own.{all_named}
use Rattle.judgelaws.proofs.Parts.{no_failed, over-body, read_is}
use Rattle.judgelaws.proofs.Handled.{handled-by}

pub none_named : (n : Name) (xs : List Avp) → every (λ (a : Avp). not (same_name n a.name)) xs ≡ true → having n xs ≡ []
unfolding having keep every pick
none_named n [] e = refl
none_named n (a ∷ xs) e =
    let h : same_name n a.name ≡ false = not-true (same_name n a.name) (and_left (not (same_name n a.name)) (every (λ (b : Avp). not (same_name n b.name)) xs) e) in
    rw h (none_named n xs (and_right (not (same_name n a.name)) (every (λ (b : Avp). not (same_name n b.name)) xs) e))

no_answer : having failed_avp (avps_of []) ≡ []
unfolding having keep avps_of walk_by walk_up_to walk_one pick
no_answer = refl

none-failed : (m host realm room : List ℕ) (c : Code) → Ready m host realm room → having failed_avp (avps_of (answer m host realm c)) ≡ []
unfolding no_failed
none-failed m host realm room c r =
    ap (having failed_avp) (read_is m host realm room c r)
    ∙ none_named failed_avp (walk (answer_body m host realm c)).avps (all_named (inner 4) no_failed (answer_body m host realm c) (over-body m host realm room c r))

pub ours-has-no-failed-avp : OursHasNoFailedAvp
unfolding due expected told
ours-has-no-failed-avp j =
    handled-by (λ l. having failed_avp (avps_of l) ≡ []) no_answer (λ m host realm room code r k. none-failed m host realm room code r)
    (record { form = j.form; bytes = j.before }) j.call

pub due-by-names : DueByNames
unfolding agrees
due-by-names j =
    let s : same_answer (due j).answer j.answer ≡ answer_by_names (due j).answer j.answer =
    same-answer-by-names (due j).answer j.answer (ours-has-no-failed-avp j) in
    accepted-exactly j ∙ rw s
