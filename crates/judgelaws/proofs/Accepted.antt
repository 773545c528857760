-- Everything that our own server writes is accepted: its parts are passed over by the walk, it tells its true length, and so it is the same as itself.
use mathlib.Core.Path.{◌≡◌, refl, sym, ap, ◌∙◌}
use mathlib.Core.Bool.{true, ◌&&◌}
use mathlib.Core.List.{List, [], ◌∷◌, ◌++◌}
use Prim.Native.Nat.{ℕ, ◌+◌, ◌-◌, ◌/◌, ◌%◌, ◌≤◌, ◌<◌}
use native.Mathlib.Omega.{arith}
use lib.Dec.{eqb}
use lib.ListN.{length}
use Rattle.octets.specs.Choice.{pick}
use Rattle.octets.specs.Lists.{every}
use Rattle.octets.specs.Texts.{part, same}
use Rattle.octets.specs.Numbers.{in24, in32}
use Rattle.octets.proofs.Lists.{by-test}
use Rattle.message.specs.Codes.{Code, number_of}
use Rattle.message.specs.ReadingAMessage.{user_name, walk_one, walk_up_to, walk_by, avps, value_of, header_code, walk_code, command}
use Rattle.message.specs.WritingTheAnswer.{avp_bytes, subscription_avp, proxy_avps, answer_body, answer}
use Rattle.answers.specs.Answers.{copied}
use Rattle.answers.proofs.Writing.{length-avp, length-body, length-answer, up4-most, avp-most, session-most, auth-most, result-most, subscription-length, copied-most}
use Rattle.order.specs.Demand3.{told}
use Rattle.decision.proofs.Numbers.{Ready}
use Rattle.likeness.specs.TheSameAnswer.{fault_one, fault_up_to, fault_by, fault_in, fault, true_length, header_due, misplaced_from, starts_like, misplaced, complete, avps_of, same_answer}
use Rattle.likeness.proofs.Groups.{inner, fault-in}
use Rattle.judge.specs.TheJudge.{Case, expected, due}
use Rattle.judgelaws.specs.TheJudgesRules.{OwnIsAccepted}
use Rattle.judgelaws.proofs.Exactly.{due-is-accepted}
use Rattle.judgelaws.proofs.Itself.{same-as-itself}
use Rattle.judgelaws.proofs.Own.{over-all}
use Rattle.judgelaws.proofs.Parts.{no_failed, user-most, over-body, body_is}
use Rattle.judgelaws.proofs.Handled.{handled-by}

-- AN ANSWER

module _ (m host realm room : List ℕ) (c : Code) (r : Ready m host realm room) where
  no-fault : fault (answer m host realm c) ≡ record { number = 0; mismatch = 0; at = 0 }
  unfolding fault
  no-fault = ap (fault_in 4 20) (body_is m host realm room c r) ∙ fault-in 4 20 (answer_body m host realm c) ∙ over-all (inner 4) no_failed (answer_body m host realm c) 20 (over-body m host realm room c r)

  subscription-size : length (subscription_avp m c) ≤ 5000
  unfolding subscription_avp pick
  subscription-size =
      let v : List ℕ = value_of user_name (avps m) in
      let w : List ℕ = avp_bytes 450 (in32 1) ++ avp_bytes 444 v in
      by-test (eqb (command m) 265 && eqb (number_of c) 2001)
      (λ t. rw t (omega (arith, length-avp 443 w, subscription-length v, up4-most (length v), up4-most (length w), user-most m, r.most)))
      (λ t. rw t (omega arith))

  proxies-size : length (proxy_avps m) ≤ length m - 20
  unfolding proxy_avps copied
  proxies-size = copied-most m (eqb (header_code m) 0 && eqb (walk_code m) 0) r.least

  size : 20 + length (answer_body m host realm c) < 16777216
  size =
      omega
      (arith, length-body m host realm c, session-most m, auth-most m c, result-most c, avp-most 264 host r.host-fits, avp-most 296 realm r.realm-fits, subscription-size, proxies-size, r.most)

  length-told : part (answer m host realm c) 1 3 ≡ true_length (length (answer m host realm c))
  unfolding answer in24 true_length
  length-told =
      let n : ℕ = 20 + length (answer_body m host realm c) in
      let e : length (answer m host realm c) ≡ n = length-answer m host realm c r.least in
      let z : n / 65536 % 256 ≡ n / 65536 = omega (arith, size) in
      rw z (ap (λ (k : ℕ). k / 65536 ∷ k / 256 % 256 ∷ k % 256 ∷ []) (sym e))

  same-own : same_answer (answer m host realm c) (answer m host realm c) ≡ true
  same-own = same-as-itself (answer m host realm c) (omega (arith, length-answer m host realm c r.least)) length-told no-fault

-- A CALL

nothing-same : same_answer [] [] ≡ true
unfolding same_answer header_due pick same fault fault_in fault_by fault_up_to fault_one misplaced starts_like misplaced_from complete every avps_of walk_by walk_up_to walk_one
nothing-same = refl

pub same-due : (j : Case) → same_answer (due j).answer (due j).answer ≡ true
unfolding due expected told
same-due j =
    handled-by (λ l. same_answer l l ≡ true) nothing-same (λ m host realm room code r k. same-own m host realm room code r) (record { form = j.form; bytes = j.before }) j.call

pub own-is-accepted : OwnIsAccepted
own-is-accepted j e a n s = due-is-accepted j e (same-due j) a n s
