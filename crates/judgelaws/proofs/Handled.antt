-- What holds of every answer that a call gives: of no answer, and of the answer with any code but those that get none.
use mathlib.Core.Path.{◌≡◌, refl, ap, ◌∙◌}
use mathlib.Core.Bool.{Bool, ◌&&◌, not}
use mathlib.Core.List.{List, [], ◌∷◌, ◌++◌}
use Prim.Native.Nat.{ℕ, ◌≤◌}
use native.Mathlib.Omega.{arith}
use borrow.Author.Tests.{eqb-true}
use lib.Dec.{eqb}
use lib.ListN.{length, take, drop}
use lib.Seq.{take_at}
use Rattle.octets.proofs.Choice.{by-pick}
use Rattle.message.specs.Codes.{Code, plain, user_unknown, kind_of}
use Rattle.message.specs.ReadingAMessage.{Ask, tunnel, policy, termination, Request, Reading, refused, request, read}
use Rattle.message.specs.WritingTheAnswer.{answer, answer_room}
use Rattle.table.specs.TheTable.{Access, Subscriber, Found, Table, barred, may_roam, row, nothing, lookup, read_row, row_at}
use Rattle.table.specs.Soundness.{on_entry, sound}
use Rattle.changes.specs.Changes.{Opening, kept_in}
use Rattle.rules.specs.Deciding.{Verdict, refuse, grant, entry_named, entry_at, with_session, none, open_on, at_limit, admit, stands_on, held_already, type0, type1, terminate, decide}
use Rattle.rules.specs.Calls.{account, Call, Left, call_number, handle, most_policies, on_reading, on_row, refusal, reply, result_of, settled, silent}
use Rattle.decision.specs.Outcomes.{call_of}
use Rattle.decision.proofs.Numbers.{Ready, is-ready}

-- WHAT IS DECIDED HAS A CODE

abbrev Answers : Verdict → Type 0
Answers v = 1 ≤ kind_of v.code

answers-tunnel : (o : Opening) (label : List ℕ) (visited : Bool) (s : Subscriber) → Answers (type0 o label visited s)
unfolding type0 refuse held_already grant admit open_on kind_of
answers-tunnel o label visited s =
    let n : ℕ = entry_named label s in
    by-pick Answers (eqb n 0) (λ e. omega arith)
    (λ e. by-pick Answers (barred (entry_at n s)) (λ e. omega arith)
    (λ e. by-pick Answers (visited && not (may_roam (entry_at n s))) (λ e. omega arith)
    (λ e. by-pick Answers (not (none (with_session o.session s.accesses)))
    (λ e. by-pick Answers (stands_on n o.session s) (λ e. omega arith) (λ e. omega arith))
    (λ e. by-pick Answers (at_limit n s) (λ e. omega arith) (λ e. omega arith)))))

answers-decided : (f : ℕ) (q : Ask) (wag : Bool) (s : Subscriber) → Answers (decide f q wag s)
unfolding decide type1 terminate refuse grant kind_of
answers-decided f (tunnel session host realm label visited) wag s = answers-tunnel (record { session = session; host = host; realm = kept_in f realm }) label visited s
answers-decided f (policy session first second third) wag s =
    by-pick Answers (none (with_session session s.accesses)) (λ e. omega arith) (λ e. by-pick Answers wag (λ e. omega arith) (λ e. omega arith))
answers-decided f (termination session label) wag s =
    by-pick Answers (none (with_session session (on_entry (entry_named label s) s.accesses))) (λ e. omega arith) (λ e. omega arith)

-- A CALL

length-kept : (n place : ℕ) (c : Code) (cut : List Access) → (result_of n place c cut).length ≡ n
unfolding result_of
length-kept n place c [] = refl
length-kept n place c (a ∷ others) = refl

module _ (P : List ℕ → Type 0) (no_answer : P []) (each : (m host realm room : List ℕ) (code : Code) → Ready m host realm room → 1 ≤ kind_of code → P (answer m host realm code)) where
  abbrev Gives : Left → Type 0
  Gives l = P (take l.reply.result.length l.reply.answer)

  module _ (t : Table) (c : Call) (r : Ready c.message c.host c.realm c.answer) where
    told-by : (code : Code) → 1 ≤ kind_of code → (place : ℕ) (cut : List Access)
        → P (take (result_of (length (answer c.message c.host c.realm code)) place code cut).length (answer_room c.message c.host c.realm code c.answer))
    unfolding answer_room
    told-by code k place cut =
        let bytes : List ℕ = answer c.message c.host c.realm code in
        let b : take (result_of (length bytes) place code cut).length (bytes ++ drop (length bytes) c.answer) ≡ bytes =
        ap (λ (n : ℕ). take n (bytes ++ drop (length bytes) c.answer)) (length-kept (length bytes) place code cut) ∙ take_at bytes (drop (length bytes) c.answer) (length bytes) refl in
        rw b (each c.message c.host c.realm c.answer code r k)

    on_row_lem : (q : Request) (F : Found) → Gives (on_row t c q F)
    unfolding on_row refusal settled reply kind_of
    on_row_lem q nothing = told-by user_unknown (omega arith) 0 []
    on_row_lem q (row i) =
        by-pick Gives (sound (row_at t i))
        (λ h. told-by _ (answers-decided t.form q.ask c.wag (read_row (row_at t i))) _ _)
        (λ h. told-by (plain 5012) (omega arith) 0 [])

    on-reading : (g : Reading) → Gives (on_reading t c g)
    unfolding on_reading refusal reply kind_of
    on-reading (refused code) = told-by (plain code) (omega arith) 0 []
    on-reading (request q) = on_row_lem q (lookup t (account c q))

  pub handled-by : (t : Table) (c : Call) → Gives (handle t c)
  unfolding handle silent call_of
  handled-by t c =
      by-pick Gives (eqb (call_number t c) 0)
      (λ h. on-reading t c (is-ready t c.operator c.message c.host c.realm c.answer c.notice c.wag (eqb-true (call_number t c) 0 h)) (read (most_policies t.form) c.message))
      (λ h. no_answer)
