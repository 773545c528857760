-- Every number of a result fits 32 bits by far: an answer has at most 5,120 bytes, a place is at most 8, a cut text has at most 128.
use mathlib.Core.Path.{◌≡◌, refl, sym, ap}
use mathlib.Core.Bool.{Bool, true, ◌&&◌}
use mathlib.Core.List.{List, [], ◌∷◌}
use Prim.Native.Nat.{ℕ, ◌-◌, ◌*◌, ◌≤◌}
use native.Mathlib.Omega.{arith}
use borrow.Author.Tests.{eqb-true, eqb-false, leb-true, le-leb}
use lib.Dec.{eqb, leb}
use lib.ListN.{length}
use Rattle.octets.specs.Choice.{within}
use Rattle.octets.specs.Lists.{every, first_or, keep}
use Rattle.octets.proofs.Choice.{by-pick}
use Rattle.octets.proofs.Lists.{and_left, and_right, both, by-test, every-imp, every-keep, within-high}
use Rattle.message.specs.TheRooms.{answer_least}
use Rattle.message.specs.Codes.{Code, plain, number_of, user_unknown}
use Rattle.message.specs.ReadingAMessage.{Ask, tunnel, policy, termination, Reading, refused, request, Request, avps, command, read, request_of, user_name, value_of}
use Rattle.message.specs.WritingTheAnswer.{answer}
use Rattle.message.proofs.Callers.{never-2001}
use Rattle.message.proofs.Lengths.{user-length, passing}
use Rattle.answers.proofs.Writing.{answer-fits}
use Rattle.table.specs.TheTable.{Access, Subscriber, Found, Table, form_of, row, nothing, lookup, places, read_row, row_at}
use Rattle.table.specs.Soundness.{sound}
use Rattle.table.proofs.Good.{Good, good_access, places-eight, spare, standing}
use Rattle.table.proofs.Rows.{form-most}
use Rattle.table.proofs.Sound.{says-good}
use Rattle.changes.specs.Changes.{Opening, lowest_free, vacant}
use Rattle.rules.specs.Deciding.{Verdict, admit, at_limit, at_place, decide, entry_named, grant, held_already, open_on, refuse, terminate, type0, type1}
use Rattle.rules.specs.Calls.{account, Call, Left, call_number, handle, most_policies, on_reading, on_row, refusal, reply, result_of, settled, silent}
use Rattle.decision.specs.Outcomes.{call_of}
use Rattle.numbers.specs.InNumbers.{In32}
use Rattle.decision.proofs.Numbers.{Ready, handled, is-ready, unanswered}

-- texts that a notice has room for
unfoldable short : Access → Bool
short a = leb (length a.session) 128 && (leb (length a.host) 128 && leb (length a.realm) 128)

result-small : (n place : ℕ) (c : Code) (cut : List Access) → n ≤ answer_least → place ≤ 8 → every short cut ≡ true → In32 (result_of n place c cut)
unfolding result_of every short
result-small n p c [] hn hp hc = record { length-fits = omega arith; place-fits = omega arith; session-fits = omega arith; host-fits = omega arith; realm-fits = omega arith }
result-small n p c (a ∷ others) hn hp hc =
    let here : short a ≡ true = and_left (short a) (every short others) hc in
    let behind : leb (length a.host) 128 && leb (length a.realm) 128 ≡ true = and_right (leb (length a.session) 128) _ here in
    record {
      length-fits = omega arith;
      place-fits = omega arith;
      session-fits = omega (arith, leb-true (length a.session) 128 (and_left (leb (length a.session) 128) _ here));
      host-fits = omega (arith, leb-true (length a.host) 128 (and_left (leb (length a.host) 128) (leb (length a.realm) 128) behind));
      realm-fits = omega (arith, leb-true (length a.realm) 128 (and_right (leb (length a.host) 128) (leb (length a.realm) 128) behind));
    }

-- WHAT IS DECIDED ON A SOUND ROW

first-most : (l : List ℕ) → every (within 1 8) l ≡ true → first_or 0 l ≤ 8
unfolding first_or every
first-most [] h = omega arith
first-most (x ∷ l) h = within-high 1 8 x (and_left (within 1 8 x) (every (within 1 8) l) h)

lowest-most : (a : List Access) → lowest_free a ≤ 8
unfolding lowest_free
lowest-most a = first-most (keep (vacant a) places) (every-keep (within 1 8) (vacant a) places places-eight.1)

all_short : (fm : ℕ) (s : Subscriber) → Good fm s → every short s.accesses ≡ true
unfolding short spare
all_short fm s g =
    every-imp (good_access fm (length s.entries)) short
    (λ (x : Access) t. let st = standing (length s.entries) x t in
    both (le-leb _ 128 (within-high 1 128 _ st.sid-fits)) (both (le-leb _ 128 (within-high 1 128 _ st.host-fits))
    (le-leb (length x.realm) 128 (omega (arith, leb-true (length x.realm) (128 * (fm - 1)) st.realm-fits, form-most fm g.form-good)))))
    s.accesses g.accesses-good.each

abbrev SmallVerdict : Verdict → Type 0
SmallVerdict v = (v.place ≤ 8) × (every short v.cut ≡ true)

refuse-small : (c : Code) (s : Subscriber) → SmallVerdict (refuse c s)
unfolding refuse every
refuse-small c s = (omega arith, refl)

grant-small : (s : Subscriber) → SmallVerdict (grant s)
unfolding grant every
grant-small s = (omega arith, refl)

admit-small : (fm n : ℕ) (o : Opening) (s : Subscriber) → Good fm s → SmallVerdict (admit n o s)
unfolding admit open_on at_place every
admit-small fm n o s g =
    by-pick SmallVerdict (at_limit n s)
    (λ e. (lowest-most _, every-keep short _ s.accesses (all_short fm s g)))
    (λ e. (lowest-most _, refl))

decided-small : (f fm : ℕ) (q : Ask) (wag : Bool) (s : Subscriber) → Good fm s → SmallVerdict (decide f q wag s)
unfolding decide type0 type1 terminate held_already
decided-small f fm (tunnel session host realm label visited) wag s g =
    by-pick SmallVerdict _ (λ e. refuse-small _ s) (λ e.
    by-pick SmallVerdict _ (λ e. refuse-small _ s) (λ e.
    by-pick SmallVerdict _ (λ e. refuse-small _ s) (λ e.
    by-pick SmallVerdict _ (λ e. by-pick SmallVerdict _ (λ k. grant-small s) (λ k. refuse-small _ s)) (λ e. admit-small fm (entry_named label s) _ s g))))
decided-small f fm (policy session first second third) wag s g =
    by-pick SmallVerdict _ (λ e. refuse-small _ s) (λ e. by-pick SmallVerdict _ (λ e. grant-small _) (λ e. refuse-small _ s))
decided-small f fm (termination session label) wag s g = by-pick SmallVerdict _ (λ e. refuse-small _ s) (λ e. grant-small _)

-- A WHOLE CALL

module _ (t : Table) (c : Call) (ready : Ready c.message c.host c.realm c.answer) where
  answer-small : (code : Code) → (command c.message ≡ 265 → number_of code ≡ 2001 → length (value_of user_name (avps c.message)) ≤ 128)
      → length (answer c.message c.host c.realm code) ≤ answer_least
  answer-small code u = answer-fits c.message c.host c.realm code ready.least ready.most ready.host-fits ready.realm-fits u

  refusal-small : (code : Code) → (number_of code ≡ 2001 → ⊥) → In32 (refusal t c code).reply.result
  unfolding refusal reply every
  refusal-small code other = result-small _ 0 code [] (answer-small code (λ h e. absurd (other e))) (omega arith) refl

  -- what is decided does not look at the form but for the realm that it keeps
  decided-at : (q : Ask) (i : ℕ) → sound (row_at t i) ≡ true → SmallVerdict (decide t.form q c.wag (read_row (row_at t i)))
  decided-at q i s = decided-small t.form (form_of (row_at t i)) q c.wag (read_row (row_at t i)) (says-good (row_at t i) s)

  row_small : (most : ℕ) (q : Request) → read most c.message ≡ request q → (f : Found) → In32 (on_row t c q f).reply.result
  unfolding on_row settled reply number_of request_of
  row_small most q e nothing = refusal-small user_unknown (λ h. absurd (omega arith))
  row_small most q e (row i) =
      by-pick (λ (l : Left). In32 l.reply.result) (sound (row_at t i))
      (λ s. let v : Verdict = decide t.form q.ask c.wag (read_row (row_at t i)) in
      let small-enough = decided-at q.ask i s in
      let user : q.user ≡ value_of user_name (avps c.message) = ap (λ (x : Request). x.user) (passing most c.message q e).asked in
      let fits : length (value_of user_name (avps c.message)) ≤ 128 = omega (arith, within-high 1 128 _ (user-length most c.message q e), ap length user) in
      result-small _ v.place v.code v.cut (answer-small v.code (λ h d. fits)) small-enough.0 small-enough.1)
      (λ s. refusal-small (plain 5012) (λ h. absurd (omega arith)))

  reading_small : (most : ℕ) (g : Reading) → read most c.message ≡ g → In32 (on_reading t c g).reply.result
  unfolding on_reading number_of
  reading_small most (refused n) e = refusal-small (plain n) (λ h. never-2001 most c.message n e h)
  reading_small most (request q) e = row_small most q e (lookup t (account c q))

pub small : (t : Table) (o : ℕ) (m host realm room notice : List ℕ) (wag : Bool) → In32 (handle t (call_of o m host realm room notice wag)).reply.result
unfolding silent call_of
small t o m host realm room notice wag =
    let c : Call = call_of o m host realm room notice wag in
    by-test (eqb (call_number t c) 0)
    (λ e. let z : call_number t c ≡ 0 = eqb-true (call_number t c) 0 e in
    rw (handled t c z) (reading_small t c (is-ready t o m host realm room notice wag z) (most_policies t.form) (read (most_policies t.form) m) refl))
    (λ e. rw (sym (unanswered t c (call_number t c) refl (eqb-false (call_number t c) 0 e)))
    (record { length-fits = omega arith; place-fits = omega arith; session-fits = omega arith; host-fits = omega arith; realm-fits = omega arith }))
