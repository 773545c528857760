-- What each message of a burst is told: an answer of at most 5,120 bytes, and a notice that is whole or not there at all. So the rooms can be read
-- message by message, and rooms of that size for each message suffice.
use mathlib.Core.Path.{◌≡◌, refl, sym, ap, ◌∙◌, subst}
use mathlib.Core.Bool.{Bool, true, false, ◌&&◌}
use mathlib.Core.List.{List, [], ◌∷◌, ◌++◌, append_assoc, map}
use Prim.Native.Nat.{ℕ, suc, ◌+◌, ◌-◌, ◌*◌, ◌≤◌}
use native.Mathlib.Nat.{add-mul}
use native.Mathlib.Omega.{arith}
use borrow.Author.Tests.{eqb-true, eqb-false, leb-true, le-leb}
use lib.Dec.{eqb, leb}
use lib.ListN.{length, take, drop, length-append, length-map}
use lib.Seq.{drop_at, length-take-le, take_at}
use Rattle.octets.specs.Choice.{pick}
use Rattle.octets.specs.Lists.{every}
use Rattle.octets.specs.Texts.{put}
use Rattle.octets.proofs.Choice.{by-pick}
use Rattle.octets.proofs.Lists.{and_left, and_right, both, by-test, within-high}
use Rattle.message.specs.TheRooms.{answer_least, notice_length}
use Rattle.message.specs.Codes.{Code, plain, number_of, user_unknown}
use Rattle.message.specs.ReadingAMessage.{Reading, refused, request, Request, avps, command, read, request_of, user_name, value_of}
use Rattle.message.specs.WritingTheAnswer.{answer}
use Rattle.message.proofs.Callers.{never-2001}
use Rattle.message.proofs.Lengths.{user-length, passing}
use Rattle.answers.proofs.Writing.{answer-fits}
use Rattle.table.specs.TheTable.{Access, Found, Table, row, nothing, lookup, read_row, row_at}
use Rattle.table.specs.Soundness.{sound}
use Rattle.rules.specs.Deciding.{Verdict, decide}
use Rattle.rules.specs.Calls.{account, Call, Left, Reply, Result, call_number, handle, most_policies, notice_bytes, notice_room, on_reading, on_row, ran_first, refusal, reply, result_of, run, settled, silent}
use Rattle.decision.specs.Outcomes.{call_of}
use Rattle.decision.proofs.Numbers.{Ready, handled, is-ready, unanswered}
use Rattle.order.specs.Demand3.{Told, told}
use Rattle.order.proofs.Lists.{form-stays, one-reply-each}
use Rattle.order.proofs.Rooms.{length_cut}
use Rattle.burst.specs.TheBurst.{Burst, burst, burst_number, bursted, calls_of, how_many, joined, refused_burst}
use Rattle.order.proofs.Handled.{fine}
use Rattle.burstlaws.specs.AnyOrder.{told_in, tolds}

-- A REPLY: few bytes of answer, and room for the notice that it tells

pub record Few (form : ℕ) (r : Reply) : Type 0 where
  pub answer-few : r.result.length ≤ answer_least
  pub notice-there : eqb r.result.cut 1 ≡ true → notice_length form ≤ length r.notice

few-reply : (f : ℕ) (c : Call) (code : Code) (place : ℕ) (cut : List Access) → length (answer c.message c.host c.realm code) ≤ answer_least
    → Few f (reply f c code place cut)
unfolding reply result_of notice_room
few-reply f c code place [] h = record { answer-few = h; notice-there = λ e. absurd (omega (arith, eqb-true 0 1 e)) }
few-reply f c code place (a ∷ others) h =
    let all : length (notice_bytes f a ++ drop (notice_length f) c.notice) ≡ length (notice_bytes f a) + length (drop (notice_length f) c.notice) = length-append (notice_bytes f a) _ in
    record { answer-few = h; notice-there = λ e. omega (arith, all, length_cut f a) }

module _ (t : Table) (c : Call) (z : call_number t c ≡ 0) where
  ready : Ready c.message c.host c.realm c.answer
  unfolding call_of
  ready = is-ready t c.operator c.message c.host c.realm c.answer c.notice c.wag z

  few_bytes : (code : Code) → (command c.message ≡ 265 → number_of code ≡ 2001 → length (value_of user_name (avps c.message)) ≤ 128)
      → length (answer c.message c.host c.realm code) ≤ answer_least
  few_bytes code u = answer-fits c.message c.host c.realm code ready.least ready.most ready.host-fits ready.realm-fits u

  few-refusal : (code : Code) → (number_of code ≡ 2001 → ⊥) → Few t.form (refusal t c code).reply
  unfolding refusal
  few-refusal code other = few-reply t.form c code 0 [] (few_bytes code (λ h e. absurd (other e)))

  few-row : (most : ℕ) (q : Request) → read most c.message ≡ request q → (F : Found) → Few t.form (on_row t c q F).reply
  unfolding on_row settled number_of request_of
  few-row most q e nothing = few-refusal user_unknown (λ h. absurd (omega arith))
  few-row most q e (row i) =
      by-pick (λ (l : Left). Few t.form l.reply) (sound (row_at t i))
      (λ s. let v : Verdict = decide t.form q.ask c.wag (read_row (row_at t i)) in
      let user : q.user ≡ value_of user_name (avps c.message) = ap (λ (x : Request). x.user) (passing most c.message q e).asked in
      let fits : length (value_of user_name (avps c.message)) ≤ 128 = omega (arith, within-high 1 128 _ (user-length most c.message q e), ap length user) in
      few-reply t.form c v.code v.place v.cut (few_bytes v.code (λ h d. fits)))
      (λ s. few-refusal (plain 5012) (λ h. absurd (omega arith)))

  few-reading : (most : ℕ) (g : Reading) → read most c.message ≡ g → Few t.form (on_reading t c g).reply
  unfolding on_reading number_of
  few-reading most (refused n) e = few-refusal (plain n) (λ h. never-2001 most c.message n e h)
  few-reading most (request q) e = few-row most q e (lookup t (account c q))

few-silent : (t : Table) (c : Call) (n : ℕ) → Few t.form (silent t c n).reply
unfolding silent
few-silent t c n = record { answer-few = omega arith; notice-there = λ e. absurd (omega (arith, eqb-true 0 1 e)) }

pub few : (t : Table) (c : Call) → Few t.form (handle t c).reply
few t c =
    by-test (eqb (call_number t c) 0)
    (λ e. let z : call_number t c ≡ 0 = eqb-true (call_number t c) 0 e in
    rw (handled t c z) (few-reading t c z (most_policies t.form) (read (most_policies t.form) c.message) refl))
    (λ e. rw (sym (unanswered t c (call_number t c) refl (eqb-false (call_number t c) 0 e))) (few-silent t c (call_number t c)))

-- WHAT IS TOLD, by its length

pub record Whole (form : ℕ) (x : Told) : Type 0 where
  pub answer-length : length x.answer ≡ x.result.length
  pub answer-most : length x.answer ≤ answer_least
  pub notice-length : eqb x.result.cut 1 ≡ true → length x.notice ≡ notice_length form
  pub notice-none : eqb x.result.cut 1 ≡ false → x.notice ≡ []

pub whole : (t : Table) (c : Call) → Whole t.form (told t.form (handle t c).reply)
unfolding told pick
whole t c =
    let r : Reply = (handle t c).reply in
    let l : length (take r.result.length r.answer) ≡ r.result.length = length-take-le r.result.length r.answer (fine t c).answer-stands in
    record {
      answer-length = l;
      answer-most = omega (arith, l, (few t c).answer-few);
      notice-length = λ e. rw e (length-take-le (notice_length t.form) r.notice ((few t c).notice-there e));
      notice-none = λ e. rw e;
    }

-- THE ROOMS, READ MESSAGE BY MESSAGE

abbrev results : List Told → List Result
results xs = map (λ (x : Told). x.result) xs

abbrev answers : List Told → List ℕ
answers xs = joined (map (λ (x : Told). x.answer) xs)

abbrev notices : List Told → List ℕ
notices xs = joined (map (λ (x : Told). x.notice) xs)

module _ (f : ℕ) (x : Told) (w : Whole f x) (xs : List Told) (a n : List ℕ) (rest : told_in f (results xs) (answers xs ++ a) (notices xs ++ n) ≡ xs) where
  answer-first : take x.result.length (x.answer ++ answers xs ++ a) ≡ x.answer
  answer-first = ap (take x.result.length) (append_assoc x.answer (answers xs) a) ∙ take_at x.answer (answers xs ++ a) x.result.length w.answer-length

  answer-rest : drop x.result.length (x.answer ++ answers xs ++ a) ≡ answers xs ++ a
  answer-rest = ap (drop x.result.length) (append_assoc x.answer (answers xs) a) ∙ drop_at x.answer (answers xs ++ a) x.result.length w.answer-length

  notice-first : pick (eqb x.result.cut 1) (take (notice_length f) (x.notice ++ notices xs ++ n)) [] ≡ x.notice
  unfolding pick
  notice-first =
      by-test (eqb x.result.cut 1)
      (λ e. rw e (ap (take (notice_length f)) (append_assoc x.notice (notices xs) n) ∙ take_at x.notice (notices xs ++ n) (notice_length f) (w.notice-length e)))
      (λ e. rw e (sym (w.notice-none e)))

  notice-rest : pick (eqb x.result.cut 1) (drop (notice_length f) (x.notice ++ notices xs ++ n)) (x.notice ++ notices xs ++ n) ≡ notices xs ++ n
  unfolding pick
  notice-rest =
      by-test (eqb x.result.cut 1)
      (λ e. rw e (ap (drop (notice_length f)) (append_assoc x.notice (notices xs) n) ∙ drop_at x.notice (notices xs ++ n) (notice_length f) (w.notice-length e)))
      (λ e. rw e (ap (λ (s : List ℕ). s ++ notices xs ++ n) (w.notice-none e)))

  read_one : told_in f (results (x ∷ xs)) (answers (x ∷ xs) ++ a) (notices (x ∷ xs) ++ n) ≡ x ∷ xs
  unfolding told_in joined
  read_one =
      (λ i. record { result = x.result; answer = answer-first i; notice = notice-first i } ∷ told_in f (results xs) (answer-rest i) (notice-rest i))
      ∙ ap (λ (ys : List Told). x ∷ ys) rest

-- what is told by a list of calls, in a form that is said
abbrev pub told_of : (form : ℕ) → Table → List Call → List Told
told_of f t cs = map (told f) (run t cs).replies

module _ (f : ℕ) (t : Table) (e : t.form ≡ f) (c : Call) where
  pub form-on : (handle t c).table.form ≡ f
  unfolding run ran_first
  form-on = form-stays t (c ∷ []) ∙ e

  pub whole-on : Whole f (told f (handle t c).reply)
  whole-on = subst (λ (g : ℕ). Whole g (told g (handle t c).reply)) e (whole t c)

read_back : (f : ℕ) (t : Table) → t.form ≡ f → (cs : List Call) (a n : List ℕ)
    → told_in f (results (told_of f t cs)) (answers (told_of f t cs) ++ a) (notices (told_of f t cs) ++ n) ≡ told_of f t cs
unfolding run ran_first told_in
read_back f t e [] a n = refl
read_back f t e (c ∷ cs) a n =
    read_one f (told f (handle t c).reply) (whole-on f t e c) (told_of f (handle t c).table cs) a n (read_back f (handle t c).table (form-on f t e c) cs a n)

pub length-told : (f : ℕ) (t : Table) (cs : List Call) → length (told_of f t cs) ≡ length cs
length-told f t cs = length-map (run t cs).replies (told f) ∙ one-reply-each t cs

pub read-bursted : (t : Table) (b : Burst) (k : ℕ) → k ≤ length (calls_of t.form b) → tolds t.form (bursted t b k) ≡ told_of t.form t (take k (calls_of t.form b))
unfolding tolds bursted put
read-bursted t b k h =
    let xs : List Told = told_of t.form t (take k (calls_of t.form b)) in
    let many : length (results xs) ≡ k = length-map xs (λ (x : Told). x.result) ∙ length-told t.form t (take k (calls_of t.form b)) ∙ length-take-le k (calls_of t.form b) h in
    ap (λ (rs : List Result). told_in t.form rs (answers xs ++ drop (0 + length (answers xs)) b.answers) (notices xs ++ drop (0 + length (notices xs)) b.notices)) (take_at (results xs) (drop k b.results) k many)
    ∙ read_back t.form t refl (take k (calls_of t.form b)) _ _

-- HOW MANY ARE TAKEN

unfoldable pub fits : (form : ℕ) → Told → Bool
fits f x = leb (length x.answer) answer_least && leb (length x.notice) (notice_length f)

whole-fits : (f : ℕ) (x : Told) → Whole f x → fits f x ≡ true
unfolding fits
whole-fits f x w =
    both (le-leb (length x.answer) answer_least w.answer-most)
    (le-leb (length x.notice) (notice_length f)
    (by-test (eqb x.result.cut 1)
    (λ e. omega (arith, w.notice-length e))
    (λ e. omega (arith, ap length (w.notice-none e)))))

pub all_fit : (f : ℕ) (t : Table) → t.form ≡ f → (cs : List Call) → every (fits f) (told_of f t cs) ≡ true
unfolding run ran_first every
all_fit f t e [] = refl
all_fit f t e (c ∷ cs) =
    both (whole-fits f (told f (handle t c).reply) (whole-on f t e c)) (all_fit f (handle t c).table (form-on f t e c) cs)

many-all : (f : ℕ) (xs : List Told) (a n : ℕ) → every (fits f) xs ≡ true → length xs * answer_least ≤ a → length xs * notice_length f ≤ n → how_many f xs a n ≡ length xs
unfolding how_many every fits pick
many-all f [] a n e ha hn = refl
many-all f (x ∷ xs) a n e ha hn =
    let here : leb (length x.answer) answer_least && leb (length x.notice) (notice_length f) ≡ true = and_left _ (every (fits f) xs) e in
    let la : length x.answer ≤ answer_least = leb-true (length x.answer) answer_least (and_left _ (leb (length x.notice) (notice_length f)) here) in
    let ln : length x.notice ≤ notice_length f = leb-true (length x.notice) (notice_length f) (and_right (leb (length x.answer) answer_least) _ here) in
    let one : (1 + length xs) * notice_length f ≡ 1 * notice_length f + length xs * notice_length f = add-mul 1 (length xs) (notice_length f) in
    let hm : (1 + length xs) * notice_length f ≤ n = subst (λ (k : ℕ). k * notice_length f ≤ n) (omega arith) hn in
    rw (le-leb answer_least a (omega arith), le-leb (notice_length f) n (omega arith))
    (ap suc (many-all f xs (a - length x.answer) (n - length x.notice) (and_right (fits f x) (every (fits f) xs) e) (omega arith) (omega arith)))

-- rooms of 5,120 bytes and of a notice for each call
pub enough : (t : Table) (cs : List Call) (a n : ℕ) → length cs * answer_least ≤ a → length cs * notice_length t.form ≤ n → how_many t.form (told_of t.form t cs) a n ≡ length cs
enough t cs a n ha hn =
    let l : length (told_of t.form t cs) ≡ length cs = length-told t.form t cs in
    many-all t.form (told_of t.form t cs) a n (all_fit t.form t refl cs) (rw l ha) (rw l hn) ∙ l

-- A BURST

-- the number that it returns, and what it leaves where that is 0
pub number_is : (t : Table) (b : Burst) → (burst t b).taken.number ≡ burst_number t b
unfolding burst bursted refused_burst pick
number_is t b =
    by-test (eqb (burst_number t b) 0)
    (λ e. rw e (sym (eqb-true (burst_number t b) 0 e)))
    (λ e. rw e)
