-- A burst stays within the messages, the rooms and the places: a message is taken only where there is room for any answer and any notice.
use mathlib.Core.Path.{◌≡◌, refl, ◌∙◌, subst}
use mathlib.Core.Bool.{true, ◌&&◌}
use mathlib.Core.List.{List, [], ◌∷◌, ◌++◌, map}
use Prim.Native.Nat.{ℕ, zero, suc, ◌+◌, ◌-◌, ◌≤◌}
use native.Mathlib.Nat.{zero-mul}
use native.Mathlib.Omega.{arith}
use borrow.Author.Tests.{leb-true}
use lib.Dec.{eqb, leb}
use lib.ListN.{length, take, drop, length-append, length-drop, length-map}
use lib.Seq.{length-take-le}
use Rattle.octets.specs.Choice.{pick}
use Rattle.octets.specs.Lists.{every, sum_of}
use Rattle.octets.proofs.Choice.{by-pick}
use Rattle.octets.proofs.Lists.{and_left, and_right, by-test}
use Rattle.octets.proofs.Texts.{length-put}
use Rattle.message.specs.TheRooms.{answer_least, notice_length}
use Rattle.table.specs.TheTable.{Table}
use Rattle.rules.specs.Calls.{Result}
use Rattle.order.specs.Demand3.{Told}
use Rattle.burst.specs.TheBurst.{Burst, all_told, burst_number, bursted, calls_of, how_many, joined, next_length, refused_burst, whole_messages, whole_up_to}
use Rattle.burst.proofs.Boundaries.{next_fits}
use Rattle.burst.proofs.Loop.{places-fit}
use Rattle.burst.proofs.Steps.{go_on}
use Rattle.burstlaws.specs.BurstsRules.{HeldBy, WithinRooms}
use Rattle.burstlaws.proofs.ToldEach.{all_fit, fits}
use Rattle.burstlaws.proofs.WhyItStopped.{all_whole, answers_of, notices_of, tolds-are}
use Rattle.burstlaws.proofs.Written.{all_told_lem, by_number, count, count_fits, count-told, notices-length, tolds, tolds-whole}

-- THE MESSAGES

bytes_most : (n k : ℕ) (s : List ℕ) → sum_of (map length (take k (whole_up_to n s))) ≤ length s
unfolding whole_up_to sum_of pick
bytes_most zero zero s = omega arith
bytes_most zero (suc k) s = omega arith
bytes_most (suc n) zero s = omega arith
bytes_most (suc n) (suc k) s =
    let m : List ℕ = take (next_length s) s in
    let others : List (List ℕ) = take k (whole_up_to n (drop (next_length s) s)) in
    let size : length m ≡ next_length s = length-take-le (next_length s) s (next_fits s) in
    let behind : sum_of (map length others) ≤ length (drop (next_length s) s) = bytes_most n k (drop (next_length s) s) in
    let all : length m + sum_of (map length others) ≤ length s = omega (arith, size, behind, length-drop (next_length s) s, next_fits s) in
    by-test (eqb (next_length s) 0) (λ e. rw e (omega arith)) (λ e. rw e all)

-- THE ROOMS

-- what the first k are told is no more than there is
abbrev Held : (form : ℕ) → List Told → (answers notices k : ℕ) → Type 0
Held f xs a n k = (length (answers_of (take k xs)) ≤ a) × (length (notices_of (take k xs)) ≤ n)

many-held : (f : ℕ) (xs : List Told) (a n : ℕ) → every (fits f) xs ≡ true → Held f xs a n (how_many f xs a n)
unfolding how_many joined every fits
many-held f [] a n h = (omega arith, omega arith)
many-held f (x ∷ xs) a n h =
    by-pick (Held f (x ∷ xs) a n) (leb answer_least a && leb (notice_length f) n)
    (λ e.
    let k : ℕ = how_many f xs (a - length x.answer) (n - length x.notice) in
    let here : fits f x ≡ true = and_left (fits f x) (every (fits f) xs) h in
    let answer : length x.answer ≤ answer_least = leb-true (length x.answer) answer_least (and_left _ (leb (length x.notice) (notice_length f)) here) in
    let notice : length x.notice ≤ notice_length f = leb-true (length x.notice) (notice_length f) (and_right (leb (length x.answer) answer_least) _ here) in
    let room : answer_least ≤ a = leb-true answer_least a (and_left _ (leb (notice_length f) n) e) in
    let room-2 : notice_length f ≤ n = leb-true (notice_length f) n (and_right (leb answer_least a) _ e) in
    let rest : Held f xs (a - length x.answer) (n - length x.notice) k =
    many-held f xs (a - length x.answer) (n - length x.notice) (and_right (fits f x) (every (fits f) xs) h) in
    let answers : length (x.answer ++ answers_of (take k xs)) ≡ length x.answer + length (answers_of (take k xs)) = length-append x.answer (answers_of (take k xs)) in
    let notices : length (x.notice ++ notices_of (take k xs)) ≡ length x.notice + length (notices_of (take k xs)) = length-append x.notice (notices_of (take k xs)) in
    (omega (arith, answers, answer, room, rest.0), omega (arith, notices, notice, room-2, rest.1)))
    (λ e. (omega arith, omega arith))

module _ (t : Table) (b : Burst) where
  held_all : Held t.form (all_told t b) (length b.answers) (length b.notices) (count t b)
  unfolding all_told
  held_all = many-held t.form (all_told t b) (length b.answers) (length b.notices) (all_fit t.form t refl (calls_of t.form b))

  held-refused : (n : ℕ) → HeldBy t b (refused_burst t b n)
  unfolding refused_burst
  held-refused n =
      record {
        bytes = omega arith;
        answers = omega arith;
        notices = omega (arith, zero-mul (notice_length t.form));
        results = omega arith;
        long-answers = refl;
        long-notices = refl;
        long-results = refl;
      }

  module _ (z : burst_number t b ≡ 0) where
    held : (length (answers_of (tolds t b)) ≤ length b.answers) × (length (notices_of (tolds t b)) ≤ length b.notices)
    held =
        subst (λ (xs : List Told). (length (answers_of xs) ≤ length b.answers) × (length (notices_of xs) ≤ length b.notices)) (tolds-are t b z) held_all

    few : count t b ≤ length b.results
    few = omega (arith, count_fits t b, all_told_lem t b, all_whole t b z, places-fit t b z)

    held-goes : HeldBy t b (go_on t b)
    unfolding go_on bursted whole_messages
    held-goes =
        let results : List Result = map (λ (x : Told). x.result) (tolds t b) in
        let many : length results ≡ count t b = length-map (tolds t b) (λ (x : Told). x.result) ∙ count-told t b in
        record {
          bytes = bytes_most (length b.messages) (count t b) b.messages;
          answers = held.0;
          notices = subst (λ (k : ℕ). k ≤ length b.notices) (notices-length t.form (tolds t b) (tolds-whole t b)) held.1;
          results = few;
          long-answers = length-put b.answers 0 (answers_of (tolds t b)) (omega (arith, held.0));
          long-notices = length-put b.notices 0 (notices_of (tolds t b)) (omega (arith, held.1));
          long-results = omega (arith, length-append results (drop (count t b) b.results), many, length-drop (count t b) b.results, few);
        }

pub within-rooms : WithinRooms
within-rooms t b = by_number t b (HeldBy t b) (held-refused t b (burst_number t b)) (held-goes t b)
