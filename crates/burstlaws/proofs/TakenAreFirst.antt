-- The messages that are taken, end to end, are the first bytes of those lent.
use mathlib.Core.Path.{◌≡◌, refl, sym, ap, ◌∙◌, subst}
use mathlib.Core.List.{List, [], ◌∷◌, ◌++◌, map}
use Prim.Native.Nat.{ℕ, zero, suc, ◌+◌, ◌≤◌}
use native.Mathlib.Omega.{arith}
use lib.Dec.{eqb}
use lib.ListN.{length, take, drop}
use lib.Seq.{length-take-le, take-add}
use Rattle.octets.specs.Choice.{pick}
use Rattle.octets.specs.Lists.{sum_of}
use Rattle.octets.proofs.Lists.{by-test}
use Rattle.table.specs.TheTable.{Table}
use Rattle.rules.specs.Calls.{Call}
use Rattle.burst.specs.TheBurst.{Burst, Bursted, burst_number, bursted, call_for, calls_for, calls_of, joined, next_length, whole_messages, whole_up_to}
use Rattle.burst.proofs.Boundaries.{next_fits}
use Rattle.burst.proofs.Loop.{burst-goes, words-fit}
use Rattle.burst.proofs.Steps.{go_on}
use Rattle.burstlaws.specs.BurstsRules.{TakenAreFirst, TakenIs, taken_calls}
use Rattle.burstlaws.proofs.OneByOne.{taken-calls}
use Rattle.burstlaws.proofs.Written.{count, count_fits, first_calls, map-take, not-refused}

-- the first k whole messages, end to end
first-bytes : (n k : ℕ) (s : List ℕ) → joined (take k (whole_up_to n s)) ≡ take (sum_of (map length (take k (whole_up_to n s)))) s
unfolding whole_up_to joined sum_of pick
first-bytes zero zero s = refl
first-bytes zero (suc k) s = refl
first-bytes (suc n) zero s = refl
first-bytes (suc n) (suc k) s =
    let m : List ℕ = take (next_length s) s in
    let others : List (List ℕ) = take k (whole_up_to n (drop (next_length s) s)) in
    let size : length m ≡ next_length s = length-take-le (next_length s) s (next_fits s) in
    let both : m ++ joined others ≡ take (length m + sum_of (map length others)) s =
    ap (λ (r : List ℕ). m ++ r) (first-bytes n k (drop (next_length s) s))
    ∙ sym (take-add (next_length s) (sum_of (map length others)) s)
    ∙ ap (λ (j : ℕ). take (j + sum_of (map length others)) s) (sym size) in
    by-test (eqb (next_length s) 0) (λ e. rw e refl) (λ e. rw e both)

-- the calls have the messages, where there is a word for each
messages-of : (f : ℕ) (b : Burst) (ms : List (List ℕ)) (ws : List ℕ) → length ms ≤ length ws → map (λ (c : Call). c.message) (calls_for f b ms ws) ≡ ms
unfolding calls_for call_for
messages-of f b [] ws h = refl
messages-of f b (m ∷ ms) [] h = absurd (omega (arith, h))
messages-of f b (m ∷ ms) (w ∷ ws) h = ap (λ (l : List (List ℕ)). m ∷ l) (messages-of f b ms ws (omega (arith, h)))

module _ (t : Table) (b : Burst) (z : burst_number t b ≡ 0) where
  pub all-messages : map (λ (c : Call). c.message) (calls_of t.form b) ≡ whole_messages b.messages
  unfolding calls_of
  all-messages = messages-of t.form b (whole_messages b.messages) b.wags (words-fit t b z)

  first-messages : map (λ (c : Call). c.message) (first_calls t b) ≡ take (count t b) (whole_messages b.messages)
  first-messages = map-take (λ (c : Call). c.message) (count t b) (calls_of t.form b) ∙ ap (take (count t b)) all-messages

  taken_is : TakenIs b (first_calls t b) (go_on t b)
  unfolding go_on bursted whole_messages
  taken_is =
      record {
        count = length-take-le (count t b) (calls_of t.form b) (count_fits t b);
        bytes = ap joined first-messages ∙ first-bytes (length b.messages) (count t b) b.messages;
      }

pub taken-are-first : TakenAreFirst
taken-are-first t b z =
    let goes : burst_number t b ≡ 0 = not-refused t b z in
    subst (λ (x : Bursted). TakenIs b (taken_calls t b) x) (sym (burst-goes t b goes))
    (subst (λ (cs : List Call). TakenIs b cs (go_on t b)) (sym (taken-calls t b z)) (taken_is t b goes))
