-- A burst on two tables that its operator can not tell apart tells the same, and leaves two that it can not tell apart.
use mathlib.Core.Path.{◌≡◌, refl, sym, ap, ◌∙◌, subst}
use mathlib.Core.Bool.{Bool, true}
use mathlib.Core.List.{List, [], ◌∷◌}
use Prim.Native.Nat.{ℕ, zero, suc}
use borrow.Author.Tests.{eq-eqb}
use lib.Dec.{eqb}
use lib.ListN.{length, take}
use Rattle.octets.specs.Choice.{pick}
use Rattle.octets.specs.Lists.{every}
use Rattle.octets.proofs.Lists.{and_left, and_right, both, by-test}
use Rattle.table.specs.TheTable.{Table, first_number}
use Rattle.rules.specs.Calls.{Call, run}
use Rattle.burst.specs.TheBurst.{Burst, all_told, burst, burst_number, bursted, call_for, calls_for, calls_of, how_many, refused_burst, whole_messages}
use Rattle.burstlaws.specs.BurstsRules.{taken_calls}
use Rattle.burstisolation.specs.IsolationWithBursts.{Said, at_once, word, written}
use Rattle.burstisolation.proofs.Flat.{burst-table}
use Rattle.burstisolation.proofs.Views.{BothRun, SameView, own-run, same-form, same_number, sent_from}

-- ALL CALLS OF A BURST are its operator's.

calls-sent : (f : ℕ) (b : Burst) (ms : List (List ℕ)) (ws : List ℕ) → every (sent_from b.operator) (calls_for f b ms ws) ≡ true
unfolding calls_for call_for every sent_from
calls-sent f b [] ws = refl
calls-sent f b (m ∷ ms) [] = refl
calls-sent f b (m ∷ ms) (w ∷ ws) = both (eq-eqb b.operator b.operator refl) (calls-sent f b ms ws)

first-pass : (p : Call → Bool) (cs : List Call) → every p cs ≡ true → (k : ℕ) → every p (take k cs) ≡ true
unfolding every
first-pass p cs h zero = refl
first-pass p [] h (suc k) = refl
first-pass p (c ∷ cs) h (suc k) = both (and_left (p c) _ h) (first-pass p cs (and_right (p c) _ h) k)

all-sent : (f : ℕ) (b : Burst) → every (sent_from b.operator) (calls_of f b) ≡ true
unfolding calls_of
all-sent f b = calls-sent f b (whole_messages b.messages) b.wags

first-sent : (f : ℕ) (b : Burst) (k : ℕ) → every (sent_from b.operator) (take k (calls_of f b)) ≡ true
first-sent f b k = first-pass (sent_from b.operator) (calls_of f b) (all-sent f b) k

pub taken-sent : (t : Table) (b : Burst) → every (sent_from b.operator) (taken_calls t b) ≡ true
unfolding taken_calls
taken-sent t b = first-sent t.form b (burst t b).taken.messages

-- how many a burst says it took
messages_in : Said → ℕ
messages_in (word w) = 0
messages_in (written w) = w.taken.messages

-- A BURST OF THE OPERATOR, on both tables

module _ (shares others : List ℕ) (b : Burst) (t u : Table) (v : SameView b.operator shares t others u) where
  abbrev ran : (cs : List Call) → every (sent_from b.operator) cs ≡ true → BothRun b.operator shares others t u cs
  ran cs h = own-run b.operator shares others cs h t u v

  forms : t.form ≡ u.form
  forms = same-form b.operator shares others t u v

  number_same : burst_number t b ≡ burst_number u b
  unfolding burst_number first_number
  number_same = rw (same_number b.operator shares others t u v)

  all_told_lem : all_told t b ≡ all_told u b
  unfolding all_told
  all_told_lem =
      let replies : (run t (calls_of t.form b)).replies ≡ (run u (calls_of t.form b)).replies = (ran (calls_of t.form b) (all-sent t.form b)).replies in
      rw (replies, forms)

  -- as many are taken, and they are told the same
  many-same : how_many t.form (all_told t b) (length b.answers) (length b.notices) ≡ how_many u.form (all_told u b) (length b.answers) (length b.notices)
  many-same = rw (all_told_lem, forms)

  taken-told : (k : ℕ) → (at_once (bursted t b k)).said ≡ (at_once (bursted u b k)).said
  unfolding at_once bursted
  taken-told k =
      let replies : (run t (take k (calls_of t.form b))).replies ≡ (run u (take k (calls_of t.form b))).replies = (ran (take k (calls_of t.form b)) (first-sent t.form b k)).replies in
      rw (replies, forms)

  pub burst-told : (at_once (burst t b)).said ≡ (at_once (burst u b)).said
  unfolding burst at_once refused_burst pick
  burst-told =
      by-test (eqb (burst_number u b) 0)
      (λ z. rw (number_same, z, many-same) (taken-told _))
      (λ z. rw (number_same, z))

  taken-same : taken_calls t b ≡ taken_calls u b
  unfolding taken_calls at_once messages_in
  taken-same =
      let k : (burst t b).taken.messages ≡ (burst u b).taken.messages = ap messages_in burst-told in
      rw (k, forms)

  pub burst-view : SameView b.operator shares (burst t b).table others (burst u b).table
  burst-view =
      let run-view : SameView b.operator shares (run t (taken_calls t b)).table others (run u (taken_calls t b)).table = (ran (taken_calls t b) (taken-sent t b)).view in
      let there : (run u (taken_calls t b)).table ≡ (burst u b).table = ap (λ (cs : List Call). (run u cs).table) taken-same ∙ sym (burst-table u b) in
      let first : SameView b.operator shares (burst t b).table others (run u (taken_calls t b)).table = subst (λ (w : Table). SameView b.operator shares w others (run u (taken_calls t b)).table) (sym (burst-table t b)) run-view in
      subst (λ (w : Table). SameView b.operator shares (burst t b).table others w) there first
