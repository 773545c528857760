-- Two tables that one operator can not tell apart, whatever is done on either: what the others do on one keeps it so, and what the operator does on
-- both keeps it so and tells it the same.
use mathlib.Core.Path.{◌≡◌, refl, sym, ap, ◌∙◌}
use mathlib.Core.Bool.{Bool, true, false}
use mathlib.Core.List.{List, [], ◌∷◌}
use Prim.Native.Nat.{ℕ}
use native.Mathlib.Omega.{arith}
use borrow.Author.Tests.{eqb-true, eq-eqb}
use lib.Dec.{eqb, leb}
use lib.ListN.{drop, get_or}
use Rattle.octets.specs.Choice.{first_of, pick, require, within}
use Rattle.octets.specs.Lists.{every, keep}
use Rattle.octets.proofs.Choice.{others-pass}
use Rattle.octets.proofs.Lists.{and_left, and_right}
use Rattle.table.specs.TheTable.{Table, table_number}
use Rattle.rules.specs.Calls.{Call, Left, Reply, call_number, handle, ran_first, run, silent}
use Rattle.decision.proofs.Numbers.{unanswered}
use Rattle.isolation.specs.Isolation.{Operation, SameFor, Word, answer, answered, asking, done, done_first, is_by, number, operations_of, operator_of, past, told_to}

-- With these shares and those, on this table and that.
abbrev pub SameView : (o : ℕ) (shares : List ℕ) (t : Table) (others : List ℕ) (u : Table) → Type 0
SameView o shares t others u =
    (xs ys : List Operation) → operations_of o xs ≡ operations_of o ys → SameFor o xs ys (past shares t xs) (past others u ys)

unfoldable pub sent_from : (operator : ℕ) → Call → Bool
sent_from o c = eqb c.operator o

-- the reply in a word; of a number there is none
reply_in : Reply → Word → Reply
reply_in none (number n) = none
reply_in none (answer r) = r

-- A CALL WITHOUT OWN NAMES is told 1, 33 or 2.

nameless : (operator : ℕ) → Call
nameless o = record { operator = o; message = []; host = []; realm = []; answer = []; notice = []; wag = false }

nameless-number : (t : Table) (o : ℕ) → call_number t (nameless o) ≡ first_of (table_number t ∷ require (leb o 15) 33 ∷ 2 ∷ [])
unfolding nameless call_number first_of require within pick
nameless-number t o = refl

never-none : (a b : ℕ) → first_of (a ∷ b ∷ 2 ∷ []) ≡ 0 → ⊥
never-none a b z = two (others-pass b _ (others-pass a _ z))
  where
    two : first_of (2 ∷ []) ≡ 0 → ⊥
    two e = unfold first_of in unfold pick in absurd (omega (arith, e))

nameless-told : (t : Table) (o : ℕ) → (handle t (nameless o)).reply.result.code ≡ first_of (table_number t ∷ require (leb o 15) 33 ∷ 2 ∷ [])
unfolding silent
nameless-told t o =
    let n : ℕ = first_of (table_number t ∷ require (leb o 15) 33 ∷ 2 ∷ []) in
    ap (λ (l : Left). l.reply.result.code) (sym (unanswered t (nameless o) n (sym (nameless-number t o)) (never-none (table_number t) (require (leb o 15) 33))))

told-apart : (p q b : Bool) → first_of (require p 1 ∷ require b 33 ∷ 2 ∷ []) ≡ first_of (require q 1 ∷ require b 33 ∷ 2 ∷ []) → p ≡ q
unfolding first_of require pick
told-apart true true b e = refl
told-apart false false b e = refl
told-apart true false true e = absurd (omega (arith, e))
told-apart true false false e = absurd (omega (arith, e))
told-apart false true true e = absurd (omega (arith, e))
told-apart false true false e = absurd (omega (arith, e))

module _ (o : ℕ) (shares others : List ℕ) where
  pub same-form : (t u : Table) → SameView o shares t others u → t.form ≡ u.form
  unfolding past
  same-form t u v = (v [] [] refl).form

  -- AN OPERATION OF ANOTHER, on the first table

  pub other-keeps : (t u : Table) (x : Operation) → eqb (operator_of x) o ≡ false → SameView o shares t others u
      → SameView o shares (done shares t x).table others u
  unfolding past done_first told_to operations_of keep is_by pick
  other-keeps t u x d v xs ys e =
      let none : operations_of o (x ∷ xs) ≡ operations_of o xs = rw d in
      let s : SameFor o (x ∷ xs) ys (past shares t (x ∷ xs)) (past others u ys) = v (x ∷ xs) ys (none ∙ e) in
      record { told = rw d at s.told; rows = s.rows; form = s.form }

  -- AN OPERATION OF ITS OWN, on both

  pub record Both (t u : Table) (x : Operation) : Type 0 where
    pub told : (done shares t x).told ≡ (done others u x).told
    pub view : SameView o shares (done shares t x).table others (done others u x).table

  module _ (t u : Table) (x : Operation) (own : eqb (operator_of x) o ≡ true) (v : SameView o shares t others u) where
    all_told_lem : (xs ys : List Operation) → operations_of o xs ≡ operations_of o ys → SameFor o (x ∷ xs) (x ∷ ys) (past shares t (x ∷ xs)) (past others u (x ∷ ys))
    unfolding operations_of keep is_by pick
    all_told_lem xs ys e = v (x ∷ xs) (x ∷ ys) (rw own (ap (λ (zs : List Operation). x ∷ zs) e))

    -- first its word, then what it is told behind it
    words-told : (xs ys : List Operation) → operations_of o xs ≡ operations_of o ys
        → (done shares t x).told ∷ told_to o xs (past shares (done shares t x).table xs).words
        ≡ (done others u x).told ∷ told_to o ys (past others (done others u x).table ys).words
    unfolding past done_first told_to is_by pick
    words-told xs ys e = rw own at (all_told_lem xs ys e).told

    pub own-keeps : Both t u x
    unfolding past done_first
    own-keeps =
        record {
          told = ap (λ (ws : List Word). get_or ws 0 (done shares t x).told) (words-told [] [] refl);
          view = λ xs ys e. record {
            told = ap (λ (ws : List Word). drop 1 ws) (words-told xs ys e);
            rows = (all_told_lem xs ys e).rows;
            form = (all_told_lem xs ys e).form;
          };
        }

  -- of a call
  same-reply : (t u : Table) (c : Call) → Both t u (asking c) → (handle t c).reply ≡ (handle u c).reply
  unfolding done answered reply_in
  same-reply t u c b = ap (reply_in (handle t c).reply) b.told

  -- CALLS OF ONE OPERATOR, one after another

  pub others_keep : (k : ℕ) → eqb k o ≡ false → (cs : List Call) → every (sent_from k) cs ≡ true → (t u : Table) → SameView o shares t others u
      → SameView o shares (run t cs).table others u
  unfolding every sent_from run ran_first done answered operator_of
  others_keep k d [] h t u v = v
  others_keep k d (c ∷ cs) h t u v =
      let is : c.operator ≡ k = eqb-true c.operator k (and_left (eqb c.operator k) _ h) in
      let other : eqb (operator_of (asking c)) o ≡ false = ap (λ (i : ℕ). eqb i o) is ∙ d in
      others_keep k d cs (and_right (eqb c.operator k) _ h) (handle t c).table u (other-keeps t u (asking c) other v)

  pub record BothRun (t u : Table) (cs : List Call) : Type 0 where
    pub replies : (run t cs).replies ≡ (run u cs).replies
    pub view : SameView o shares (run t cs).table others (run u cs).table

  pub own-run : (cs : List Call) → every (sent_from o) cs ≡ true → (t u : Table) → SameView o shares t others u → BothRun t u cs
  unfolding every sent_from run ran_first done answered operator_of
  own-run [] h t u v = record { replies = refl; view = v }
  own-run (c ∷ cs) h t u v =
      let one : Both t u (asking c) = own-keeps t u (asking c) (and_left (eqb c.operator o) _ h) v in
      let rest : BothRun (handle t c).table (handle u c).table cs = own-run cs (and_right (eqb c.operator o) _ h) (handle t c).table (handle u c).table one.view in
      record { replies = λ i. same-reply t u c one i ∷ rest.replies i; view = rest.view }

  -- NUMBER 1 is told to everyone: an operator asks without names of its own, and learns whether there is a table.

  pub same_number : (t u : Table) → SameView o shares t others u → table_number t ≡ table_number u
  unfolding operator_of nameless table_number
  same_number t u v =
      let one : Both t u (asking (nameless o)) = own-keeps t u (asking (nameless o)) (eq-eqb o o refl) v in
      let codes : first_of (table_number t ∷ require (leb o 15) 33 ∷ 2 ∷ []) ≡ first_of (table_number u ∷ require (leb o 15) 33 ∷ 2 ∷ []) =
      sym (nameless-told t o) ∙ ap (λ (r : Reply). r.result.code) (same-reply t u (nameless o) one) ∙ nameless-told u o in
      ap (λ (b : Bool). require b 1) (told-apart _ _ (leb o 15) codes)
