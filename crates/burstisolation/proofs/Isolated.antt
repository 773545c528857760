-- Histories with bursts: what an operator is told among all is what its own actions alone are told.
use mathlib.Core.Path.{◌≡◌, refl, sym, ap, ◌∙◌, subst}
use mathlib.Core.Bool.{false}
use mathlib.Core.List.{List, [], ◌∷◌}
use Prim.Native.Nat.{ℕ}
use borrow.Author.Tests.{eqb-true, eq-eqb}
use lib.Dec.{eqb}
use Rattle.octets.specs.Choice.{pick}
use Rattle.octets.specs.Lists.{keep}
use Rattle.octets.proofs.Lists.{by-test}
use Rattle.table.specs.TheTable.{Table, own_rows}
use Rattle.isolation.specs.Isolation.{Alike, operator_of, past, zero_table}
use Rattle.isolation.proofs.Isolated.{isolated}
use Rattle.burst.specs.TheBurst.{burst}
use Rattle.burstlaws.specs.BurstsRules.{taken_calls}
use Rattle.burstisolation.specs.IsolationWithBursts.{Action, IsolatedWithBursts, SameWithBursts, acted, acted_first, actions_of, actor_of, acts_for, at_once, bursting, history, said_to, single, singly, word}
use Rattle.burstisolation.proofs.Flat.{burst-table}
use Rattle.burstisolation.proofs.Views.{Both, SameView, other-keeps, others_keep, own-keeps}
use Rattle.burstisolation.proofs.Bursts.{burst-told, burst-view, taken-sent}

-- ANY ACTION

module _ (o : ℕ) (shares others : List ℕ) where
  -- of another, on the first table
  other-acts : (t u : Table) (x : Action) → eqb (actor_of x) o ≡ false → SameView o shares t others u → SameView o shares (acted shares t x).table others u
  unfolding acted singly at_once actor_of
  other-acts t u (single x) d v = other-keeps o shares others t u x d v
  other-acts t u (bursting b) d v =
      subst (λ (w : Table). SameView o shares w others u) (sym (burst-table t b))
      (others_keep o shares others b.operator d (taken_calls t b) (taken-sent t b) t u v)

  -- of its own, on both
  record BothAct (t u : Table) (x : Action) : Type 0 where
    said : (acted shares t x).said ≡ (acted others u x).said
    view : SameView o shares (acted shares t x).table others (acted others u x).table

  own-acts : (t u : Table) (x : Action) → actor_of x ≡ o → SameView o shares t others u → BothAct t u x
  unfolding acted singly at_once actor_of
  own-acts t u (single x) e v =
      let b : Both o shares others t u x = own-keeps o shares others t u x (eq-eqb (operator_of x) o e) v in
      record { said = ap word b.told; view = b.view }
  own-acts t u (bursting b) e v =
      let w : SameView b.operator shares t others u = subst (λ (i : ℕ). SameView i shares t others u) (sym e) v in
      record {
        said = burst-told shares others b t u w;
        view = subst (λ (i : ℕ). SameView i shares (burst t b).table others (burst u b).table) e (burst-view shares others b t u w);
      }

  -- A HISTORY, AND THE OPERATOR'S ACTIONS ALONE

  alone : (xs : List Action) (t u : Table) → SameView o shares t others u
      → SameWithBursts o xs (actions_of o xs) (history shares t xs) (history others u (actions_of o xs))
  unfolding history acted_first said_to actions_of acts_for keep pick past
  alone [] t u v = record { told = refl; rows = (v [] [] refl).rows; form = (v [] [] refl).form }
  alone (x ∷ xs) t u v =
      by-test (eqb (actor_of x) o)
      (λ own.
      let b : BothAct t u x = own-acts t u x (eqb-true (actor_of x) o own) v in
      let s : SameWithBursts o xs (actions_of o xs) (history shares (acted shares t x).table xs) (history others (acted others u x).table (actions_of o xs)) =
      alone xs (acted shares t x).table (acted others u x).table b.view in
      record {
        told = rw (own, own) (λ i. b.said i ∷ s.told i);
        rows = rw own s.rows;
        form = rw own s.form;
      })
      (λ other.
      let s : SameWithBursts o xs (actions_of o xs) (history shares (acted shares t x).table xs) (history others u (actions_of o xs)) =
      alone xs (acted shares t x).table u (other-acts t u x other v) in
      record {
        told = rw other s.told;
        rows = rw other s.rows;
        form = rw other s.form;
      })

-- ISOLATION: both histories are told what the operator's actions alone are told under the second shares.

pub isolated-with-bursts : IsolatedWithBursts
isolated-with-bursts fm size o shares others xs ys a e =
    let t : Table = zero_table fm size in
    let same : Alike o others others = record { count = refl; own = refl; sum = refl } in
    let first : SameWithBursts o xs (actions_of o xs) (history shares t xs) (history others t (actions_of o xs)) =
    alone o shares others xs t t (λ zs ws h. isolated fm size o shares others zs ws a h) in
    let second : SameWithBursts o ys (actions_of o ys) (history others t ys) (history others t (actions_of o ys)) =
    alone o others others ys t t (λ zs ws h. isolated fm size o others others zs ws same h) in
    record {
      told = first.told ∙ ap (λ (zs : List Action). said_to o zs (history others t zs).saids) e ∙ sym second.told;
      rows = first.rows ∙ ap (λ (zs : List Action). own_rows o (history others t zs).table) e ∙ sym second.rows;
      form = first.form ∙ ap (λ (zs : List Action). (history others t zs).table.form) e ∙ sym second.form;
    }
