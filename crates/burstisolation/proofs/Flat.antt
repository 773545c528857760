-- A history with bursts leaves the table of a history without: each burst is the messages that it takes, asked one by one.
use mathlib.Core.Path.{◌≡◌, refl, sym, ap, ◌∙◌}
use mathlib.Core.List.{List, [], ◌∷◌, ◌++◌, map}
use Prim.Native.Nat.{ℕ}
use lib.Dec.{eqb}
use Rattle.octets.specs.Choice.{pick}
use Rattle.octets.proofs.Lists.{by-test}
use Rattle.table.specs.TheTable.{Table}
use Rattle.setup.specs.SetUp.{enter}
use Rattle.rules.specs.Calls.{Call, handle, ran_first, run}
use Rattle.isolation.specs.Isolation.{Operation, answered, asking, done, done_first, past, zero_table}
use Rattle.isolation.proofs.Isolated.{form-stays, never-eleven, within-share}
use Rattle.burst.specs.TheBurst.{Burst, burst, burst_number, bursted, refused_burst}
use Rattle.burstlaws.specs.BurstsRules.{taken_calls}
use Rattle.burstisolation.specs.IsolationWithBursts.{Action, FormStaysWithBursts, NeverElevenWithBursts, WithinShareWithBursts, WithoutBursts, acted, acted_first, at_once, bursting, history, in_words, single, singly}

-- WITHOUT BURSTS

pub without-bursts : WithoutBursts
unfolding history acted singly acted_first in_words past done_first
without-bursts shares t [] = refl
without-bursts shares t (x ∷ xs) = ap (acted_first (singly (done shares t x))) (without-bursts shares (done shares t x).table xs)

-- A BURST leaves the table that the messages which it takes leave; a refused one takes none.

pub burst-table : (t : Table) (b : Burst) → (burst t b).table ≡ (run t (taken_calls t b)).table
unfolding taken_calls burst bursted refused_burst run pick
burst-table t b = by-test (eqb (burst_number t b) 0) (λ e. rw e) (λ e. rw e)

-- ONE BY ONE

asked-table : (shares : List ℕ) (t : Table) (cs : List Call) → (run t cs).table ≡ (past shares t (map asking cs)).table
unfolding run ran_first past done_first done answered
asked-table shares t [] = refl
asked-table shares t (c ∷ cs) = asked-table shares (handle t c).table cs

one_by_one : Table → Action → List Operation
one_by_one t (single x) = x ∷ []
one_by_one t (bursting b) = map asking (taken_calls t b)

acted-table : (shares : List ℕ) (t : Table) (x : Action) → (acted shares t x).table ≡ (past shares t (one_by_one t x)).table
unfolding acted singly at_once one_by_one past done_first
acted-table shares t (single x) = refl
acted-table shares t (bursting b) = burst-table t b ∙ asked-table shares t (taken_calls t b)

flat : (shares : List ℕ) → Table → List Action → List Operation
flat shares t [] = []
flat shares t (x ∷ xs) = one_by_one t x ++ flat shares (acted shares t x).table xs

past-behind : (shares : List ℕ) (t : Table) (xs ys : List Operation) → (past shares t (xs ++ ys)).table ≡ (past shares (past shares t xs).table ys).table
unfolding past done_first
past-behind shares t [] ys = refl
past-behind shares t (x ∷ xs) ys = past-behind shares (done shares t x).table xs ys

same-table : (shares : List ℕ) (t : Table) (xs : List Action) → (history shares t xs).table ≡ (past shares t (flat shares t xs)).table
unfolding history acted_first flat past
same-table shares t [] = refl
same-table shares t (x ∷ xs) =
    let u : Table = (acted shares t x).table in
    same-table shares u xs
    ∙ ap (λ (v : Table). (past shares v (flat shares u xs)).table) (acted-table shares t x)
    ∙ sym (past-behind shares t (one_by_one t x) (flat shares u xs))

-- WHAT FOLLOWS from the same of histories without bursts

pub form-stays-with-bursts : FormStaysWithBursts
form-stays-with-bursts shares t xs = ap (λ (u : Table). u.form) (same-table shares t xs) ∙ form-stays shares t (flat shares t xs)

pub never-eleven-with-bursts : NeverElevenWithBursts
never-eleven-with-bursts fm size shares xs a =
    let t : Table = zero_table fm size in
    ap (λ (u : Table). eqb (enter u shares a).number 11) (same-table shares t xs) ∙ never-eleven fm size shares (flat shares t xs) a

pub within-share-with-bursts : WithinShareWithBursts
within-share-with-bursts fm size o shares xs =
    let t : Table = zero_table fm size in
    rw (same-table shares t xs) (within-share fm size o shares (flat shares t xs))
