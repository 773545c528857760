-- Whose what was seen is: each success is an account's, and nothing else was told of a place or a cut.
use mathlib.Core.Path.{◌≡◌, refl, sym, ◌∙◌, subst}
use mathlib.Core.List.{List, [], ◌∷◌, ◌++◌, map}
use Prim.Native.Nat.{ℕ}
use borrow.Author.Tests.{eqb-false, eqb-true}
use lib.Dec.{eqb}
use Rattle.octets.specs.Choice.{pick}
use Rattle.octets.proofs.Lists.{by-test}
use Rattle.table.specs.TheTable.{Table}
use Rattle.setup.specs.SetUp.{clear}
use Rattle.rules.specs.Calls.{Call, account, handle, ran_first, run}
use Rattle.order.specs.Demand2.{request_in}
use Rattle.order.specs.Demand3.{Told, subject, subscriber, told}
use Rattle.order.proofs.Checks.{Won, won, refused-changes-nothing, success-exactly}
use Rattle.order.proofs.Lists.{form-stays}
use Rattle.order.proofs.Opening.{subject-won, won-success}
use Rattle.burst.specs.TheBurst.{Burst, burst}
use Rattle.burstlaws.specs.AnyOrder.{tolds}
use Rattle.burstlaws.specs.BurstsRules.{taken_calls, told_all}
use Rattle.burstlaws.proofs.AnyOrder.{told-one-by-one}
use Rattle.history.specs.Histories.{Event, Operation, adding, answered, asking, bursting, cleared, clearing, done, each_answered, entering, past, seen_burst, seen_clearing, seen_first, seen_request, unseen}
use Rattle.history.specs.OrderOfOpening.{EachIsSomeones, Someones}
use Rattle.history.proofs.Going.{goes, none-taken}
use Rattle.history.proofs.SettingUp.{cleared-form}

-- ONE REQUEST

subject-of : (t : Table) (c : Call) → Won t c → subject t.form c ≡ subscriber (account c (request_in c))
subject-of t c (won j o n h) = subject-won t c j o n

someones : (t : Table) (c : Call) → Someones t.form c (told t.form (handle t c).reply)
unfolding told
someones t c =
    record {
      whose = λ e. subject-of t c (won-success t c (sym (success-exactly t c) ∙ e));
      no_place = λ e. (refused-changes-nothing t c e).place;
      no_cut = λ e. (refused-changes-nothing t c e).cut;
    }

-- ALL THAT WAS SEEN

module _ (f : ℕ) where
  unfoldable AllSomeones : List Event → Type 0
  AllSomeones [] = Unit {0}
  AllSomeones (cleared ∷ es) = AllSomeones es
  AllSomeones (answered c x ∷ es) = Someones f c x × AllSomeones es

  all_append : (es fs : List Event) → AllSomeones es → AllSomeones fs → AllSomeones (es ++ fs)
  unfolding AllSomeones
  all_append [] fs h k = k
  all_append (cleared ∷ es) fs h k = all_append es fs h k
  all_append (answered c x ∷ es) fs h k = (h.0, all_append es fs h.1 k)

  all-at : (before : List Event) (c : Call) (x : Told) (behind : List Event) → AllSomeones (before ++ (answered c x ∷ behind)) → Someones f c x
  unfolding AllSomeones
  all-at [] c x behind h = h.0
  all-at (cleared ∷ es) c x behind h = all-at es c x behind h
  all-at (answered d y ∷ es) c x behind h = all-at es c x behind h.1

  all-run : (t : Table) (cs : List Call) → t.form ≡ f → AllSomeones (each_answered cs (map (told f) (run t cs).replies))
  unfolding run ran_first each_answered AllSomeones
  all-run t [] e = tt
  all-run t (c ∷ cs) e =
      (subst (λ (g : ℕ). Someones g c (told g (handle t c).reply)) e (someones t c), all-run (handle t c).table cs (form-stays t (c ∷ []) ∙ e))

  all-cleared : (t : Table) → AllSomeones (pick (eqb (clear t).number 0) (cleared ∷ []) [])
  unfolding AllSomeones pick
  all-cleared t = by-test (eqb (clear t).number 0) (λ e. rw e tt) (λ e. rw e tt)

all-taken : (t : Table) (b : Burst) → AllSomeones t.form (each_answered (taken_calls t b) (tolds t.form (burst t b)))
unfolding told_all AllSomeones
all-taken t b =
    by-test (eqb (burst t b).taken.number 0)
    (λ e. let z : (burst t b).taken.number ≡ 0 = eqb-true _ 0 e in rw (told-one-by-one t b z) (all-run t.form t (taken_calls t b) refl))
    (λ e. rw (none-taken (record { operator = 0; name = [] }) [] t b (eqb-false _ 0 e)) tt)

all_done : (t : Table) (x : Operation) → AllSomeones t.form (done t x).events
unfolding done seen_clearing unseen seen_request seen_burst AllSomeones
all_done t clearing = all-cleared t.form t
all_done t (entering shares b) = tt
all_done t (adding b e) = tt
all_done t (asking c) = (someones t c, tt)
all_done t (bursting b) = all-taken t b

all_past : (f : ℕ) (t : Table) (xs : List Operation) → t.form ≡ f → AllSomeones f (past t xs).events
unfolding past seen_first AllSomeones
all_past f t [] e = tt
all_past f t (x ∷ xs) e =
    let u : Table = (done t x).table in
    all_append f (done t x).events (past u xs).events (subst (λ (g : ℕ). AllSomeones g (done t x).events) e (all_done t x))
    (all_past f u xs ((goes (record { operator = 0; name = [] }) [] t x).same-form ∙ e))

pub each-is-someones : EachIsSomeones
each-is-someones t xs z before c x behind e =
    all-at t.form before c x behind (subst (AllSomeones t.form) e (all_past t.form (clear t).table xs (cleared-form t z)))
