-- What is cut is the first on the order line of the accesses on that entry, and there is one.
use mathlib.Core.Path.{◌≡◌, refl, ap, ◌∙◌}
use mathlib.Core.Bool.{Bool, true, false, not}
use mathlib.Core.List.{List, [], ◌∷◌}
use Prim.Native.Nat.{ℕ, ◌≤◌}
use native.Mathlib.Omega.{arith}
use borrow.Author.Tests.{eq-eqb, ltb-false, not-true}
use lib.Dec.{eqb, ltb}
use lib.ListN.{length}
use Rattle.octets.specs.Choice.{pick, within}
use Rattle.octets.specs.Lists.{distinct, every, first_or, keep}
use Rattle.octets.proofs.Lists.{and_left, and_right, by-test, every-keep, every_map, eqb_comm}
use Rattle.message.specs.ReadingAMessage.{Ask, tunnel, policy, termination}
use Rattle.table.specs.TheTable.{Access, Subscriber, line}
use Rattle.table.specs.Soundness.{on_entry}
use Rattle.table.proofs.Good.{Good}
use Rattle.rules.specs.Deciding.{at_limit, at_place, entry_at, entry_named, first_on, place_of}
use Rattle.plans.proofs.Stay.{entry_found, limit_is, limit-some}
use Rattle.order.specs.ChecksInOrder.{check, none_fails, deciding_checks}
use Rattle.order.specs.Demand2.{opens, exceeds, on_asked, first_alone}
use Rattle.order.proofs.Decided.{cut_by}

-- no access is at a place that differs from all
none-at : (k : ℕ) (a : List Access) → every (λ y. not (eqb k y)) (line a) ≡ true → at_place k a ≡ []
unfolding at_place keep line every pick
none-at k [] h = refl
none-at k (x ∷ a) h =
    let d : eqb x.place k ≡ false = eqb_comm x.place k ∙ not-true (eqb k x.place) (and_left (not (eqb k x.place)) _ h) in
    rw d (none-at k a (and_right (not (eqb k x.place)) _ h))

first_passes : (g : ℕ → Bool) (a : List Access) → every g (line a) ≡ true → 1 ≤ length a → g (place_of a) ≡ true
unfolding place_of line first_or every
first_passes g [] h l = absurd (omega arith)
first_passes g (x ∷ a) h l = and_left (g x.place) _ h

line-keep : (g : ℕ → Bool) (f : Access → Bool) (a : List Access) → every g (line a) ≡ true → every g (line (keep f a)) ≡ true
unfolding line
line-keep g f a h = rw every_map (every-keep _ f a (rw every_map at h))

pub keep-yes : {A : Type 0} (f : A → Bool) (x : A) (a : List A) → f x ≡ true → keep f (x ∷ a) ≡ x ∷ keep f a
unfolding keep pick
keep-yes f x a e = rw e

pub keep-no : {A : Type 0} (f : A → Bool) (x : A) (a : List A) → f x ≡ false → keep f (x ∷ a) ≡ keep f a
unfolding keep pick
keep-no f x a e = rw e

at-no : (k : ℕ) (x : Access) (a : List Access) → eqb x.place k ≡ false → at_place k (x ∷ a) ≡ at_place k a
unfolding at_place
at-no k x a e = keep-no _ x a e

at_own : (x : Access) (a : List Access) → distinct eqb (line (x ∷ a)) ≡ true → at_place x.place (x ∷ a) ≡ x ∷ []
unfolding at_place distinct line
at_own x a d =
    keep-yes _ x a (eq-eqb x.place x.place refl)
    ∙ ap (λ (l : List Access). x ∷ l) (none-at x.place a (and_left (every (λ y. not (eqb x.place y)) (line a)) _ d))

first-own : (x : Access) (a b : List Access) → distinct eqb (line (x ∷ a)) ≡ true → at_place (place_of (x ∷ b)) (x ∷ a) ≡ first_alone (x ∷ b)
unfolding place_of first_or line first_alone
first-own x a b d = at_own x a d

nothing-kept : (f : Access → Bool) → 1 ≤ length (keep f []) → ⊥
unfolding keep
nothing-kept f l = omega arith

-- the access at the place of the first of some, alone
first-at : (f : Access → Bool) (a : List Access) → distinct eqb (line a) ≡ true → 1 ≤ length (keep f a) → at_place (place_of (keep f a)) a ≡ first_alone (keep f a)
unfolding distinct line
first-at f [] d l = absurd (nothing-kept f l)
first-at f (x ∷ a) d l =
    let apart : every (λ y. not (eqb x.place y)) (line a) ≡ true = and_left (every (λ y. not (eqb x.place y)) (line a)) _ d in
    let rest : distinct eqb (line a) ≡ true = and_right (every (λ y. not (eqb x.place y)) (line a)) _ d in
    by-test (f x)
    (λ e. rw (keep-yes f x a e) (first-own x a (keep f a) d))
    (λ e. let l2 : 1 ≤ length (keep f a) = rw (keep-no f x a e) at l in
    let n : eqb x.place (place_of (keep f a)) ≡ false =
    not-true (eqb x.place (place_of (keep f a))) (first_passes (λ y. not (eqb x.place y)) (keep f a) (line-keep _ f a apart) l2) in
    rw (keep-no f x a e) (at-no (place_of (keep f a)) x a n ∙ first-at f a rest l2))

-- ON AN ENTRY THAT IS AT ITS LIMIT

pub record FirstCut (cut on : List Access) : Type 0 where
  pub some : length (first_alone on) ≡ 1
  pub first : cut ≡ first_alone on

one-alone : (a : List Access) → 1 ≤ length a → length (first_alone a) ≡ 1
unfolding first_alone
one-alone [] l = absurd (omega arith)
one-alone (x ∷ a) l = refl

module _ {fm : ℕ} (n : ℕ) (s : Subscriber) (g : Good fm s) (ex : within 1 (length s.entries) n ≡ true) (full : at_limit n s ≡ true) where
  at_least_one : 1 ≤ length (on_entry n s.accesses)
  unfolding at_limit
  at_least_one =
      omega (arith, limit_is n s, limit-some n s g ex, ltb-false (length (on_entry n s.accesses)) _ (not-true (ltb (length (on_entry n s.accesses)) (entry_at n s).limit) full))

  first-cut : FirstCut (at_place (first_on n s.accesses) s.accesses) (on_entry n s.accesses)
  unfolding first_on on_entry
  first-cut = record { some = one-alone _ at_least_one; first = first-at _ s.accesses g.accesses-good.places-once at_least_one }

-- an opening that succeeds names an entry
pub entry-there : (session host realm label : List ℕ) (visited wag : Bool) (s : Subscriber)
    → none_fails (deciding_checks (tunnel session host realm label visited) wag s) ≡ true → eqb (entry_named label s) 0 ≡ false
unfolding deciding_checks check none_fails
entry-there session host realm label visited wag s h =
    by-test (eqb (entry_named label s) 0) (λ e. let z : false ≡ true = rw e at h in cc) (λ e. e)

pub cut-first : {fm : ℕ} (q : Ask) (wag : Bool) (s : Subscriber) → Good fm s → none_fails (deciding_checks q wag s) ≡ true → exceeds q s ≡ true → FirstCut (cut_by q s) (on_asked q s)
unfolding exceeds on_asked cut_by pick
cut-first (tunnel session host realm label visited) wag s g h e =
    rw e (first-cut (entry_named label s) s g (entry_found label s (entry-there session host realm label visited wag s h)) (and_right (opens (tunnel session host realm label visited) s) _ e))
cut-first (policy session first second third) wag s g h e = let y : ◌≡◌ {A = ℕ} 0 1 = cc in absurd (omega arith)
cut-first (termination session label) wag s g h e = let y : ◌≡◌ {A = ℕ} 0 1 = cc in absurd (omega arith)

pub cut-none : (q : Ask) (s : Subscriber) → exceeds q s ≡ false → cut_by q s ≡ []
unfolding exceeds cut_by pick
cut-none (tunnel session host realm label visited) s e = rw e
cut-none (policy session first second third) s e = refl
cut-none (termination session label) s e = refl
