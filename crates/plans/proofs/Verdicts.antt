-- Deciding test by test: what the verdict is once a test has failed, or all have passed.
use mathlib.Core.Path.{◌≡◌, ◌∙◌}
use mathlib.Core.Bool.{Bool, true, false, not, ◌&&◌}
use mathlib.Core.List.{List, [], ◌∷◌}
use Prim.Native.Nat.{ℕ, ◌≤◌, ◌<◌, ◌%◌}
use native.Mathlib.Omega.{arith}
use borrow.Author.Tests.{eq-eqb, ne_eqb, lt-ltb, le-ltb}
use lib.ListN.{length}
use Rattle.message.specs.Codes.{no_subscription, plain, roaming_not_allowed, unused_by_user}
use Rattle.octets.specs.Choice.{pick, within}
use Rattle.octets.specs.Lists.{every, first_or, is_on}
use Rattle.table.specs.Soundness.{on_entry, sound}
use Rattle.changes.specs.Changes.{Opening, freed}
use Rattle.table.specs.TheTable.{Access, Policies, Subscriber, barred, line, may_roam, order_line, read_row}
use Rattle.row.proofs.Entries.{most-four}
use Rattle.plans.proofs.Found.{both_are, ended_is, entry_is, first-is, on-places, session-is, session_is}
use Rattle.plans.proofs.Search.{hunt-on}
use Rattle.plans.proofs.Stay.{limit_is, limit-some, room-left}
use Rattle.rules.specs.Deciding.{admit, at_limit, entry_at, entry_named, first_on, grant, held_already, none, place_of, refuse, stands_on, terminate, type0, type1, with_session}
use Rattle.plans.specs.declared.Plan.TheVariants.{Open, Route}
use Rattle.plans.specs.Plans.{Brought, fit_plan, found, planned}
use Rattle.std.specs.Prelude.{None}
use Rattle.octets.proofs.Lists.{and_left, both, in_within, within_low}
use Rattle.table.proofs.Sound.{says-good}

-- AN OPENING

module _ (n : ℕ) (b : Brought) (s : Subscriber) where
  pub opens : length (on_entry n s.accesses) < (entry_at n s).limit → planned b (Open n None) s ≡ admit n b.opening s
  unfolding planned admit at_limit pick
  opens h = rw (lt-ltb _ _ h)

  pub cuts : (entry_at n s).limit ≤ length (on_entry n s.accesses) → (first_on n s.accesses ≡ 0 → ⊥)
      → planned b (Open n (found (first_on n s.accesses))) s ≡ admit n b.opening s
  unfolding planned found admit at_limit pick
  cuts h nz = rw (le-ltb _ _ h, ne_eqb (first_on n s.accesses) 0 nz)

-- at its limit an entry has an access to cut
some_first : (xs : List Access) → every (λ (x : Access). within 1 8 x.place) xs ≡ true → 1 ≤ length xs → place_of xs ≡ 0 → ⊥
unfolding place_of line first_or every
some_first [] p h e = omega arith
some_first (x ∷ xs) p h e = omega (arith, within_low 1 8 x.place (and_left _ (every (λ (y : Access). within 1 8 y.place) xs) p))

pub one-to-cut : (r : List ℕ) (n : ℕ) → sound r ≡ true → 1 ≤ n → n ≤ length (read_row r).entries
    → (entry_at n (read_row r)).limit ≤ length (on_entry n (read_row r).accesses) → first_on n (read_row r).accesses ≡ 0 → ⊥
unfolding first_on
one-to-cut r n h one le full =
    some_first (on_entry n (read_row r).accesses) (on-places r n h)
    (omega (arith, limit_is n (read_row r), limit-some n (read_row r) (says-good r h) (in_within 1 _ n one le)))

-- TYPE 0

module _ (o : Opening) (label : List ℕ) (visited : Bool) (s : Subscriber) where
  pub not-subscribed : entry_named label s ≡ 0 → type0 o label visited s ≡ refuse no_subscription s
  unfolding type0 pick
  not-subscribed e = rw (eq-eqb (entry_named label s) 0 e)

  module _ (entered : entry_named label s ≡ 0 → ⊥) where
    pub is-barred : (entry_at (entry_named label s) s).flags % 2 ≡ 1 → type0 o label visited s ≡ refuse (plain 5003) s
    unfolding type0 barred pick
    is-barred e = rw (ne_eqb (entry_named label s) 0 entered, eq-eqb _ 1 e)

    module _ (unbarred : (entry_at (entry_named label s) s).flags % 2 ≡ 1 → ⊥) where
      pub no-roaming : visited && not (may_roam (entry_at (entry_named label s) s)) ≡ true → type0 o label visited s ≡ refuse roaming_not_allowed s
      unfolding type0 barred pick
      no-roaming e = rw (ne_eqb (entry_named label s) 0 entered, ne_eqb _ 1 unbarred, e)

      module _ (at_home : visited && not (may_roam (entry_at (entry_named label s) s)) ≡ false) where
        pub is_held : none (with_session o.session s.accesses) ≡ false → type0 o label visited s ≡ held_already (entry_named label s) o.session s
        unfolding type0 barred pick
        is_held e = rw (ne_eqb (entry_named label s) 0 entered, ne_eqb _ 1 unbarred, at_home, e)

        pub is-admitted : none (with_session o.session s.accesses) ≡ true → type0 o label visited s ≡ admit (entry_named label s) o s
        unfolding type0 barred pick
        is-admitted e = rw (ne_eqb (entry_named label s) 0 entered, ne_eqb _ 1 unbarred, at_home, e)

-- a Session-Id that is held: on this entry, or on another
module _ (n : ℕ) (session : List ℕ) (s : Subscriber) where
  pub goes_on : none (with_session session (on_entry n s.accesses)) ≡ false → held_already n session s ≡ grant s
  unfolding held_already stands_on pick
  goes_on e = rw e

  pub stands-elsewhere : none (with_session session (on_entry n s.accesses)) ≡ true → held_already n session s ≡ refuse (plain 5012) s
  unfolding held_already stands_on pick
  stands-elsewhere e = rw e

-- TYPE 1 AND TERMINATION

module _ (session : List ℕ) (s : Subscriber) where
  pub no_access : (p : Policies) (wag : Bool) → none (with_session session s.accesses) ≡ true → type1 session p wag s ≡ refuse (plain 5012) s
  unfolding type1 pick
  no_access p wag e = rw e

  pub gateway-no : (p : Policies) → none (with_session session s.accesses) ≡ false → type1 session p false s ≡ refuse (plain 5012) s
  unfolding type1 pick
  gateway-no p e = rw e

  pub gateway-yes : (b : Brought) → none (with_session session s.accesses) ≡ false → type1 session b.policies true s ≡ planned b (Route (place_of (with_session session s.accesses))) s
  unfolding type1 planned pick
  gateway-yes b e = rw e

  module _ (label : List ℕ) where
    pub not-used : none (with_session session (on_entry (entry_named label s) s.accesses)) ≡ true → terminate session label s ≡ refuse unused_by_user s
    unfolding terminate pick
    not-used e = rw e

    pub is-ended : none (with_session session (on_entry (entry_named label s) s.accesses)) ≡ false
        → terminate session label s ≡ grant (freed (place_of (with_session session (on_entry (entry_named label s) s.accesses))) s)
    unfolding terminate pick
    is-ended e = rw e

-- THE PLAN CAN BE CARRIED OUT

module _ (r : List ℕ) (h : sound r ≡ true) where
  -- an opening: there is room below the limit, and at the limit an access to cut
  module _ (n : ℕ) (one : 1 ≤ n) (le : n ≤ length (read_row r).entries) where
    entry_in : within 1 4 n ≡ true
    entry_in = in_within 1 4 n one (omega (arith, most-four r h))

    pub fit-open : length (on_entry n (read_row r).accesses) < (entry_at n (read_row r)).limit → (p : Policies) → fit_plan p (Open n None) r ≡ true
    unfolding fit_plan pick
    fit-open below p = both entry_in (lt-ltb (length (read_row r).accesses) 8 (room-left n (read_row r) (says-good r h) (in_within 1 _ n one le) below))

    pub fit_cut : (first_on n (read_row r).accesses ≡ 0 → ⊥) → (p : Policies) → fit_plan p (Open n (found (first_on n (read_row r).accesses))) r ≡ true
    unfolding fit_plan found pick
    fit_cut nz p =
        rw (ne_eqb (first_on n (read_row r).accesses) 0 nz)
        (both entry_in (rw (first-is r n) (hunt-on (entry_is r n) (order_line r) (λ z. nz (first-is r n ∙ z)))))

  pub fit-place : (s : List ℕ) → (place_of (with_session s (read_row r).accesses) ≡ 0 → ⊥) → is_on (order_line r) (place_of (with_session s (read_row r).accesses)) ≡ true
  fit-place s nz = rw (session-is r s) (hunt-on (session_is r s) (order_line r) (λ z. nz (session-is r s ∙ z)))

  pub fit-ended : (n : ℕ) (s : List ℕ) → (place_of (with_session s (on_entry n (read_row r).accesses)) ≡ 0 → ⊥)
      → is_on (order_line r) (place_of (with_session s (on_entry n (read_row r).accesses))) ≡ true
  fit-ended n s nz = rw (ended_is r n s) (hunt-on (both_are r n s) (order_line r) (λ z. nz (ended_is r n s ∙ z)))
