-- Each change of a good subscriber gives a good one.
use mathlib.Core.Path.{◌≡◌, refl, ap}
use mathlib.Core.Bool.{Bool, true, false, not}
use mathlib.Core.List.{List, [], ◌∷◌, ◌++◌, map}
use Prim.Native.Nat.{ℕ, suc, ◌+◌, ◌-◌, ◌≤◌, ◌<◌}
use native.Mathlib.Omega.{arith}
use borrow.Author.Tests.{leb-true, le-leb, eqb-true, ne_eqb}
use lib.Dec.{eqb, leb}
use lib.ListN.{length, get_or, length-append}
use Rattle.octets.specs.Choice.{pick, within}
use Rattle.octets.specs.Lists.{distinct, every, first_or, keep, sum_of}
use Rattle.octets.specs.Texts.{same}
use Rattle.table.specs.Soundness.{labels, limits, on_entry, only_behind, same_label, sessions, under_limits}
use Rattle.table.specs.TheTable.{Access, Entry, Policies, line, places}
use Rattle.changes.specs.Changes.{Opening, hold, lowest_free, new_access, no_policies, vacant}
use Rattle.octets.proofs.Lists.{and_left, and_right, both, by-test, distinct_snoc, every_append, every-imp, every-keep, every_map, every_of, every_one, in_within, keep_all, keep-but-one, keep_snoc, kept, within-high, within_low}
use Rattle.table.proofs.Good.{Entered, Fits, Standing, each-entry, fewer, good_access, good_entry, length-limits, places-eight, spare, stand, standing}

-- A POLICY REPLACED

pub hold-place : (k : ℕ) (pol : Policies) (a : Access) → (hold k pol a).place ≡ a.place
unfolding hold pick
hold-place k pol a = by-test (eqb a.place k) (λ e. rw e) (λ e. rw e)

hold-sid : (k : ℕ) (pol : Policies) (a : Access) → (hold k pol a).session ≡ a.session
unfolding hold pick
hold-sid k pol a = by-test (eqb a.place k) (λ e. rw e) (λ e. rw e)

hold-entry : (k : ℕ) (pol : Policies) (a : Access) → (hold k pol a).entry ≡ a.entry
unfolding hold pick
hold-entry k pol a = by-test (eqb a.place k) (λ e. rw e) (λ e. rw e)

pub line-hold : (k : ℕ) (pol : Policies) (a : List Access) → line (map (hold k pol) a) ≡ line a
unfolding line
line-hold k pol [] = refl
line-hold k pol (x ∷ a) = rw (hold-place k pol x, line-hold k pol a)

pub sids-hold : (k : ℕ) (pol : Policies) (a : List Access) → sessions (map (hold k pol) a) ≡ sessions a
unfolding sessions
sids-hold k pol [] = refl
sids-hold k pol (x ∷ a) = rw (hold-sid k pol x, sids-hold k pol a)

pub on-hold : (k : ℕ) (pol : Policies) (n : ℕ) (a : List Access) → length (on_entry n (map (hold k pol) a)) ≡ length (on_entry n a)
unfolding on_entry keep pick
on-hold k pol n [] = refl
on-hold k pol n (x ∷ a) =
    let r : length (on_entry n (map (hold k pol) a)) ≡ length (on_entry n a) = on-hold k pol n a in
    rw (hold-entry k pol x) (by-test (eqb x.entry n) (λ e. rw e (ap suc r)) (λ e. rw e r))

under-hold : (k : ℕ) (pol : Policies) (n : ℕ) (ls : List ℕ) (a : List Access) → under_limits n ls (map (hold k pol) a) ≡ under_limits n ls a
unfolding under_limits
under-hold k pol n [] a = refl
under-hold k pol n (l ∷ ls) a = rw (on-hold k pol n a, under-hold k pol (suc n) ls a)

-- policies that a place of the form may hold
pub record MayHold (fm : ℕ) (pol : Policies) : Type 0 where
  pub first_fits : length pol.first ≤ 128
  pub second_fits : length pol.second ≤ spare fm
  pub third-fits : length pol.third ≤ spare fm
  pub second-behind : only_behind (length pol.second) (length pol.first) ≡ true
  pub third-behind : only_behind (length pol.third) (length pol.second) ≡ true

good-hold : (fm k : ℕ) (pol : Policies) (n : ℕ) (a : Access) → MayHold fm pol → good_access fm n a ≡ true → good_access fm n (hold k pol a) ≡ true
unfolding hold pick
good-hold fm k pol n a h g =
    let t : Standing fm n a = standing n a g in
    by-test (eqb a.place k)
    (λ e. rw e (stand n _ (record { place_in = t.place_in; entry_in = t.entry_in; sid-fits = t.sid-fits; host-fits = t.host-fits; first_fits = le-leb _ 128 h.first_fits; realm-fits = t.realm-fits; second_fits = le-leb _ (spare fm) h.second_fits; third-fits = le-leb _ (spare fm) h.third-fits; second-behind = h.second-behind; third-behind = h.third-behind })))
    (λ e. rw e g)

each-hold : (fm k : ℕ) (pol : Policies) (n : ℕ) (a : List Access) → MayHold fm pol
    → every (good_access fm n) a ≡ true → every (good_access fm n) (map (hold k pol) a) ≡ true
each-hold fm k pol n a h g = rw every_map (every-imp (good_access fm n) _ (λ x. good-hold fm k pol n x h) a g)

pub fits-hold : (fm : ℕ) (es : List Entry) (k : ℕ) (pol : Policies) (a : List Access) → MayHold fm pol → Fits fm es a → Fits fm es (map (hold k pol) a)
fits-hold fm es k pol a h g =
    record {
      each = each-hold fm k pol (length es) a h g.each;
      places-once = rw (line-hold k pol a) g.places-once;
      sids-once = rw (sids-hold k pol a) g.sids-once;
      under = rw (under-hold k pol 1 (limits es) a) g.under;
    }

-- A NEW ACCESS

pub on-snoc : (n : ℕ) (a : List Access) (y : Access) → eqb y.entry n ≡ true → length (on_entry n (a ++ (y ∷ []))) ≡ suc (length (on_entry n a))
unfolding on_entry pick
on-snoc n a y e = rw (keep_snoc, e, length-append) (omega arith)

pub on-snoc-other : (n : ℕ) (a : List Access) (y : Access) → eqb y.entry n ≡ false → length (on_entry n (a ++ (y ∷ []))) ≡ length (on_entry n a)
unfolding on_entry pick
on-snoc-other n a y e = rw (keep_snoc, e, length-append) (omega arith)

-- one more on an entry below its limit
pub under-snoc : (m : ℕ) (ls : List ℕ) (a : List Access) (y : Access)
    → (suc m ≤ y.entry → length (on_entry y.entry a) < get_or ls (y.entry - suc m) 0)
    → under_limits (suc m) ls a ≡ true → under_limits (suc m) ls (a ++ (y ∷ [])) ≡ true
unfolding under_limits
under-snoc m [] a y h u = refl
under-snoc m (l ∷ ls) a y h u =
    let k : length (on_entry (suc m) a) ≤ l = leb-true _ l (and_left _ (under_limits (suc (suc m)) ls a) u) in
    let here : length (on_entry (suc m) (a ++ (y ∷ []))) ≤ l =
    by-test (eqb y.entry (suc m))
    (λ e. let q : y.entry ≡ suc m = eqb-true _ _ e in
    let z : y.entry - suc m ≡ 0 = omega arith in
    let b : length (on_entry y.entry a) < l = rw z at (h (omega arith)) in
    rw (on-snoc (suc m) a y e) (rw q at b))
    (λ e. rw (on-snoc-other (suc m) a y e) k) in
    let rest : suc (suc m) ≤ y.entry → length (on_entry y.entry a) < get_or ls (y.entry - suc (suc m)) 0 =
    λ lo. let z : y.entry - suc m ≡ suc (y.entry - suc (suc m)) = omega arith in rw z at (h (omega arith)) in
    both (le-leb _ l here)
    (under-snoc (suc m) ls a y rest (and_right (leb (length (on_entry (suc m) a)) l) _ u))

pub line-snoc : (a : List Access) (y : Access) → line (a ++ (y ∷ [])) ≡ line a ++ (y.place ∷ [])
unfolding line
line-snoc [] y = refl
line-snoc (x ∷ a) y = rw (line-snoc a y)

pub sids-snoc : (a : List Access) (y : Access) → sessions (a ++ (y ∷ [])) ≡ sessions a ++ (y.session ∷ [])
unfolding sessions
sids-snoc [] y = refl
sids-snoc (x ∷ a) y = rw (sids-snoc a y)

-- as many places are vacant as the accesses leave
vacant-count : (a : List Access) (ks : List ℕ) → distinct eqb ks ≡ true → length ks ≤ length (keep (vacant a) ks) + length a
unfolding vacant every
vacant-count [] ks d = omega (arith, ap length (keep_all (λ (k : ℕ). true) ks (every_of _ (λ k. refl) ks)))
vacant-count (x ∷ a) ks d = omega (arith, vacant-count a ks d, keep-but-one (vacant a) x.place ks d)

first-kept : (f : ℕ → Bool) (ks : List ℕ) → every f ks ≡ true → 1 ≤ length ks → f (first_or 0 ks) ≡ true
unfolding first_or every
first-kept f [] v n = absurd (omega arith)
first-kept f (k ∷ ks) v n = and_left (f k) (every f ks) v

pub some-vacant : (a : List Access) → length a < 8 → 1 ≤ length (keep (vacant a) places)
some-vacant a h = omega (arith, vacant-count a places places-eight.0, places-eight.2)

-- a place is free, if there are fewer than eight accesses
pub free-place : (a : List Access) → length a < 8 → (vacant a (lowest_free a) ≡ true) × (within 1 8 (lowest_free a) ≡ true)
unfolding lowest_free
free-place a h =
    let n : 1 ≤ length (keep (vacant a) places) = some-vacant a h in
    (first-kept _ _ (kept (vacant a) places) n, first-kept _ _ (every-keep (within 1 8) (vacant a) places places-eight.1) n)

-- what type 0 has tested before an access is opened
pub record MayOpen (fm : ℕ) (es : List Entry) (a : List Access) (n : ℕ) (o : Opening) : Type 0 where
  pub exists : within 1 (length es) n ≡ true
  pub below : length (on_entry n a) < get_or (limits es) (n - 1) 0
  pub new-sid : every (λ t. not (same t o.session)) (sessions a) ≡ true
  pub sid-fits : within 1 128 (length o.session) ≡ true
  pub host-fits : within 1 128 (length o.host) ≡ true
  pub realm-fits : length o.realm ≤ spare fm

line-vacant : (a : List Access) (k : ℕ) → vacant a k ≡ true → every (λ x. not (eqb x k)) (line a) ≡ true
unfolding line vacant
line-vacant a k v = rw every_map v

pub fits-open : (fm : ℕ) (es : List Entry) (a : List Access) (n : ℕ) (o : Opening) → Fits fm es a → sum_of (limits es) ≤ 8 → MayOpen fm es a n o
    → Fits fm es (a ++ (new_access a n o ∷ []))
unfolding new_access no_policies only_behind pick
fits-open fm es a n o g eight m =
    let y : Access = new_access a n o in
    let u : under_limits 1 (limits es) (a ++ (y ∷ [])) ≡ true = under-snoc 0 (limits es) a y (λ lo. m.below) g.under in
    let e : every (λ (x : Access). within 1 (length es) x.entry) (a ++ (y ∷ [])) ≡ true =
    every_append _ a (y ∷ []) (each-entry fm es a g.each) (every_one _ y m.exists) in
    let h : length a < 8 = omega (arith, fewer es (a ++ (y ∷ [])) e u, length-append a (y ∷ [])) in
    let p : (vacant a (lowest_free a) ≡ true) × (within 1 8 (lowest_free a) ≡ true) = free-place a h in
    let s : good_access fm (length es) y ≡ true =
    stand (length es) y (record { place_in = p.1; entry_in = m.exists; sid-fits = m.sid-fits; host-fits = m.host-fits; first_fits = le-leb 0 128 (omega arith); realm-fits = le-leb _ (spare fm) m.realm-fits; second_fits = le-leb 0 (spare fm) (omega arith); third-fits = le-leb 0 (spare fm) (omega arith); second-behind = refl; third-behind = refl }) in
    record {
      each = every_append _ a (y ∷ []) g.each (every_one _ y s);
      places-once = rw (line-snoc a y) (distinct_snoc eqb (line a) (lowest_free a) g.places-once (line-vacant a _ p.0));
      sids-once = rw (sids-snoc a y) (distinct_snoc same (sessions a) o.session g.sids-once m.new-sid);
      under = u;
    }

-- ONE ENTRY MORE

labels-snoc : (es : List Entry) (e : Entry) → labels (es ++ (e ∷ [])) ≡ labels es ++ (e.label ∷ [])
unfolding labels
labels-snoc [] e = refl
labels-snoc (x ∷ es) e = rw (labels-snoc es e)

limits-snoc : (es : List Entry) (e : Entry) → limits (es ++ (e ∷ [])) ≡ limits es ++ (e.limit ∷ [])
unfolding limits
limits-snoc [] e = refl
limits-snoc (x ∷ es) e = rw (limits-snoc es e)

-- the tests 14 to 17 passed
pub record MayEnter (es : List Entry) (e : Entry) : Type 0 where
  pub fine : good_entry e ≡ true
  pub new-label : every (λ t. not (same_label t e.label)) (labels es) ≡ true
  pub room : length es < 4
  pub sum_room : sum_of (limits es ++ (e.limit ∷ [])) ≤ 8

pub entered-more : (es : List Entry) (e : Entry) → Entered es → MayEnter es e → Entered (es ++ (e ∷ []))
entered-more es e g m =
    record {
      four = le-leb (length (es ++ (e ∷ []))) 4 (omega (arith, length-append es (e ∷ []), m.room));
      each = every_append _ es (e ∷ []) g.each (every_one _ e m.fine);
      labels-once = rw (labels-snoc es e) (distinct_snoc same_label (labels es) e.label g.labels-once m.new-label);
      eight = rw (limits-snoc es e) (le-leb _ 8 m.sum_room);
    }

-- no access names the new entry
none-past : (n : ℕ) (a : List Access) → every (λ (x : Access). within 1 n x.entry) a ≡ true → (m : ℕ) → n < m → length (on_entry m a) ≡ 0
unfolding on_entry keep every pick
none-past n [] h m lt = refl
none-past n (x ∷ a) h m lt =
    let w : within 1 n x.entry ≡ true = and_left _ (every (λ (y : Access). within 1 n y.entry) a) h in
    rw (ne_eqb x.entry m (omega (arith, within-high _ _ _ w))) (none-past n a (and_right (within 1 n x.entry) _ h) m lt)

under_more : (m : ℕ) (ls : List ℕ) (l : ℕ) (a : List Access) → length (on_entry (m + length ls) a) ≡ 0
    → under_limits m ls a ≡ true → under_limits m (ls ++ (l ∷ [])) a ≡ true
unfolding under_limits
under_more m [] l a z u =
    let q : m + 0 ≡ m = omega arith in
    let y : length (on_entry m a) ≡ 0 = rw q at z in
    both (le-leb _ l (omega arith)) refl
under_more m (k ∷ ls) l a z u =
    let q : m + suc (length ls) ≡ suc m + length ls = omega arith in
    both (and_left (leb (length (on_entry m a)) k) _ u) (under_more (suc m) ls l a (rw q at z) (and_right (leb (length (on_entry m a)) k) _ u))

pub fits_more : (fm : ℕ) (es : List Entry) (e : Entry) (a : List Access) → Fits fm es a → Fits fm (es ++ (e ∷ [])) a
fits_more fm es e a g =
    record {
      each = every-imp (good_access fm (length es)) _ (λ x t. let s : Standing fm (length es) x = standing (length es) x t in
          stand _ x (record { place_in = s.place_in; entry_in = in_within _ _ _ (within_low _ _ _ s.entry_in) (omega (arith, within-high _ _ _ s.entry_in, length-append es (e ∷ []))); sid-fits = s.sid-fits; host-fits = s.host-fits; first_fits = s.first_fits; realm-fits = s.realm-fits; second_fits = s.second_fits; third-fits = s.third-fits; second-behind = s.second-behind; third-behind = s.third-behind }))
          a g.each;
      places-once = g.places-once;
      sids-once = g.sids-once;
      under = rw (limits-snoc es e) (under_more 1 (limits es) e.limit a (none-past (length es) a (each-entry fm es a g.each) _ (omega (arith, length-limits es))) g.under);
    }
