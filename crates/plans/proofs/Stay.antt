-- Whatever is decided, what a good subscriber says stays good.
use mathlib.Core.Path.{◌≡◌, refl}
use mathlib.Core.Bool.{Bool, true, false, not}
use mathlib.Core.List.{List, [], ◌∷◌, ◌++◌}
use Prim.Native.Nat.{ℕ, zero, suc, ◌+◌, ◌-◌, ◌*◌, ◌≤◌, ◌<◌}
use native.Mathlib.Omega.{arith}
use borrow.Author.Tests.{leb-true, ltb-true, ltb-false, eqb-true, eqb-false, eq-eqb, not-true, not-false}
use lib.Dec.{eqb, leb, ltb}
use lib.ListN.{length, get_or, length-append, get_or-map}
use Rattle.changes.specs.Changes.{Opening, freed, kept_in, leave, no_policies}
use Rattle.changes.proofs.Keep.{good-freed, good-opened, good-routed}
use Rattle.message.specs.ReadingAMessage.{Ask, policy, termination, tunnel}
use Rattle.octets.specs.Choice.{pick, within}
use Rattle.octets.specs.Lists.{every, first_or, keep, sum_of}
use Rattle.octets.specs.Texts.{same}
use Rattle.table.specs.Soundness.{limits, on_entry, only_behind, same_label, sessions, under_limits}
use Rattle.table.specs.TheTable.{Access, Entry, Policies, Subscriber, is_form, line}
use Rattle.changes.proofs.Stays.{MayHold, MayOpen, under-snoc}
use Rattle.rules.specs.Deciding.{Verdict, admit, at_limit, decide, entry_at, entry_from, entry_named, first_on, grant, held_already, no_entry, none, open_on, place_of, refuse, terminate, type0, type1, with_session}
use Rattle.octets.proofs.Choice.{by-pick}
use Rattle.octets.proofs.Lists.{and_left, and_right, by-test, every_append, every-keep, every_map, every_one, in_within, keep-comm, keep-length, keep-none, within-high, within_low}
use Rattle.table.proofs.Good.{Fits, Good, by_form, each-entry, fewer, good_entry, length-limits, spare}
use Rattle.plans.specs.Plans.{fitting}

-- the texts of an opening, as the lists have tested them
pub record MayStore (fm : ℕ) (o : Opening) : Type 0 where
  pub sid-fits : within 1 128 (length o.session) ≡ true
  pub host-fits : within 1 128 (length o.host) ≡ true
  pub realm-fits : length o.realm ≤ spare fm

-- THE CUT: at the limit there is an access to cut, and then there is room

first-leaves : (xs : List Access) → 1 ≤ length xs → length (leave (first_or 0 (line xs)) xs) < length xs
unfolding leave line first_or keep pick
first-leaves [] h = absurd (omega arith)
first-leaves (x ∷ xs) h = rw (eq-eqb x.place x.place refl) (omega (arith, keep-length (λ (y : Access). not (eqb y.place x.place)) xs))

pub leave-on : (n k : ℕ) (a : List Access) → on_entry n (leave k a) ≡ leave k (on_entry n a)
unfolding on_entry leave
leave-on n k a = keep-comm _ _ a

pub cut_below : (n : ℕ) (a : List Access) → 1 ≤ length (on_entry n a) → length (on_entry n (leave (first_on n a) a)) < length (on_entry n a)
unfolding first_on place_of
cut_below n a h = rw leave-on (first-leaves (on_entry n a) h)

sids-keep : (f : Access → Bool) (g : List ℕ → Bool) (a : List Access) → every g (sessions a) ≡ true → every g (sessions (keep f a)) ≡ true
unfolding sessions
sids-keep f g a h = rw every_map (every-keep _ f a (rw every_map at h))

-- what type 0 has tested where the entry is at its limit
pub cut-opens : (fm : ℕ) (es : List Entry) (a : List Access) (n : ℕ) (o : Opening) → Fits fm es a → within 1 (length es) n ≡ true
    → 1 ≤ get_or (limits es) (n - 1) 0 → get_or (limits es) (n - 1) 0 ≤ length (on_entry n a) → length (on_entry n a) ≤ get_or (limits es) (n - 1) 0
    → every (λ t. not (same t o.session)) (sessions a) ≡ true → MayStore fm o
    → MayOpen fm es (leave (first_on n a) a) n o
unfolding leave
cut-opens fm es a n o g ex one at most new h =
    record { exists = ex; below = omega (arith, cut_below n a (omega arith)); new-sid = sids-keep _ _ a new; sid-fits = h.sid-fits; host-fits = h.host-fits; realm-fits = h.realm-fits }

-- THE ENTRY

-- a label that is found names an entry that exists
found_from : (n : ℕ) (l : List ℕ) (es : List Entry) → eqb (entry_from n l es) 0 ≡ false → within n (n + length es - 1) (entry_from n l es) ≡ true
unfolding entry_from pick
found_from n l [] h = absurd (eqb-false 0 0 h refl)
found_from n l (e ∷ es) h =
    by-test (same_label l e.label)
    (λ t. rw t (in_within _ _ _ (omega arith) (omega arith)))
    (λ t. let w : within (suc n) (suc n + length es - 1) (entry_from (suc n) l es) ≡ true = found_from (suc n) l es (rw t at h) in
    rw t (in_within _ _ _ (omega (arith, within_low _ _ _ w)) (omega (arith, within-high _ _ _ w))))

pub entry_found : (l : List ℕ) (s : Subscriber) → eqb (entry_named l s) 0 ≡ false → within 1 (length s.entries) (entry_named l s) ≡ true
unfolding entry_named
entry_found l s h = let q : 1 + length s.entries - 1 ≡ length s.entries = omega arith in rw q at (found_from 1 l s.entries h)

-- its limit, in the list of limits
pub limit_is : (n : ℕ) (s : Subscriber) → get_or (limits s.entries) (n - 1) 0 ≡ (entry_at n s).limit
unfolding limits entry_at no_entry
limit_is n s = get_or-map (λ (e : Entry). e.limit) s.entries (n - 1) no_entry

limit-one : (es : List Entry) (i : ℕ) → every good_entry es ≡ true → i < length es → 1 ≤ get_or (limits es) i 0
unfolding limits every good_entry
limit-one [] i g h = absurd (omega arith)
limit-one (e ∷ es) zero g h =
    within_low 1 8 e.limit (and_right (leb e.flags 3) _ (and_right (within 1 100 (length e.label)) _ (and_left (good_entry e) (every good_entry es) g)))
limit-one (e ∷ es) (suc i) g h = limit-one es i (and_right (good_entry e) _ g) (omega arith)

limit-kept : (n : ℕ) (ls : List ℕ) (a : List Access) (i : ℕ) → under_limits n ls a ≡ true → i < length ls → length (on_entry (n + i) a) ≤ get_or ls i 0
unfolding under_limits
limit-kept n [] a i u h = absurd (omega arith)
limit-kept n (l ∷ ls) a zero u h = let q : n + 0 ≡ n = omega arith in rw q (leb-true _ l (and_left _ (under_limits (suc n) ls a) u))
limit-kept n (l ∷ ls) a (suc i) u h = let q : n + suc i ≡ suc n + i = omega arith in rw q (limit-kept (suc n) ls a i (and_right (leb (length (on_entry n a)) l) _ u) (omega arith))

-- the limit of an entry that exists is 1 or more, and its accesses are no more
module _ {fm : ℕ} (n : ℕ) (s : Subscriber) (g : Good fm s) (ex : within 1 (length s.entries) n ≡ true) where
  pub limit-some : 1 ≤ get_or (limits s.entries) (n - 1) 0
  limit-some = limit-one s.entries (n - 1) g.entries-good.each (omega (arith, within_low 1 _ n ex, within-high 1 _ n ex))

  pub limit-most : length (on_entry n s.accesses) ≤ get_or (limits s.entries) (n - 1) 0
  limit-most =
      let lo : 1 ≤ n = within_low 1 (length s.entries) n ex in
      let z : 1 + (n - 1) ≡ n = omega arith in
      rw z at (limit-kept 1 (limits s.entries) s.accesses (n - 1) g.accesses-good.under (omega (arith, within-high 1 _ n ex, length-limits s.entries)))

-- below the limit there are fewer than eight accesses, so that a place is free
pub room-left : {fm : ℕ} (n : ℕ) (s : Subscriber) → Good fm s → within 1 (length s.entries) n ≡ true
    → length (on_entry n s.accesses) < (entry_at n s).limit → length s.accesses < 8
room-left {fm} n s g ex below =
    let es : List Entry = s.entries in
    let a : List Access = s.accesses in
    let y : Access = record { place = 0; entry = n; session = []; host = []; realm = []; policies = no_policies } in
    let u : under_limits 1 (limits es) (a ++ (y ∷ [])) ≡ true =
    under-snoc 0 (limits es) a y (λ lo. rw (limit_is n s) below) g.accesses-good.under in
    let e : every (λ (x : Access). within 1 (length es) x.entry) (a ++ (y ∷ [])) ≡ true =
    every_append _ a (y ∷ []) (each-entry fm es a g.accesses-good.each) (every_one _ y ex) in
    omega (arith, fewer es (a ++ (y ∷ [])) e u, length-append a (y ∷ []), leb-true (sum_of (limits es)) 8 g.entries-good.eight)

-- THE CHANGES

new-session : (session : List ℕ) (a : List Access) → none (with_session session a) ≡ true → every (λ t. not (same t session)) (sessions a) ≡ true
unfolding none with_session sessions
new-session session a h = rw every_map (keep-none _ a (eqb-true _ 0 h))

abbrev Stays : (form : ℕ) → Verdict → Type 0
Stays fm v = Good fm v.after

-- what may be opened, with the cut and without
module _ {fm : ℕ} (n : ℕ) (o : Opening) (s : Subscriber) (g : Good fm s) (ex : within 1 (length s.entries) n ≡ true)
    (new : every (λ t. not (same t o.session)) (sessions s.accesses) ≡ true) (h : MayStore fm o) where
  pub opens-below : at_limit n s ≡ false → MayOpen fm s.entries s.accesses n o
  unfolding at_limit
  opens-below below =
      record {
        exists = ex;
        below = rw (limit_is n s) (ltb-true (length (on_entry n s.accesses)) _ (not-false (ltb (length (on_entry n s.accesses)) (entry_at n s).limit) below));
        new-sid = new;
        sid-fits = h.sid-fits;
        host-fits = h.host-fits;
        realm-fits = h.realm-fits;
      }

  pub full_is : at_limit n s ≡ true → get_or (limits s.entries) (n - 1) 0 ≤ length (on_entry n s.accesses)
  unfolding at_limit
  full_is full = rw (limit_is n s) (ltb-false (length (on_entry n s.accesses)) _ (not-true (ltb (length (on_entry n s.accesses)) (entry_at n s).limit) full))

  pub opens-cut : at_limit n s ≡ true → MayOpen fm s.entries (leave (first_on n s.accesses) s.accesses) n o
  opens-cut full =
      cut-opens fm s.entries s.accesses n o g.accesses-good ex (limit-some n s g ex) (full_is full) (limit-most n s g ex) new h

  stays-admit : Good fm (admit n o s).after
  unfolding admit open_on freed
  stays-admit =
      by-pick (Stays fm) (at_limit n s)
      (λ full. good-opened n o (freed (first_on n s.accesses) s) (opens-cut full) (good-freed (first_on n s.accesses) s g))
      (λ below. good-opened n o s (opens-below below) g)

pub stays-type0 : (fm : ℕ) (o : Opening) (label : List ℕ) (visited : Bool) (s : Subscriber) → MayStore fm o → Good fm s → Good fm (type0 o label visited s).after
unfolding type0 refuse grant held_already
stays-type0 fm o label visited s h g =
    by-pick (Stays fm) _ (λ e. g)
    (λ found. by-pick (Stays fm) _ (λ e. g)
    (λ e. by-pick (Stays fm) _ (λ e. g)
    (λ e. by-pick (Stays fm) _ (λ e. by-pick (Stays fm) _ (λ f. g) (λ f. g))
    (λ unused. stays-admit _ o s g (entry_found label s found) (new-session o.session s.accesses (not-false (none (with_session o.session s.accesses)) unused)) h))))

pub stays-type1 : (fm : ℕ) (session : List ℕ) (p : Policies) (wag : Bool) (s : Subscriber) → MayHold fm p → Good fm s → Good fm (type1 session p wag s).after
unfolding type1 refuse grant
stays-type1 fm session p wag s h g = by-pick (Stays fm) _ (λ e. g) (λ e. by-pick (Stays fm) _ (λ w. good-routed _ p s h g) (λ w. g))

pub stays-terminate : (fm : ℕ) (session label : List ℕ) (s : Subscriber) → Good fm s → Good fm (terminate session label s).after
unfolding terminate refuse grant
stays-terminate fm session label s g = by-pick (Stays fm) _ (λ e. g) (λ e. good-freed _ s g)

-- what fits by the lists may be stored and held in a row of the form
kept-one : (realm : List ℕ) → length (kept_in 1 realm) ≤ spare 1
unfolding kept_in spare pick
kept-one realm = omega arith

kept-two : (realm : List ℕ) → length realm ≤ 128 → length (kept_in 2 realm) ≤ spare 2
unfolding kept_in spare pick
kept-two realm h = h

kept-fits : (fm : ℕ) (realm : List ℕ) → is_form fm ≡ true → within 1 128 (length realm) ≡ true → length (kept_in fm realm) ≤ spare fm
kept-fits fm realm f h = by_form (λ g. length (kept_in g realm) ≤ spare g) fm f (kept-one realm) (kept-two realm (within-high 1 128 _ h))

pub spare-is : (fm : ℕ) → is_form fm ≡ true → pick (eqb fm 2) 128 0 ≡ spare fm
unfolding pick spare
spare-is fm f = by_form (λ g. pick (eqb g 2) 128 0 ≡ 128 * (g - 1)) fm f refl refl

pub stored : (fm : ℕ) (session host realm label : List ℕ) (visited : Bool) → is_form fm ≡ true → fitting fm (tunnel session host realm label visited) ≡ true
    → MayStore fm (record { session = session; host = host; realm = kept_in fm realm })
unfolding fitting
stored fm session host realm label visited f k =
    let k1 = and_right (within 1 128 (length session)) _ k in
    record {
      sid-fits = and_left (within 1 128 (length session)) _ k;
      host-fits = and_left (within 1 128 (length host)) _ k1;
      realm-fits = kept-fits fm realm f (and_right (within 1 128 (length host)) _ k1);
    }

pub holdable : (fm : ℕ) (session first second third : List ℕ) → is_form fm ≡ true → fitting fm (policy session first second third) ≡ true
    → MayHold fm (record { first = first; second = second; third = third })
unfolding fitting
holdable fm session first second third f k =
    let m : ℕ = pick (eqb fm 2) 128 0 in
    let q : m ≡ spare fm = spare-is fm f in
    let k1 = and_right (within 1 128 (length first)) _ k in
    let k2 = and_right (leb (length second) m) _ k1 in
    let k3 = and_right (leb (length third) m) _ k2 in
    record {
      first_fits = within-high 1 128 _ (and_left (within 1 128 (length first)) _ k);
      second_fits = omega (arith, leb-true (length second) m (and_left (leb (length second) m) _ k1));
      third-fits = omega (arith, leb-true (length third) m (and_left (leb (length third) m) _ k2));
      second-behind = and_left (only_behind (length second) (length first)) _ k3;
      third-behind = and_right (only_behind (length second) (length first)) _ k3;
    }

pub stays : (fm : ℕ) (q : Ask) (wag : Bool) (s : Subscriber) → fitting fm q ≡ true → Good fm s → Good fm (decide fm q wag s).after
unfolding decide
stays fm (tunnel session host realm label visited) wag s k g = stays-type0 fm _ label visited s (stored fm session host realm label visited g.form-good k) g
stays fm (policy session first second third) wag s k g = stays-type1 fm session _ wag s (holdable fm session first second third g.form-good k) g
stays fm (termination session label) wag s k g = stays-terminate fm session label s g
