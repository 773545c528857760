-- What a subscriber may be, clause by clause; and that there are never more than eight accesses.
use mathlib.Core.Path.{◌≡◌, refl, ap}
use mathlib.Core.Bool.{Bool, true, ◌&&◌, not}
use mathlib.Core.List.{List, [], ◌∷◌}
use Prim.Native.Nat.{ℕ, suc, ◌+◌, ◌-◌, ◌*◌, ◌≤◌}
use native.Mathlib.Omega.{arith}
use borrow.Author.Tests.{leb-true, le-leb, eqb-true, eqb-false, not-true}
use lib.Dec.{eqb, leb}
use lib.ListN.{length}
use Rattle.octets.specs.Choice.{within}
use Rattle.octets.specs.Lists.{counted, distinct, every, keep, sum_of}
use Rattle.octets.specs.Texts.{same}
use Rattle.octets.proofs.Lists.{and_left, and_right, both, by-test, distinct-keep, every-both, every-imp, every-keep, in_within, keep-keep, keep-split, kept, within-high, within_low}
use Rattle.table.specs.Soundness.{is_name, labels, limits, on_entry, only_behind, same_label, sessions, under_limits}
use Rattle.table.specs.TheTable.{Access, Entry, Subscriber, form_of, is_form, line, places, read_row, row_bytes}

-- what holds of form 1 and of form 2 holds of every form
pub by_form : (P : ℕ → Type 0) (fm : ℕ) → is_form fm ≡ true → P 1 → P 2 → P fm
unfolding is_form
by_form P fm h one two =
    by-test (eqb fm 1)
    (λ e. rw (eqb-true fm 1 e) one)
    (λ e. let q : fm ≡ 2 = omega (arith, within_low 1 2 fm h, within-high 1 2 fm h, eqb-false fm 1 e) in rw q two)

-- A GOOD SUBSCRIBER: the clauses of soundness that speak of contents, over the record that the row says.

unfoldable pub good_entry : Entry → Bool
good_entry e = within 1 100 (length e.label) && (leb e.flags 3 && within 1 8 e.limit)

unfoldable pub good_entries : List Entry → Bool
good_entries es = leb (length es) 4 && (every good_entry es && (distinct same_label (labels es) && leb (sum_of (limits es)) 8))

-- how long a text of the second block may be, which form 1 has not
unfoldable pub spare : (form : ℕ) → ℕ
spare fm = 128 * (fm - 1)

-- n is the number of entries
unfoldable pub good_access : (form n : ℕ) → Access → Bool
good_access fm n a =
    within 1 8 a.place && (within 1 n a.entry
    && (within 1 128 (length a.session) && (within 1 128 (length a.host) && (leb (length a.policies.first) 128
    && (leb (length a.realm) (spare fm) && (leb (length a.policies.second) (spare fm) && (leb (length a.policies.third) (spare fm)
    && (only_behind (length a.policies.second) (length a.policies.first)
    && only_behind (length a.policies.third) (length a.policies.second)))))))))

unfoldable pub good_accesses : (form : ℕ) → List Entry → List Access → Bool
good_accesses fm es a =
    every (good_access fm (length es)) a && (distinct eqb (line a) && (distinct same (sessions a) && under_limits 1 (limits es) a))

unfoldable pub good : (form : ℕ) → Subscriber → Bool
good fm s = is_form fm && (is_name s.name && (leb s.operator 15 && (good_entries s.entries && good_accesses fm s.entries s.accesses)))

-- A row is the bytes of the subscriber that it says, and that is a good one. This is the same test as the paper's clauses, `sound`: `sound-is` of Sound.
unfoldable pub said_sound : List ℕ → Bool
said_sound r = same r (row_bytes (form_of r) (read_row r)) && good (form_of r) (read_row r)

-- the clauses by name
pub record Fits (fm : ℕ) (es : List Entry) (a : List Access) : Type 0 where
  pub each : every (good_access fm (length es)) a ≡ true
  pub places-once : distinct eqb (line a) ≡ true
  pub sids-once : distinct same (sessions a) ≡ true
  pub under : under_limits 1 (limits es) a ≡ true

pub fits : {fm : ℕ} (es : List Entry) (a : List Access) → good_accesses fm es a ≡ true → Fits fm es a
unfolding good_accesses
fits {fm} es a g =
    let g1 : distinct eqb (line a) && (distinct same (sessions a) && under_limits 1 (limits es) a) ≡ true = and_right (every (good_access fm (length es)) a) _ g in
    let g2 : distinct same (sessions a) && under_limits 1 (limits es) a ≡ true = and_right (distinct eqb (line a)) _ g1 in
    record {
      each = and_left _ (distinct eqb (line a) && (distinct same (sessions a) && under_limits 1 (limits es) a)) g;
      places-once = and_left _ (distinct same (sessions a) && under_limits 1 (limits es) a) g1;
      sids-once = and_left _ (under_limits 1 (limits es) a) g2;
      under = and_right (distinct same (sessions a)) _ g2;
    }

pub fit : {fm : ℕ} (es : List Entry) (a : List Access) → Fits fm es a → good_accesses fm es a ≡ true
unfolding good_accesses
fit {fm} es a f = rw (f.each, f.places-once, f.sids-once, f.under)

pub record Standing (fm n : ℕ) (a : Access) : Type 0 where
  pub place_in : within 1 8 a.place ≡ true
  pub entry_in : within 1 n a.entry ≡ true
  pub sid-fits : within 1 128 (length a.session) ≡ true
  pub host-fits : within 1 128 (length a.host) ≡ true
  pub first_fits : leb (length a.policies.first) 128 ≡ true
  pub realm-fits : leb (length a.realm) (spare fm) ≡ true
  pub second_fits : leb (length a.policies.second) (spare fm) ≡ true
  pub third-fits : leb (length a.policies.third) (spare fm) ≡ true
  pub second-behind : only_behind (length a.policies.second) (length a.policies.first) ≡ true
  pub third-behind : only_behind (length a.policies.third) (length a.policies.second) ≡ true

pub standing : {fm : ℕ} (n : ℕ) (a : Access) → good_access fm n a ≡ true → Standing fm n a
unfolding good_access
standing {fm} n a g =
    let g1 = and_right (within 1 8 a.place) _ g in
    let g2 = and_right (within 1 n a.entry) _ g1 in
    let g3 = and_right (within 1 128 (length a.session)) _ g2 in
    let g4 = and_right (within 1 128 (length a.host)) _ g3 in
    let g5 = and_right (leb (length a.policies.first) 128) _ g4 in
    let g6 = and_right (leb (length a.realm) (spare fm)) _ g5 in
    let g7 = and_right (leb (length a.policies.second) (spare fm)) _ g6 in
    let g8 = and_right (leb (length a.policies.third) (spare fm)) _ g7 in
    record {
      place_in = and_left (within 1 8 a.place) _ g;
      entry_in = and_left (within 1 n a.entry) _ g1;
      sid-fits = and_left (within 1 128 (length a.session)) _ g2;
      host-fits = and_left (within 1 128 (length a.host)) _ g3;
      first_fits = and_left (leb (length a.policies.first) 128) _ g4;
      realm-fits = and_left (leb (length a.realm) (spare fm)) _ g5;
      second_fits = and_left (leb (length a.policies.second) (spare fm)) _ g6;
      third-fits = and_left (leb (length a.policies.third) (spare fm)) _ g7;
      second-behind = and_left (only_behind (length a.policies.second) (length a.policies.first)) _ g8;
      third-behind = and_right (only_behind (length a.policies.second) (length a.policies.first)) _ g8;
    }

pub stand : {fm : ℕ} (n : ℕ) (a : Access) → Standing fm n a → good_access fm n a ≡ true
unfolding good_access
stand {fm} n a f = rw (f.place_in, f.entry_in, f.sid-fits, f.host-fits, f.first_fits, f.realm-fits, f.second_fits, f.third-fits, f.second-behind, f.third-behind)

-- SOME OF THE ACCESSES

pub under-keep : (f : Access → Bool) (n : ℕ) (ls : List ℕ) (a : List Access) → under_limits n ls a ≡ true → under_limits n ls (keep f a) ≡ true
unfolding under_limits on_entry
under-keep f n [] a u = refl
under-keep f n (l ∷ ls) a u =
    let h : length (on_entry n a) ≤ l = leb-true _ l (and_left _ (under_limits (suc n) ls a) u) in
    let k : length (on_entry n (keep f a)) ≤ length (on_entry n a) = keep-keep _ f a in
    both (le-leb _ l (omega arith)) (under-keep f (suc n) ls a (and_right (leb (length (on_entry n a)) l) _ u))

pub fits-keep : {fm : ℕ} (es : List Entry) (f : Access → Bool) (a : List Access) → Fits fm es a → Fits fm es (keep f a)
unfolding line sessions
fits-keep {fm} es f a g =
    record {
      each = every-keep _ f a g.each;
      places-once = distinct-keep eqb (λ (x : Access). x.place) f a g.places-once;
      sids-once = distinct-keep same (λ (x : Access). x.session) f a g.sids-once;
      under = under-keep f 1 (limits es) a g.under;
    }

-- AT MOST EIGHT

-- the accesses on the entries past m are at most the sum of their limits
sum_bound : (m : ℕ) (ls : List ℕ) (a : List Access) → every (λ (x : Access). within (suc m) (m + length ls) x.entry) a ≡ true
    → under_limits (suc m) ls a ≡ true → length a ≤ sum_of ls
unfolding under_limits on_entry sum_of every
sum_bound m [] [] b u = omega arith
sum_bound m [] (x ∷ a) b u =
    let w : within (suc m) (m + 0) x.entry ≡ true = and_left _ (every (λ (x : Access). within (suc m) (m + 0) x.entry) a) b in
    omega (arith, within_low _ _ _ w, within-high _ _ _ w)
sum_bound m (l ∷ ls) a b u =
    let f : Access → Bool = λ x. eqb x.entry (suc m) in
    let s : length a ≡ length (keep f a) + length (keep (λ x. not (f x)) a) = keep-split f a in
    let h : length (on_entry (suc m) a) ≤ l = leb-true _ l (and_left _ (under_limits (suc (suc m)) ls a) u) in
    let past : every (λ (x : Access). within (suc (suc m)) (suc m + length ls) x.entry) (keep (λ x. not (f x)) a) ≡ true =
    every-both (λ (x : Access). within (suc m) (m + suc (length ls)) x.entry) (λ x. not (f x)) _
    (λ x w v. in_within _ _ _ (omega (arith, within_low _ _ _ w, eqb-false x.entry (suc m) (not-true (eqb x.entry (suc m)) v))) (omega (arith, within-high _ _ _ w)))
    (keep (λ x. not (f x)) a) (every-keep _ _ a b) (kept _ a) in
    let r : length (keep (λ x. not (f x)) a) ≤ sum_of ls =
    sum_bound (suc m) ls (keep (λ x. not (f x)) a) past (under-keep _ (suc (suc m)) ls a (and_right (leb (length (on_entry (suc m) a)) l) _ u)) in
    omega arith

pub places-eight : (distinct eqb places ≡ true) × (every (within 1 8) places ≡ true) × (length places ≡ 8)
unfolding places distinct every within counted
places-eight = (refl, refl, refl)

pub length-limits : (es : List Entry) → length (limits es) ≡ length es
unfolding limits
length-limits [] = refl
length-limits (e ∷ es) = ap suc (length-limits es)

pub fewer : (es : List Entry) (a : List Access) → every (λ (x : Access). within 1 (length es) x.entry) a ≡ true
    → under_limits 1 (limits es) a ≡ true → length a ≤ sum_of (limits es)
fewer es a b u =
    let z : 0 + length (limits es) ≡ length es = omega (arith, length-limits es) in
    sum_bound 0 (limits es) a (rw z b) u

pub each-entry : (fm : ℕ) (es : List Entry) (a : List Access) → every (good_access fm (length es)) a ≡ true → every (λ (x : Access). within 1 (length es) x.entry) a ≡ true
each-entry fm es a g = every-imp (good_access fm (length es)) _ (λ x t. (standing (length es) x t).entry_in) a g

-- ENTRIES

pub record Entered (es : List Entry) : Type 0 where
  pub four : leb (length es) 4 ≡ true
  pub each : every good_entry es ≡ true
  pub labels-once : distinct same_label (labels es) ≡ true
  pub eight : leb (sum_of (limits es)) 8 ≡ true

pub entered : (es : List Entry) → good_entries es ≡ true → Entered es
unfolding good_entries
entered es g =
    let g1 = and_right (leb (length es) 4) _ g in
    let g2 = and_right (every good_entry es) _ g1 in
    record {
      four = and_left (leb (length es) 4) _ g;
      each = and_left (every good_entry es) _ g1;
      labels-once = and_left (distinct same_label (labels es)) _ g2;
      eight = and_right (distinct same_label (labels es)) _ g2;
    }

pub enter : (es : List Entry) → Entered es → good_entries es ≡ true
unfolding good_entries
enter es f = rw (f.four, f.each, f.labels-once, f.eight)

-- at most eight accesses
pub at-most-eight : {fm : ℕ} (es : List Entry) (a : List Access) → Entered es → Fits fm es a → length a ≤ 8
at-most-eight {fm} es a e g = omega (arith, fewer es a (each-entry fm es a g.each) g.under, leb-true (sum_of (limits es)) 8 e.eight)

-- a good subscriber's clauses, for a row of the form
pub record Good (fm : ℕ) (s : Subscriber) : Type 0 where
  pub form-good : is_form fm ≡ true
  pub name-good : is_name s.name ≡ true
  pub operator-good : leb s.operator 15 ≡ true
  pub entries-good : Entered s.entries
  pub accesses-good : Fits fm s.entries s.accesses

pub is-good : {fm : ℕ} (s : Subscriber) → good fm s ≡ true → Good fm s
unfolding good
is-good {fm} s g =
    let g0 = and_right (is_form fm) _ g in
    let g1 = and_right (is_name s.name) _ g0 in
    let g2 = and_right (leb s.operator 15) _ g1 in
    record {
      form-good = and_left (is_form fm) _ g;
      name-good = and_left (is_name s.name) _ g0;
      operator-good = and_left (leb s.operator 15) _ g1;
      entries-good = entered s.entries (and_left (good_entries s.entries) _ g2);
      accesses-good = fits s.entries s.accesses (and_right (good_entries s.entries) _ g2);
    }

pub good-is : {fm : ℕ} (s : Subscriber) → Good fm s → good fm s ≡ true
unfolding good
good-is {fm} s g = rw (g.form-good, g.name-good, g.operator-good, enter s.entries g.entries-good, fit s.entries s.accesses g.accesses-good)
