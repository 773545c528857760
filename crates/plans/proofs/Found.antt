-- What deciding asks of the accesses, as searches along the order line of the row.
use mathlib.Core.Path.{◌≡◌, refl, sym, ap, ◌∙◌}
use mathlib.Core.Bool.{Bool, true, ◌&&◌}
use mathlib.Core.List.{List, [], ◌∷◌, map}
use Prim.Native.Nat.{ℕ, suc, ◌≤◌}
use native.Mathlib.Omega.{arith}
use borrow.Author.Tests.{ne_eqb}
use lib.Dec.{eqb}
use lib.ListN.{length}
use Rattle.octets.specs.Choice.{pick, within}
use Rattle.octets.specs.Lists.{every, keep, first_or}
use Rattle.octets.specs.Texts.{same}
use Rattle.octets.proofs.Lists.{by-test, and_left, and_right, within_low, every-keep, every_map}
use Rattle.table.specs.TheTable.{Access, access_at, form_of, head, line, order_line, places, read_access, read_row}
use Rattle.table.specs.Soundness.{has_form, line_exact, on_entry, place_sums, sound, sums_agree}
use Rattle.table.proofs.Form.{line_read}
use Rattle.changes.proofs.Steps.{keep-map}
use Rattle.rules.specs.Deciding.{with_session, place_of, first_on, none}
use Rattle.table.proofs.Good.{each-entry}
use Rattle.table.proofs.Sound.{says-good}
use Rattle.plans.proofs.Search.{hunt, all_in}

pub line-sound : (r : List ℕ) → sound r ≡ true → line_exact r ≡ true
unfolding sound
line-sound r h = and_left (line_exact r) _ (and_right (sums_agree (head r) && every (place_sums r) places) _ (and_right (has_form r) _ h))

-- the access at place k is on entry n; it has this Session-Id; both
abbrev pub entry_is : List ℕ → ℕ → ℕ → Bool
entry_is r n k = eqb (access_at r k).entry n

abbrev pub session_is : List ℕ → List ℕ → ℕ → Bool
session_is r s k = same (access_at r k).session s

abbrev pub both_are : List ℕ → ℕ → List ℕ → ℕ → Bool
both_are r n s k = entry_is r n k && session_is r s k

-- places kept by a test of their accesses
kept_line : (r : List ℕ) (f : Access → Bool) (l : List ℕ)
    → line (keep f (map (access_at r) l)) ≡ keep (λ k. f (access_at r k)) l
kept_line r f l = ap line (keep-map (access_at r) f l) ∙ line_read r _

pub first-is : (r : List ℕ) (n : ℕ) → first_on n (read_row r).accesses ≡ hunt (entry_is r n) (order_line r) 0
unfolding first_on place_of on_entry read_row hunt
first-is r n = ap (first_or 0) (kept_line r (λ (x : Access). eqb x.entry n) (order_line r))

pub session-is : (r s : List ℕ) → place_of (with_session s (read_row r).accesses) ≡ hunt (session_is r s) (order_line r) 0
unfolding place_of with_session read_row hunt
session-is r s = ap (first_or 0) (kept_line r (λ (x : Access). same x.session s) (order_line r))

-- two tests one after another are one
keep-both : {A : Type 0} (f g : A → Bool) (xs : List A) → keep f (keep g xs) ≡ keep (λ x. g x && f x) xs
unfolding keep pick
keep-both f g [] = refl
keep-both f g (x ∷ xs) =
    by-test (g x)
    (λ e. by-test (f x) (λ d. rw (e, d, keep-both f g xs)) (λ d. rw (e, d, keep-both f g xs)))
    (λ e. rw (e, keep-both f g xs))

pub ended_is : (r : List ℕ) (n : ℕ) (s : List ℕ) → place_of (with_session s (on_entry n (read_row r).accesses)) ≡ hunt (both_are r n s) (order_line r) 0
unfolding place_of with_session on_entry read_row hunt
ended_is r n s =
    ap (λ (a : List Access). first_or 0 (line a)) (keep-both (λ (x : Access). same x.session s) (λ (x : Access). eqb x.entry n) _)
    ∙ ap (first_or 0) (kept_line r (λ (x : Access). eqb x.entry n && same x.session s) (order_line r))

-- a place is never 0, so that a place 0 says that there is none
none_is : (a : List Access) → every (λ (x : Access). within 1 8 x.place) a ≡ true → none a ≡ eqb (place_of a) 0
unfolding none place_of line first_or every
none_is [] h = refl
none_is (x ∷ a) h =
    let w : within 1 8 x.place ≡ true = and_left _ (every (λ (y : Access). within 1 8 y.place) a) h in
    ne_eqb (suc (length a)) 0 (omega arith) ∙ sym (ne_eqb x.place 0 (omega (arith, within_low 1 8 x.place w)))

pub places-in : (r : List ℕ) → sound r ≡ true → every (λ (x : Access). within 1 8 x.place) (read_row r).accesses ≡ true
unfolding read_row access_at read_access
places-in r h = rw every_map (all_in r h)

pub none-with : (r s : List ℕ) → sound r ≡ true → none (with_session s (read_row r).accesses) ≡ eqb (place_of (with_session s (read_row r).accesses)) 0
unfolding with_session
none-with r s h = none_is _ (every-keep _ _ _ (places-in r h))

pub none-ended : (r : List ℕ) (n : ℕ) (s : List ℕ) → sound r ≡ true
    → none (with_session s (on_entry n (read_row r).accesses)) ≡ eqb (place_of (with_session s (on_entry n (read_row r).accesses))) 0
unfolding with_session on_entry
none-ended r n s h = none_is _ (every-keep _ _ _ (every-keep _ _ _ (places-in r h)))

pub on-places : (r : List ℕ) (n : ℕ) → sound r ≡ true → every (λ (x : Access). within 1 8 x.place) (on_entry n (read_row r).accesses) ≡ true
unfolding on_entry
on-places r n h = every-keep _ _ _ (places-in r h)

-- no access stands on entry 0
none-on-0 : (n : ℕ) (a : List Access) → every (λ (x : Access). within 1 n x.entry) a ≡ true → keep (λ (x : Access). eqb x.entry 0) a ≡ []
unfolding keep every pick
none-on-0 n [] h = refl
none-on-0 n (x ∷ a) h =
    let one : 1 ≤ x.entry = within_low 1 n x.entry (and_left _ (every (λ (y : Access). within 1 n y.entry) a) h) in
    rw (ne_eqb x.entry 0 (omega (arith, one))) (none-on-0 n a (and_right (within 1 n x.entry) _ h))

pub none-unnamed : (r s : List ℕ) → sound r ≡ true → none (with_session s (on_entry 0 (read_row r).accesses)) ≡ true
unfolding none with_session on_entry keep
none-unnamed r s h =
    let t = read_row r in
    let g = says-good r h in
    rw (none-on-0 (length t.entries) t.accesses (each-entry (form_of r) t.entries t.accesses g.accesses-good.each)) refl
