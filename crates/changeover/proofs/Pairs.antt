-- A row of form 1 and the row of form 2 that stands for it.
use mathlib.Core.Path.{◌≡◌, refl, sym, ap, ◌∙◌, subst}
use mathlib.Core.Bool.{true, false}
use mathlib.Core.List.{List, [], ◌∷◌, map}
use Prim.Native.Nat.{ℕ, zero, suc, ◌≤◌, ◌<◌}
use native.Mathlib.Omega.{arith}
use borrow.Author.Tests.{eqb-true}
use lib.Dec.{eqb}
use lib.ListN.{length, get_or, take}
use Rattle.octets.specs.Choice.{pick, within}
use Rattle.octets.specs.Lists.{every, up_to0}
use Rattle.octets.specs.Texts.{all_zero, filled, part, zeros}
use Rattle.octets.proofs.Lists.{and_left, and_right, same-eq, same_refl}
use Rattle.octets.proofs.Pieces.{take-zeros}
use Rattle.octets.proofs.Texts.{length-zeros}
use Rattle.table.specs.Soundness.{sound}
use Rattle.table.specs.TheTable.{block_length, Access, access_at, Subscriber, found_by, form_of, has_name, is_form, order_line, read_entries, read_row, row_length}
use Rattle.table.proofs.Good.{Good}
use Rattle.table.proofs.Rows.{no_name, not-zero, row-form, width-least}
use Rattle.table.proofs.Sound.{row_is, says-good}
use Rattle.changes.specs.Changes.{with_accesses}
use Rattle.changes.proofs.Steps.{row-account}
use Rattle.moving.specs.Moving.{movable, moved_row, plain_access}
use Rattle.moving.proofs.Built.{wide}
use Rattle.moving.proofs.Copies.{by_row, length_moved, moved-says, moved-sound, ready}
use Rattle.moving.proofs.Plain.{plain-one}
use Rattle.order.specs.Demand3.{Subject, nobody, subscriber}
use Rattle.order.proofs.Finding.{finds, finds-alike}
use Rattle.changeover.specs.TheChangeOver.{SaysAlike, without_realm, without_realms}

-- both wholly zero, or both sound and saying the same but for the realms
pub record Free (r s : List ℕ) : Type 0 where
  pub old-zero : r ≡ zeros (row_length 1)
  pub new-zero : s ≡ zeros (row_length 2)

pub record Said (r s : List ℕ) : Type 0 where
  pub old-sound : sound r ≡ true
  pub new-sound : sound s ≡ true
  pub old-good : Good 1 (read_row r)
  pub new-good : Good 2 (read_row s)
  pub alike : without_realms (read_row s) ≡ read_row r

pub data Pair (r s : List ℕ) : Type 0 where
  free : Free r s → Pair r s
  said : Said r s → Pair r s

-- row by row
unfoldable pub Pairs : List (List ℕ) → List (List ℕ) → Type 0
Pairs [] [] = Unit {0}
Pairs [] (s ∷ ss) = ⊥
Pairs (r ∷ rs) [] = ⊥
Pairs (r ∷ rs) (s ∷ ss) = Pair r s × Pairs rs ss

-- THE LOOKUP

zero-first : (n : ℕ) → get_or (zeros n) 0 0 ≡ 0
unfolding zeros
zero-first zero = refl
zero-first (suc n) = refl

zero-name : (name : List ℕ) (n : ℕ) → has_name name (zeros n) ≡ false
unfolding has_name
zero-name name n = rw (zero-first n)

zero-found : (k : Subject) (n : ℕ) → finds k (zeros n) ≡ false
unfolding finds
zero-found nobody n = refl
zero-found (subscriber a) n = no_name a (zeros n) (zero-name a.name n)

-- a wholly zero row is found by nobody
pub free-found : {r s : List ℕ} (k : Subject) → Free r s → finds k r ≡ false
free-found k f = ap (finds k) f.old-zero ∙ zero-found k (row_length 1)

account-said : (s : Subscriber) → (without_realms s).operator ∷ 1 ∷ length (without_realms s).name ∷ filled (without_realms s).name 15 ≡ s.operator ∷ 1 ∷ length s.name ∷ filled s.name 15
unfolding without_realms
account-said s = refl

said-found : {r s : List ℕ} → Said r s → found_by r ≡ found_by s
said-found {r} {s} d =
    ap found_by (row_is r d.old-sound)
    ∙ row-account (form_of r) (read_row r)
    ∙ ap (λ (x : Subscriber). x.operator ∷ 1 ∷ length x.name ∷ filled x.name 15) (sym d.alike)
    ∙ account-said (read_row s)
    ∙ sym (row-account (form_of s) (read_row s))
    ∙ ap found_by (sym (row_is s d.new-sound))

pub pair_found : {r s : List ℕ} (k : Subject) → Pair r s → finds k s ≡ finds k r
pair_found {r} {s} k (free f) = ap (finds k) f.new-zero ∙ zero-found k (row_length 2) ∙ sym (free-found k f)
pair_found {r} {s} k (said d) = finds-alike k s r (sym (said-found d))

-- WHAT IS SAID

one-first : (r : List ℕ) → sound r ≡ true → get_or (take 17 r) 0 0 ≡ 1
unfolding found_by
one-first r h = ap (λ (f : List ℕ). get_or f 1 0) (ap found_by (row_is r h) ∙ row-account (form_of r) (read_row r))

some-by : (r : List ℕ) → get_or (take 17 r) 0 0 ≡ 1 → all_zero r ≡ false
some-by [] e = absurd (omega (arith, e))
some-by (x ∷ r) e = sym (not-zero (x ∷ r) (omega arith) (λ z. omega (arith, e, z)))

sound-some : (r : List ℕ) → sound r ≡ true → all_zero r ≡ false
sound-some r h = some-by r (one-first r h)

all-zeros : (n : ℕ) → all_zero (zeros n) ≡ true
unfolding all_zero
all-zeros n = rw (length-zeros n) (same_refl (zeros n))

-- a wholly zero row says nothing
abbrev nothing_said : Subscriber
nothing_said = record { operator = 0; name = []; entries = []; accesses = [] }

head-said : (f : ℕ → Access)
    → record { operator = get_or (zeros block_length) 19 0; name = part (zeros block_length) 2 (get_or (zeros block_length) 1 0); entries = read_entries (get_or (zeros block_length) 18 0) (part (zeros block_length) 32 416); accesses = map f (up_to0 (part (zeros block_length) 20 8)) } ≡ nothing_said
unfolding zeros up_to0 read_entries pick
head-said f = refl

zero-said : (n : ℕ) → block_length ≤ n → read_row (zeros n) ≡ nothing_said
unfolding read_row order_line
zero-said n h =
    let e : take block_length (zeros n) ≡ zeros block_length = take-zeros block_length n h in
    (λ i. record { operator = get_or (e i) 19 0; name = part (e i) 2 (get_or (e i) 1 0); entries = read_entries (get_or (e i) 18 0) (part (e i) 32 416); accesses = map (access_at (zeros n)) (up_to0 (part (e i) 20 8)) })
    ∙ head-said (access_at (zeros n))

nothing-without : without_realms nothing_said ≡ nothing_said
unfolding without_realms
nothing-without = refl

said-alike : {r s : List ℕ} → Said r s → SaysAlike r s
said-alike {r} {s} d = record { zero-alike = sound-some s d.new-sound ∙ sym (sound-some r d.old-sound); says-alike = d.alike }

free-alike : {r s : List ℕ} → Free r s → SaysAlike r s
free-alike {r} {s} f =
    record {
      zero-alike = ap all_zero f.new-zero ∙ all-zeros (row_length 2) ∙ sym (all-zeros (row_length 1)) ∙ ap all_zero (sym f.old-zero);
      says-alike =
          ap (λ (x : List ℕ). without_realms (read_row x)) f.new-zero ∙ ap without_realms (zero-said (row_length 2) (width-least 2)) ∙ nothing-without
          ∙ sym (zero-said (row_length 1) (width-least 1)) ∙ ap read_row (sym f.old-zero);
    }

pub pair-alike : {r s : List ℕ} → Pair r s → SaysAlike r s
pair-alike (free f) = free-alike f
pair-alike (said d) = said-alike d

-- the pair at i
pub pairs-at : (rs ss : List (List ℕ)) (i : ℕ) → Pairs rs ss → i < length rs → Pair (get_or rs i []) (get_or ss i [])
unfolding Pairs
pairs-at [] [] i p h = absurd (omega arith)
pairs-at [] (s ∷ ss) i p h = absurd p
pairs-at (r ∷ rs) [] i p h = absurd p
pairs-at (r ∷ rs) (s ∷ ss) zero p h = p.0
pairs-at (r ∷ rs) (s ∷ ss) (suc i) p h = pairs-at rs ss i p.1 (omega arith)

pub pairs-length : (rs ss : List (List ℕ)) → Pairs rs ss → length ss ≡ length rs
unfolding Pairs
pairs-length [] [] p = refl
pairs-length [] (s ∷ ss) p = absurd p
pairs-length (r ∷ rs) [] p = absurd p
pairs-length (r ∷ rs) (s ∷ ss) p = ap suc (pairs-length rs ss p.1)

-- THE MOVE

empty : (t : List ℕ) → length t ≡ 0 → t ≡ []
empty [] h = refl
empty (x ∷ t) h = absurd (omega arith)

realm-empty : (a : Access) → plain_access a ≡ true → a.realm ≡ []
unfolding plain_access
realm-empty a h = empty a.realm (eqb-true (length a.realm) 0 (and_left (eqb (length a.realm) 0) _ h))

access-bare : (a : Access) → plain_access a ≡ true → without_realm a ≡ a
unfolding without_realm
access-bare a h =
    let e : a.realm ≡ [] = realm-empty a h in
    λ i. record { place = a.place; entry = a.entry; session = a.session; host = a.host; realm = sym e i; policies = a.policies }

accesses-bare : (a : List Access) → every plain_access a ≡ true → map without_realm a ≡ a
unfolding every
accesses-bare [] h = refl
accesses-bare (x ∷ a) h =
    let p : without_realm x ≡ x = access-bare x (and_left (plain_access x) _ h) in
    let q : map without_realm a ≡ a = accesses-bare a (and_right (plain_access x) _ h) in
    λ i. p i ∷ q i

-- form 1 has no realms
bare : (s : Subscriber) → Good 1 s → without_realms s ≡ s
unfolding without_realms
bare s g = ap (λ (a : List Access). with_accesses a s) (accesses-bare s.accesses (plain-one s g))

pub one_form : is_form 1 ≡ true
unfolding is_form within
one_form = refl

pub two-form : is_form 2 ≡ true
unfolding is_form within
two-form = refl

zero-moved : (r : List ℕ) → all_zero r ≡ true → moved_row 2 r ≡ zeros (row_length 2)
unfolding moved_row pick
zero-moved r z = rw z

is-zeros : (r : List ℕ) (n : ℕ) → length r ≡ n → all_zero r ≡ true → r ≡ zeros n
unfolding all_zero
is-zeros r n h z = same-eq r (zeros (length r)) z ∙ ap zeros h

good-in : (fm : ℕ) (r : List ℕ) → length r ≡ row_length fm → sound r ≡ true → Good fm (read_row r)
good-in fm r l h = subst (λ (f : ℕ). Good f (read_row r)) (row-form r fm l) (says-good r h)

moved-pair : (r : List ℕ) → ready 1 r ≡ true → Pair r (moved_row 2 r)
unfolding ready wide
moved-pair r a =
    let size : length r ≡ row_length 1 = eqb-true (length r) (row_length 1) (and_left (eqb (length r) (row_length 1)) _ a) in
    let may : movable r ≡ true = and_left (movable r) _ (and_right (eqb (length r) (row_length 1)) _ a) in
    by_row r may
    (λ h z.
    let u : sound (moved_row 2 r) ≡ true = moved-sound 1 2 one_form two-form r a z in
    let e : read_row (moved_row 2 r) ≡ read_row r = moved-says 1 2 one_form two-form r a z in
    said
    (record {
      old-sound = h;
      new-sound = u;
      old-good = good-in 1 r size h;
      new-good = good-in 2 (moved_row 2 r) (length_moved 2 r) u;
      alike = ap without_realms e ∙ bare (read_row r) (good-in 1 r size h);
    }))
    (λ z. free (record { old-zero = is-zeros r (row_length 1) size z; new-zero = zero-moved r z }))

pub moved-pairs : (rs : List (List ℕ)) → every (ready 1) rs ≡ true → Pairs rs (map (moved_row 2) rs)
unfolding Pairs every
moved-pairs [] h = tt
moved-pairs (r ∷ rs) h = (moved-pair r (and_left (ready 1 r) _ h), moved-pairs rs (and_right (ready 1 r) _ h))
