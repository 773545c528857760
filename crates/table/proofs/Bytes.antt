-- What the bytes of a good subscriber say is that subscriber.
use mathlib.Core.Path.{◌≡◌, refl, sym, ap, ◌∙◌}
use mathlib.Core.Bool.{true, ◌&&◌, not}
use mathlib.Core.List.{List, [], ◌∷◌, ◌++◌, map, append_assoc}
use Prim.Native.Nat.{ℕ, zero, suc, ◌+◌, ◌-◌, ◌*◌, ◌%◌, ◌≤◌, ◌<◌}
use native.Mathlib.Omega.{arith}
use borrow.Author.Tests.{leb-true, eq-eqb, ne_eqb, not-true}
use lib.Dec.{eqb, leb}
use lib.ListN.{length, get_or, take, drop, length-append, length-take, drop_of_length-le}
use lib.Seq.{take-append-le, take-append_seam, take_at, drop_at, take_all, take-take, get_or-append-add, drop-append-add}
use Rattle.octets.specs.Choice.{pick, within}
use Rattle.octets.specs.Lists.{counted, distinct, every, up_to0}
use Rattle.octets.specs.Texts.{filled, part, same, zeros}
use Rattle.octets.proofs.Lists.{and_left, and_right, by-test, every-imp, every_map, same-eq, same_refl, within-high, within_low}
use Rattle.octets.proofs.Texts.{length-filled, length-zeros}
use Rattle.octets.proofs.Pieces.{drop_past, get_or_past}
use Rattle.table.proofs.Good.{Entered, Fits, Good, Standing, at-most-eight, by_form, good-is, good_access, good_entry, is-good, said_sound, spare, standing}
use Rattle.table.specs.Soundness.{is_name}
use Rattle.table.specs.TheTable.{block_length, Access, Entry, Subscriber, access_at, access_bytes, first_block, first_bytes, form_of, head, is_form, place, place_length, second_block, second_bytes, entries_bytes, entry_bytes, head_bytes, line, order_line, place_bytes, places, places_bytes, read_access, read_entries, read_entry, read_row, row_bytes, row_length, sealed, sums_from, used_bits}

-- lengths: total, so they have no condition

length-sums_from : (a b : ℕ) (s : List ℕ) → length (sums_from a b s) ≡ 2
unfolding sums_from
length-sums_from a b [] = refl
length-sums_from a b (x ∷ s) = length-sums_from ((a + x) % 255) ((b + (a + x) % 255) % 255) s

pub length-sealed : (s : List ℕ) → length (sealed s) ≡ length s + 2
unfolding sealed
length-sealed s = rw (length-append, length-sums_from)

pub length-entry : (e : Entry) → length (entry_bytes e) ≡ 104
unfolding entry_bytes
length-entry e = simp (length-append, length-filled)

pub length-head : (s : Subscriber) → length (head_bytes s) ≡ block_length
unfolding head_bytes
length-head s = simp (length-sealed, length-append, length-filled, length-zeros)

-- the blocks of an access
pub length-first : (a : Access) → length (first_bytes a) ≡ block_length
unfolding first_bytes
length-first a = simp (length-sealed, length-append, length-filled, length-zeros)

pub length-second : (a : Access) → length (second_bytes a) ≡ block_length
unfolding second_bytes
length-second a = simp (length-sealed, length-append, length-filled, length-zeros)

pub length-access : (fm : ℕ) (a : Access) → length (access_bytes fm a) ≡ place_length fm
unfolding access_bytes
length-access fm a = length-filled _ (block_length * fm)

pub length-place : (fm : ℕ) (a : List Access) (k : ℕ) → length (place_bytes fm a k) ≡ place_length fm
unfolding place_bytes pick
length-place fm [] k = length-zeros (block_length * fm)
length-place fm (x ∷ a) k = by-test (eqb x.place k) (λ e. rw e (length-access fm x)) (λ e. rw e (length-place fm a k))

-- the size of a row
length-places : (fm : ℕ) (a : List Access) (n b : ℕ) → length (places_bytes fm a (counted b n)) ≡ place_length fm * n
unfolding places_bytes counted
length-places fm a zero b = omega arith
length-places fm a (suc n) b = rw (length-append, length-place fm a b, length-places fm a n (suc b)) (omega arith)

pub length-row : (fm : ℕ) (s : Subscriber) → length (row_bytes fm s) ≡ row_length fm
unfolding row_bytes places row_length
length-row fm s = rw (length-append, length-head, length-places fm s.accesses 8 1) (omega arith)

-- the form of a row is that of its length
pub form-of : (fm : ℕ) (r : List ℕ) → length r ≡ row_length fm → form_of r ≡ fm
unfolding form_of row_length
form-of fm r h = omega arith

pub form-row : (fm : ℕ) (s : Subscriber) → form_of (row_bytes fm s) ≡ fm
form-row fm s = form-of fm _ (length-row fm s)

-- a text in its room
pub text_in : (s : List ℕ) (n : ℕ) (rest : List ℕ) → length s ≤ n → take (length s) (filled s n ++ rest) ≡ s
unfolding filled
text_in s n rest h =
    take-append-le (length s) (take n (s ++ zeros n)) rest (simp (length-take, length-append, length-zeros) (omega arith))
    ∙ take-take (length s) n (s ++ zeros n) h
    ∙ take-append_seam s (zeros n)

-- entries

read-entry : (e : Entry) → length e.label ≤ 100 → read_entry (entry_bytes e) ≡ e
unfolding read_entry entry_bytes
read-entry e h =
    let f : List ℕ = filled e.label 100 in
    let t : List ℕ = e.flags ∷ e.limit ∷ 0 ∷ [] in
    let a : take (length e.label) (f ++ t) ≡ e.label = text_in e.label 100 t h in
    let b : get_or (f ++ t) 100 0 ≡ e.flags = get_or_past 100 0 f t (length-filled _ 100) in
    let c : get_or (f ++ t) 101 0 ≡ e.limit = get_or_past 100 1 f t (length-filled _ 100) in
    λ i. record { label = a i; flags = b i; limit = c i }

read-entries : (es : List Entry) (rest : List ℕ) → every good_entry es ≡ true → read_entries (length es) (entries_bytes es ++ rest) ≡ es
unfolding read_entries entries_bytes every good_entry
read-entries [] rest g = refl
read-entries (e ∷ es) rest g =
    let h : length e.label ≤ 100 = within-high 1 100 _ (and_left _ (leb e.flags 3 && within 1 8 e.limit) (and_left (good_entry e) (every good_entry es) g)) in
    rw (
      append_assoc,
      take_at (entry_bytes e) (entries_bytes es ++ rest) 104 (length-entry e),
      read-entry e h,
      drop_at (entry_bytes e) (entries_bytes es ++ rest) 104 (length-entry e),
      read-entries es rest (and_right (good_entry e) _ g),
    )

-- a room is its text and zeros
pub fill : (s : List ℕ) (n : ℕ) → length s ≤ n → filled s n ≡ s ++ take (n - length s) (zeros n)
unfolding filled
fill s n h =
    let q : n ≡ length s + (n - length s) = omega arith in
    ap (λ (k : ℕ). take k (s ++ zeros n)) q ∙ lib.Seq.take-append-add s (zeros n) (n - length s)

pub length-entries : (es : List Entry) → length (entries_bytes es) ≡ 104 * length es
unfolding entries_bytes
length-entries [] = refl
length-entries (e ∷ es) = rw (length-append, length-entry, length-entries es) (omega arith)

-- the line

stops : (m n : ℕ) → up_to0 (take m (zeros n)) ≡ []
unfolding up_to0 zeros pick
stops zero n = refl
stops (suc m) zero = refl
stops (suc m) (suc n) = refl

up_to : (l : List ℕ) (m n : ℕ) → every (within 1 8) l ≡ true → up_to0 (l ++ take m (zeros n)) ≡ l
unfolding up_to0 every pick
up_to [] m n h = stops m n
up_to (x ∷ l) m n h =
    let w : within 1 8 x ≡ true = and_left _ (every (within 1 8) l) h in
    rw (ne_eqb x 0 (omega (arith, within_low 1 8 x w)), up_to l m n (and_right (within 1 8 x) _ h))

-- a place

-- three texts of 128 behind one another, and what follows
module _ (s h p z c : List ℕ) (hs : length s ≤ 128) (hh : length h ≤ 128) (hp : length p ≤ 128) where
  text-one : take (length s) ((filled s 128 ++ (filled h 128 ++ (filled p 128 ++ z))) ++ c) ≡ s
  text-one = rw append_assoc (text_in s 128 _ hs)

  text-two : take (length h) (drop 128 ((filled s 128 ++ (filled h 128 ++ (filled p 128 ++ z))) ++ c)) ≡ h
  text-two = simp (append_assoc, drop_past 128 0 (filled s 128), length-filled) (text_in h 128 _ hh)

  text-three : take (length p) (drop 256 ((filled s 128 ++ (filled h 128 ++ (filled p 128 ++ z))) ++ c)) ≡ p
  text-three = simp append_assoc (rw (drop_past 128 128 (filled s 128) _ (length-filled s 128), drop_past 128 0 (filled h 128) _ (length-filled h 128)) (text_in p 128 _ hp))

-- An access in its place: the first block stands first; behind it in form 1 nothing, in form 2 the second.
pub access-one : (a : Access) → access_bytes 1 a ≡ first_bytes a
unfolding access_bytes filled
access-one a = rw (append_assoc (first_bytes a) (second_bytes a) (zeros block_length)) (take_at (first_bytes a) (second_bytes a ++ zeros block_length) block_length (length-first a))

pub access-two : (a : Access) → access_bytes 2 a ≡ first_bytes a ++ second_bytes a
unfolding access_bytes filled
access-two a = take_at (first_bytes a ++ second_bytes a) (zeros (place_length 2)) (place_length 2) (rw (length-append, length-first, length-second))

pub first-of : (fm : ℕ) (a : Access) → is_form fm ≡ true → first_block (access_bytes fm a) ≡ first_bytes a
first-of fm a h =
    by_form (λ f. first_block (access_bytes f a) ≡ first_bytes a) fm h
    (rw access-one (take_all block_length (first_bytes a) (omega (arith, length-first a))))
    (rw access-two (take_at (first_bytes a) (second_bytes a) block_length (length-first a)))

pub second-of : (fm : ℕ) (a : Access) → is_form fm ≡ true → second_block (access_bytes fm a) ≡ take (block_length * (fm - 1)) (second_bytes a)
second-of fm a h =
    by_form (λ f. second_block (access_bytes f a) ≡ take (block_length * (f - 1)) (second_bytes a)) fm h
    (rw access-one (drop_of_length-le (first_bytes a) {i = block_length} (omega (arith, length-first a))))
    (rw access-two (drop_at (first_bytes a) (second_bytes a) block_length (length-first a) ∙ sym (take_all block_length (second_bytes a) (omega (arith, length-second a)))))

none_left : (s : List ℕ) → length s ≤ 0 → [] ≡ s
none_left [] h = refl
none_left (x ∷ s) h = absurd (omega arith)

-- what the two blocks say
abbrev pub read_place : (k : ℕ) → List ℕ → Access
read_place k p = read_access k (first_block p) (second_block p)

module _ (a : Access) (hs : length a.session ≤ 128) (hh : length a.host ≤ 128) (hp : length a.policies.first ≤ 128) where
  session-in : part (first_bytes a) 8 (length a.session) ≡ a.session
  unfolding first_bytes sealed
  session-in = text-one a.session a.host a.policies.first (zeros 118) _ hs hh hp

  host-in : part (first_bytes a) 136 (length a.host) ≡ a.host
  unfolding first_bytes sealed
  host-in = text-two a.session a.host a.policies.first (zeros 118) _ hs hh hp

  policy-in : part (first_bytes a) 264 (length a.policies.first) ≡ a.policies.first
  unfolding first_bytes sealed
  policy-in = text-three a.session a.host a.policies.first (zeros 118) _ hs hh hp

read_one : (a : Access) (n : ℕ) → Standing 1 n a → read_access a.place (first_bytes a) [] ≡ a
unfolding read_access first_bytes sealed spare
read_one a n s =
    let hs : length a.session ≤ 128 = within-high 1 128 _ s.sid-fits in
    let hh : length a.host ≤ 128 = within-high 1 128 _ s.host-fits in
    let hp : length a.policies.first ≤ 128 = leb-true _ 128 s.first_fits in
    let one : part (first_bytes a) 8 (length a.session) ≡ a.session = session-in a hs hh hp in
    let two : part (first_bytes a) 136 (length a.host) ≡ a.host = host-in a hs hh hp in
    let three : part (first_bytes a) 264 (length a.policies.first) ≡ a.policies.first = policy-in a hs hh hp in
    let realm : [] ≡ a.realm = none_left a.realm (leb-true _ 0 s.realm-fits) in
    let second : [] ≡ a.policies.second = none_left a.policies.second (leb-true _ 0 s.second_fits) in
    let third : [] ≡ a.policies.third = none_left a.policies.third (leb-true _ 0 s.third-fits) in
    λ i. record { place = a.place; entry = a.entry; session = one i; host = two i; realm = realm i; policies = record { first = three i; second = second i; third = third i } }

read-two : (a : Access) (n : ℕ) → Standing 2 n a → read_access a.place (first_bytes a) (second_bytes a) ≡ a
unfolding read_access first_bytes second_bytes sealed spare
read-two a n s =
    let hs : length a.session ≤ 128 = within-high 1 128 _ s.sid-fits in
    let hh : length a.host ≤ 128 = within-high 1 128 _ s.host-fits in
    let hp : length a.policies.first ≤ 128 = leb-true _ 128 s.first_fits in
    let hr : length a.realm ≤ 128 = leb-true _ 128 s.realm-fits in
    let h2 : length a.policies.second ≤ 128 = leb-true _ 128 s.second_fits in
    let h3 : length a.policies.third ≤ 128 = leb-true _ 128 s.third-fits in
    let one : part (first_bytes a) 8 (length a.session) ≡ a.session = session-in a hs hh hp in
    let two : part (first_bytes a) 136 (length a.host) ≡ a.host = host-in a hs hh hp in
    let three : part (first_bytes a) 264 (length a.policies.first) ≡ a.policies.first = policy-in a hs hh hp in
    let realm : part (second_bytes a) 8 (length a.realm) ≡ a.realm = text-one a.realm a.policies.second a.policies.third (zeros 118) _ hr h2 h3 in
    let second : part (second_bytes a) 136 (length a.policies.second) ≡ a.policies.second = text-two a.realm a.policies.second a.policies.third (zeros 118) _ hr h2 h3 in
    let third : part (second_bytes a) 264 (length a.policies.third) ≡ a.policies.third = text-three a.realm a.policies.second a.policies.third (zeros 118) _ hr h2 h3 in
    λ i. record { place = a.place; entry = a.entry; session = one i; host = two i; realm = realm i; policies = record { first = three i; second = second i; third = third i } }

read-access : (fm : ℕ) (a : Access) (n : ℕ) → is_form fm ≡ true → Standing fm n a → read_place a.place (access_bytes fm a) ≡ a
unfolding is_form within
read-access fm a n h s =
    by_form (λ f. Standing f n a → read_place a.place (access_bytes f a) ≡ a) fm h
    (λ s. rw (first-of 1 a refl, second-of 1 a refl) (read_one a n s))
    (λ s. rw (first-of 2 a refl, second-of 2 a refl, take_all block_length (second_bytes a) (omega (arith, length-second a))) (read-two a n s))
    s

-- the bytes of a place, of the places' and of the row's bytes

in-places : (fm : ℕ) (a : List Access) (ks : List ℕ) (i : ℕ) → i < length ks → part (places_bytes fm a ks) (place_length fm * i) (place_length fm) ≡ place_bytes fm a (get_or ks i 0)
unfolding places_bytes
in-places fm a [] i h = absurd (omega arith)
in-places fm a (k ∷ ks) zero h =
    let q : block_length * fm * 0 ≡ 0 = omega arith in
    rw q (take_at (place_bytes fm a k) _ (block_length * fm) (length-place fm a k))
in-places fm a (k ∷ ks) (suc i) h =
    let q : block_length * fm * suc i ≡ block_length * fm + block_length * fm * i = omega arith in
    rw (q, drop_past (block_length * fm) (block_length * fm * i) (place_bytes fm a k) (places_bytes fm a ks) (length-place fm a k)) (in-places fm a ks i (omega arith))

get_or-counted : (b n i : ℕ) → i < n → get_or (counted b n) i 0 ≡ b + i
unfolding counted
get_or-counted b zero i h = absurd (omega arith)
get_or-counted b (suc n) zero h = omega arith
get_or-counted b (suc n) (suc i) h = omega (arith, get_or-counted (suc b) n i (omega arith))

pub place_is : (fm : ℕ) (s : Subscriber) (k : ℕ) → within 1 8 k ≡ true → place (row_bytes fm s) k ≡ place_bytes fm s.accesses k
unfolding place row_bytes places counted
place_is fm s k w =
    let f : form_of (head_bytes s ++ places_bytes fm s.accesses (counted 1 8)) ≡ fm = form-row fm s in
    let lo : 1 ≤ k = within_low 1 8 k w in
    let h : k - 1 < 8 = omega (arith, within-high 1 8 k w) in
    rw (f, drop_past block_length (block_length * fm * (k - 1)) (head_bytes s) (places_bytes fm s.accesses (counted 1 8)) (length-head s))
    (in-places fm s.accesses (counted 1 8) (k - 1) h ∙ ap (place_bytes fm s.accesses) (get_or-counted 1 8 (k - 1) h ∙ omega arith))

-- reading the places on the order line gives back the accesses

other-places : (fm : ℕ) (x : Access) (a : List Access) (ks : List ℕ) → every (λ k. not (eqb x.place k)) ks ≡ true
    → map (λ (k : ℕ). read_place k (place_bytes fm (x ∷ a) k)) ks ≡ map (λ (k : ℕ). read_place k (place_bytes fm a k)) ks
unfolding place_bytes every pick
other-places fm x a [] h = refl
other-places fm x a (k ∷ ks) h =
    rw (not-true (eqb x.place k) (and_left (not (eqb x.place k)) _ h), other-places fm x a ks (and_right (not (eqb x.place k)) _ h))

own-place : (fm : ℕ) (x : Access) (a : List Access) → place_bytes fm (x ∷ a) x.place ≡ access_bytes fm x
unfolding place_bytes pick
own-place fm x a = rw (eq-eqb x.place x.place refl)

read-places : (fm n : ℕ) (a : List Access) → is_form fm ≡ true → every (good_access fm n) a ≡ true → distinct eqb (line a) ≡ true
    → map (λ (k : ℕ). read_place k (place_bytes fm a k)) (line a) ≡ a
unfolding line every distinct
read-places fm n [] f g d = refl
read-places fm n (x ∷ a) f g d =
    let first : read_place x.place (place_bytes fm (x ∷ a) x.place) ≡ x = rw (own-place fm x a) (read-access fm x n f (standing n x (and_left (good_access fm n x) _ g))) in
    let others : map (λ (k : ℕ). read_place k (place_bytes fm (x ∷ a) k)) (line a) ≡ a =
    other-places fm x a (line a) (and_left _ (distinct eqb (line a)) d) ∙ read-places fm n a f (and_right (good_access fm n x) _ g) (and_right (every (λ k. not (eqb x.place k)) (line a)) _ d) in
    cc

-- the places of the row are those
row-places : (fm : ℕ) (s : Subscriber) (ks : List ℕ) → every (within 1 8) ks ≡ true
    → map (access_at (row_bytes fm s)) ks ≡ map (λ (k : ℕ). read_place k (place_bytes fm s.accesses k)) ks
unfolding every access_at
row-places fm s [] h = refl
row-places fm s (k ∷ ks) h =
    rw (place_is fm s k (and_left (within 1 8 k) _ h), row-places fm s ks (and_right (within 1 8 k) _ h))

-- what block 0 says

-- block 0's bytes with what follows, as they stand
front : Subscriber → List ℕ → List ℕ
front s t =
    1 ∷ length s.name ∷ filled s.name 15
    ++ (used_bits (line s.accesses) ∷ length s.entries ∷ s.operator ∷ filled (line s.accesses) 8
    ++ (zeros 4 ++ (filled (entries_bytes s.entries) 416 ++ t)))

rest : Subscriber → List ℕ
rest s =
    zeros 62 ++ sums_from 0 0 (1 ∷ length s.name ∷ filled s.name 15
    ++ (used_bits (line s.accesses) ∷ length s.entries ∷ s.operator ∷ filled (line s.accesses) 8
    ++ (zeros 4 ++ (filled (entries_bytes s.entries) 416 ++ zeros 62))))

row-front : (fm : ℕ) (s : Subscriber) → head (row_bytes fm s) ≡ front s (rest s)
unfolding row_bytes head_bytes sealed front rest
row-front fm s = take_at (head_bytes s) (places_bytes fm s.accesses places) block_length (length-head s) ∙ simp append_assoc

front-name : (s : Subscriber) (t : List ℕ) → length s.name ≤ 15 → part (front s t) 2 (get_or (front s t) 1 0) ≡ s.name
unfolding front
front-name s t h = text_in s.name 15 _ h

front-count : (s : Subscriber) (t : List ℕ) → get_or (front s t) 18 0 ≡ length s.entries
unfolding front
front-count s t = get_or_past 15 1 (filled s.name 15) _ (length-filled _ 15)

front-operator : (s : Subscriber) (t : List ℕ) → get_or (front s t) 19 0 ≡ s.operator
unfolding front
front-operator s t = get_or_past 15 2 (filled s.name 15) _ (length-filled _ 15)

front-line : (s : Subscriber) (t : List ℕ) → part (front s t) 20 8 ≡ filled (line s.accesses) 8
unfolding front
front-line s t = rw (drop_past 15 3 (filled s.name 15) _ (length-filled _ 15)) (take_at (filled (line s.accesses) 8) _ 8 (length-filled _ 8))

front-entries : (s : Subscriber) (t : List ℕ) → part (front s t) 32 416 ≡ filled (entries_bytes s.entries) 416
unfolding front
front-entries s t =
    rw (drop_past 15 15 (filled s.name 15) _ (length-filled _ 15), drop_past 8 4 (filled (line s.accesses) 8) _ (length-filled _ 8), drop_past 4 0 (zeros 4) _ (length-zeros 4))
    (take_at (filled (entries_bytes s.entries) 416) t 416 (length-filled _ 416))

-- reading the bytes of a good subscriber gives that subscriber (`read-row`)

length-line : (a : List Access) → length (line a) ≡ length a
unfolding line
length-line [] = refl
length-line (x ∷ a) = ap suc (length-line a)

pub each-place : (fm n : ℕ) (a : List Access) → every (good_access fm n) a ≡ true → every (within 1 8) (line a) ≡ true
unfolding line
each-place fm n a g = rw every_map (every-imp (good_access fm n) _ (λ x t. (standing n x t).place_in) a g)

pub name-length : (n : List ℕ) → is_name n ≡ true → length n ≤ 15
unfolding is_name
name-length n g = within-high 1 15 _ (and_left (within 1 15 (length n)) _ g)

pub read-row : (fm : ℕ) (s : Subscriber) → Good fm s → read_row (row_bytes fm s) ≡ s
unfolding read_row order_line
read-row fm s g =
    let e : Entered s.entries = g.entries-good in
    let f : Fits fm s.entries s.accesses = g.accesses-good in
    let a8 : length (line s.accesses) ≤ 8 = omega (arith, at-most-eight s.entries s.accesses e f, length-line s.accesses) in
    let on : every (within 1 8) (line s.accesses) ≡ true = each-place fm _ s.accesses f.each in
    let e4 : length (entries_bytes s.entries) ≤ 416 = omega (arith, length-entries s.entries, leb-true (length s.entries) 4 e.four) in
    let name : part (head (row_bytes fm s)) 2 (get_or (head (row_bytes fm s)) 1 0) ≡ s.name = rw (row-front fm s) (front-name s (rest s) (name-length _ g.name-good)) in
    let operator : get_or (head (row_bytes fm s)) 19 0 ≡ s.operator = rw (row-front fm s) (front-operator s (rest s)) in
    let count : get_or (head (row_bytes fm s)) 18 0 ≡ length s.entries = rw (row-front fm s) (front-count s (rest s)) in
    let room : part (head (row_bytes fm s)) 32 416 ≡ entries_bytes s.entries ++ take (416 - length (entries_bytes s.entries)) (zeros 416) =
    rw (row-front fm s, front-entries s (rest s), fill (entries_bytes s.entries) 416 e4) in
    let entries : read_entries (get_or (head (row_bytes fm s)) 18 0) (part (head (row_bytes fm s)) 32 416) ≡ s.entries = rw (count, room) (read-entries s.entries _ e.each) in
    let order : up_to0 (part (head (row_bytes fm s)) 20 8) ≡ line s.accesses =
    rw (row-front fm s, front-line s (rest s), fill (line s.accesses) 8 a8) (up_to (line s.accesses) (8 - length (line s.accesses)) 8 on) in
    let accesses : map (access_at (row_bytes fm s)) (up_to0 (part (head (row_bytes fm s)) 20 8)) ≡ s.accesses =
    rw order (row-places fm s (line s.accesses) on ∙ read-places fm _ s.accesses g.form-good f.each f.places-once) in
    λ i. record { operator = operator i; name = name i; entries = entries i; accesses = accesses i }

-- the row of a good subscriber is sound in the form that the theorems use, `said_sound`
pub said_row : (fm : ℕ) (s : Subscriber) → Good fm s → said_sound (row_bytes fm s) ≡ true
unfolding said_sound
said_row fm s g = rw (read-row fm s g, form-row fm s, same_refl (row_bytes fm s), good-is s g)

-- and a row that is sound in that form is the bytes of what it says, a good subscriber
pub said-is : (r : List ℕ) → said_sound r ≡ true → r ≡ row_bytes (form_of r) (read_row r)
unfolding said_sound
said-is r h = same-eq r _ (and_left (same r (row_bytes (form_of r) (read_row r))) _ h)

pub said-good : (r : List ℕ) → said_sound r ≡ true → Good (form_of r) (read_row r)
unfolding said_sound
said-good r h = is-good (read_row r) (and_right (same r (row_bytes (form_of r) (read_row r))) _ h)
