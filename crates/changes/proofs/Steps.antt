-- What code writes: block 0 with another line, or one entry more, and a place with another policy, as changes of a few bytes.
use mathlib.Core.Path.{◌≡◌, refl, sym, ap, ◌∙◌}
use mathlib.Core.Bool.{Bool, true}
use mathlib.Core.List.{List, [], ◌∷◌, ◌++◌, map, append_assoc, append-nil}
use Prim.Native.Nat.{ℕ, ◌+◌, ◌-◌, ◌*◌, ◌<◌}
use native.Mathlib.Omega.{arith}
use lib.ListN.{length, take, drop, get_or, length-append}
use lib.Seq.{take_at, take-append-le}
use lib.Count.{ones, count_trailing_zeros}
use lib.ListN.{get_or-append}
use Rattle.octets.specs.Choice.{pick}
use Rattle.octets.specs.Lists.{keep}
use Rattle.octets.specs.Texts.{filled, part, zeros}
use Rattle.table.specs.Soundness.{sound}
use Rattle.table.specs.TheTable.{Access, Entry, Policies, Subscriber, first_bytes, form_of, entries_bytes, entry_bytes, found_by, head_bytes, held, line, places, places_bytes, read_row, row_bytes, sealed, second_bytes, sums_from, used_bits}
use Rattle.changes.proofs.Bits.{lowest-free, ones-accesses}
use Rattle.changes.proofs.Stays.{some-vacant}
use Rattle.changes.specs.Changes.{lowest_free, with_accesses}
use Rattle.octets.proofs.Lists.{by-test}
use Rattle.octets.proofs.Texts.{length-filled, length-zeros}
use Rattle.table.proofs.Bytes.{fill, length-entries, length-entry, length-head}
use Rattle.table.proofs.Sound.{row_is, says-good}
use Rattle.octets.proofs.Pieces.{drop_past, drop-zeros, get_or_past, take-zeros}

-- block 0 in its parts
module _ (p q x c z : ℕ) (n l y t : List ℕ) (hn : length n ≡ 15) (hl : length l ≡ 8) where
  abbrev body : List ℕ
  body = p ∷ q ∷ n ++ (x ∷ c ∷ z ∷ l ++ y)

  body_is : body ++ t ≡ p ∷ q ∷ n ++ (x ∷ c ∷ z ∷ l ++ (y ++ t))
  body_is = simp append_assoc

  front17 : take 17 (body ++ t) ≡ p ∷ q ∷ n
  front17 = ap (take 17) body_is ∙ ap (λ (u : List ℕ). p ∷ q ∷ u) (take_at n (x ∷ c ∷ z ∷ l ++ (y ++ t)) 15 hn)

  at18 : part (body ++ t) 18 2 ≡ c ∷ z ∷ []
  at18 = ap (λ (u : List ℕ). part u 18 2) body_is ∙ ap (take 2) (drop_past 15 1 n (x ∷ c ∷ z ∷ l ++ (y ++ t)) hn)

  from28 : (m : ℕ) → length y ≡ m → part (body ++ t) 28 m ≡ y
  from28 m hy =
      ap (λ (u : List ℕ). part u 28 m) body_is
      ∙ ap (take m) (drop_past 15 11 n (x ∷ c ∷ z ∷ l ++ (y ++ t)) hn ∙ drop_past 8 0 l (y ++ t) hl)
      ∙ take_at y t m hy

-- byte 19, and the first 17
row-operator : (fm : ℕ) (s : Subscriber) → get_or (row_bytes fm s) 19 0 ≡ s.operator
unfolding row_bytes head_bytes sealed
row-operator fm s =
    get_or-append (head_bytes s) (places_bytes fm s.accesses places) 0 19 (rw length-head (omega arith))
    ∙ ap (λ (u : List ℕ). get_or u 19 0) (body_is 1 (length s.name) (used_bits (line s.accesses)) (length s.entries) s.operator (filled s.name 15) (filled (line s.accesses) 8)
    (zeros 4 ++ (filled (entries_bytes s.entries) 416 ++ zeros 62)) _ (length-filled _ 15) (length-filled _ 8))
    ∙ get_or_past 15 2 (filled s.name 15) _ (length-filled _ 15)

row-front : (fm : ℕ) (s : Subscriber) → take 17 (row_bytes fm s) ≡ 1 ∷ length s.name ∷ filled s.name 15
unfolding row_bytes head_bytes sealed
row-front fm s =
    take-append-le 17 (head_bytes s) (places_bytes fm s.accesses places) (rw length-head (omega arith))
    ∙ front17 1 (length s.name) (used_bits (line s.accesses)) (length s.entries) s.operator (filled s.name 15) (filled (line s.accesses) 8)
    (zeros 4 ++ (filled (entries_bytes s.entries) 416 ++ zeros 62)) _ (length-filled _ 15) (length-filled _ 8)

-- what a row is found by says whose it is
pub row-account : (fm : ℕ) (s : Subscriber) → found_by (row_bytes fm s) ≡ s.operator ∷ 1 ∷ length s.name ∷ filled s.name 15
unfolding found_by
row-account fm s = rw (row-operator fm s, row-front fm s)

-- byte 17
pub row-bits : (fm : ℕ) (s : Subscriber) → get_or (row_bytes fm s) 17 0 ≡ used_bits (line s.accesses)
unfolding row_bytes head_bytes sealed
row-bits fm s =
    get_or-append (head_bytes s) (places_bytes fm s.accesses places) 0 17 (rw length-head (omega arith))
    ∙ ap (λ (u : List ℕ). get_or u 17 0) (body_is 1 (length s.name) (used_bits (line s.accesses)) (length s.entries) s.operator (filled s.name 15) (filled (line s.accesses) 8)
    (zeros 4 ++ (filled (entries_bytes s.entries) 416 ++ zeros 62)) _ (length-filled _ 15) (length-filled _ 8))
    ∙ get_or_past 15 0 (filled s.name 15) _ (length-filled _ 15)

-- in a sound row the complement of byte 17 leads to the lowest free place, and its ones are the accesses
pub free-byte : (r : List ℕ) → sound r ≡ true → length (read_row r).accesses < 8 → lowest_free (read_row r).accesses ≡ 1 + count_trailing_zeros 8 (255 - get_or r 17 0)
free-byte r h lt =
    let q : get_or r 17 0 ≡ used_bits (line (read_row r).accesses) = ap (λ (u : List ℕ). get_or u 17 0) (row_is r h) ∙ row-bits (form_of r) (read_row r) in
    rw q (lowest-free (read_row r).accesses (some-vacant (read_row r).accesses lt))

pub ones-byte : (r : List ℕ) → sound r ≡ true → ones (get_or r 17 0) ≡ length (read_row r).accesses
ones-byte r h =
    let q : get_or r 17 0 ≡ used_bits (line (read_row r).accesses) = ap (λ (u : List ℕ). get_or u 17 0) (row_is r h) ∙ row-bits (form_of r) (read_row r) in
    rw q (ones-accesses (form_of r) _ _ (says-good r h).accesses-good.each (says-good r h).accesses-good.places-once)

-- block 0 with another line: bytes 17 and 20 to 27, and the sums
pub head-line : (s : Subscriber) (a : List Access)
    → head_bytes (with_accesses a s)
    ≡ sealed (take 17 (head_bytes s) ++ (used_bits (line a) ∷ part (head_bytes s) 18 2 ++ (filled (line a) 8 ++ part (head_bytes s) 28 482)))
unfolding head_bytes sealed
head-line s a =
    let n : List ℕ = filled s.name 15 in
    let l : List ℕ = filled (line s.accesses) 8 in
    let y : List ℕ = zeros 4 ++ (filled (entries_bytes s.entries) 416 ++ zeros 62) in
    let b : List ℕ = body 1 (length s.name) (used_bits (line s.accesses)) (length s.entries) s.operator n l y [] (length-filled _ 15) (length-filled _ 8) in
    let t : List ℕ = sums_from 0 0 b in
    let ly : length y ≡ 482 = simp (length-append, length-filled, length-zeros) in
    let e1 : take 17 (head_bytes s) ≡ 1 ∷ length s.name ∷ n = front17 1 (length s.name) (used_bits (line s.accesses)) (length s.entries) s.operator n l y t (length-filled _ 15) (length-filled _ 8) in
    let e2 : part (head_bytes s) 18 2 ≡ length s.entries ∷ s.operator ∷ [] = at18 1 (length s.name) (used_bits (line s.accesses)) (length s.entries) s.operator n l y t (length-filled _ 15) (length-filled _ 8) in
    let e3 : part (head_bytes s) 28 482 ≡ y = from28 1 (length s.name) (used_bits (line s.accesses)) (length s.entries) s.operator n l y t (length-filled _ 15) (length-filled _ 8) 482 ly in
    sym (λ i. sealed (e1 i ++ (used_bits (line a) ∷ e2 i ++ (filled (line a) 8 ++ e3 i))))

-- a place with another policy: bytes 4 and 5, the third text, and the sums
module _ (p q u v w x y z : ℕ) (s h o e t : List ℕ) (hs : length s ≡ 128) (hh : length h ≡ 128) (ho : length o ≡ 128) (he : length e ≡ 118) where
  abbrev access-body : List ℕ
  access-body = p ∷ q ∷ u ∷ v ∷ w ∷ x ∷ y ∷ z ∷ s ++ (h ++ (o ++ e))

  access-is : access-body ++ t ≡ p ∷ q ∷ u ∷ v ∷ w ∷ x ∷ y ∷ z ∷ s ++ (h ++ (o ++ (e ++ t)))
  access-is = simp append_assoc

  middle : part (access-body ++ t) 6 258 ≡ y ∷ z ∷ s ++ h
  middle =
      ap (λ (i : List ℕ). part i 6 258) access-is
      ∙ ap (λ (i : List ℕ). y ∷ z ∷ i) (ap (take 256) (sym (append_assoc s h (o ++ (e ++ t)))) ∙ take_at (s ++ h) (o ++ (e ++ t)) 256 (rw (length-append, hs, hh)))

  realm-room : part (access-body ++ t) 5 131 ≡ x ∷ y ∷ z ∷ s
  realm-room =
      ap (λ (i : List ℕ). part i 5 131) access-is
      ∙ ap (λ (i : List ℕ). x ∷ y ∷ z ∷ i) (take_at s (h ++ (o ++ (e ++ t))) 128 hs)

  end118 : part (access-body ++ t) 392 118 ≡ e
  end118 =
      ap (λ (i : List ℕ). part i 392 118) access-is
      ∙ ap (take 118) (drop_past 128 256 s (h ++ (o ++ (e ++ t))) hs ∙ drop_past 128 128 h (o ++ (e ++ t)) hh ∙ drop_past 128 0 o (e ++ t) ho)
      ∙ take_at e t 118 he

-- the first block with another first policy
pub first-policy : (a : Access) (pol : Policies)
    → first_bytes (record { place = a.place; entry = a.entry; session = a.session; host = a.host; realm = a.realm; policies = pol })
    ≡ sealed (take 4 (first_bytes a) ++ (held pol.first ∷ length pol.first ∷ part (first_bytes a) 6 258 ++ (filled pol.first 128 ++ part (first_bytes a) 392 118)))
unfolding first_bytes sealed
first-policy a pol =
    let o : List ℕ = a.policies.first in
    let n : List ℕ = pol.first in
    let t : List ℕ = sums_from 0 0 (2 ∷ a.entry ∷ length a.session ∷ length a.host ∷ held o ∷ length o ∷ 0 ∷ 0
    ∷ filled a.session 128 ++ (filled a.host 128 ++ (filled o 128 ++ zeros 118))) in
    let m : part (first_bytes a) 6 258 ≡ 0 ∷ 0 ∷ filled a.session 128 ++ filled a.host 128 =
    middle 2 a.entry (length a.session) (length a.host) (held o) (length o) 0 0 (filled a.session 128) (filled a.host 128) (filled o 128) (zeros 118) t (length-filled _ 128) (length-filled _ 128) (length-filled _ 128) (length-zeros 118) in
    let e : part (first_bytes a) 392 118 ≡ zeros 118 =
    end118 2 a.entry (length a.session) (length a.host) (held o) (length o) 0 0 (filled a.session 128) (filled a.host 128) (filled o 128) (zeros 118) t (length-filled _ 128) (length-filled _ 128) (length-filled _ 128) (length-zeros 118) in
    let f : List ℕ → List ℕ = λ i. sealed (2 ∷ a.entry ∷ length a.session ∷ length a.host ∷ held n ∷ length n ∷ 0 ∷ 0 ∷ i) in
    ap f (sym (append_assoc (filled a.session 128) (filled a.host 128) (filled n 128 ++ zeros 118)))
    ∙ sym (λ i. sealed (2 ∷ a.entry ∷ length a.session ∷ length a.host ∷ held n ∷ length n ∷ m i ++ (filled n 128 ++ e i)))

-- the second block with another second and third
pub second-policies : (a : Access) (pol : Policies)
    → second_bytes (record { place = a.place; entry = a.entry; session = a.session; host = a.host; realm = a.realm; policies = pol })
    ≡ sealed (take 3 (second_bytes a) ++ (length pol.second ∷ length pol.third ∷ part (second_bytes a) 5 131 ++ (filled pol.second 128 ++ (filled pol.third 128 ++ part (second_bytes a) 392 118))))
unfolding second_bytes sealed
second-policies a pol =
    let u : List ℕ = a.policies.second in
    let v : List ℕ = a.policies.third in
    let x : List ℕ = pol.second in
    let y : List ℕ = pol.third in
    let t : List ℕ = sums_from 0 0 (3 ∷ length a.realm ∷ 0 ∷ length u ∷ length v ∷ 0 ∷ 0 ∷ 0
    ∷ filled a.realm 128 ++ (filled u 128 ++ (filled v 128 ++ zeros 118))) in
    let m : part (second_bytes a) 5 131 ≡ 0 ∷ 0 ∷ 0 ∷ filled a.realm 128 =
    realm-room 3 (length a.realm) 0 (length u) (length v) 0 0 0 (filled a.realm 128) (filled u 128) (filled v 128) (zeros 118) t (length-filled _ 128) (length-filled _ 128) (length-filled _ 128) (length-zeros 118) in
    let e : part (second_bytes a) 392 118 ≡ zeros 118 =
    end118 3 (length a.realm) 0 (length u) (length v) 0 0 0 (filled a.realm 128) (filled u 128) (filled v 128) (zeros 118) t (length-filled _ 128) (length-filled _ 128) (length-filled _ 128) (length-zeros 118) in
    sym (λ i. sealed (3 ∷ length a.realm ∷ 0 ∷ length x ∷ length y ∷ m i ++ (filled x 128 ++ (filled y 128 ++ e i))))

-- one entry more in the room of entries
entries-snoc : (es : List Entry) (e : Entry) → entries_bytes (es ++ (e ∷ [])) ≡ entries_bytes es ++ entry_bytes e
unfolding entries_bytes
entries-snoc [] e = append-nil (entry_bytes e)
entries-snoc (x ∷ es) e = rw (entries-snoc es e, append_assoc)

pub room-entry : (es : List Entry) (e : Entry) → length es < 4
    → filled (entries_bytes (es ++ (e ∷ []))) 416
    ≡ take (104 * length es) (filled (entries_bytes es) 416) ++ (entry_bytes e ++ drop (104 * length es + 104) (filled (entries_bytes es) 416))
room-entry es e h =
    let n : ℕ = 104 * length es in
    let le : length (entries_bytes es) ≡ n = length-entries es in
    let q : 416 ≡ n + (416 - n) = omega arith in
    let f : filled (entries_bytes es) 416 ≡ entries_bytes es ++ zeros (416 - n) =
    fill (entries_bytes es) 416 (omega arith) ∙ ap (λ (i : ℕ). entries_bytes es ++ take (416 - i) (zeros 416)) le ∙ ap (λ (i : List ℕ). entries_bytes es ++ i) (take-zeros (416 - n) 416 (omega arith)) in
    let l : length (entries_bytes es ++ entry_bytes e) ≡ n + 104 = length-append (entries_bytes es) (entry_bytes e) ∙ omega (arith, length-entry e) in
    let g : filled (entries_bytes es ++ entry_bytes e) 416 ≡ (entries_bytes es ++ entry_bytes e) ++ zeros (416 - (n + 104)) =
    fill (entries_bytes es ++ entry_bytes e) 416 (omega arith) ∙ ap (λ (i : ℕ). (entries_bytes es ++ entry_bytes e) ++ take (416 - i) (zeros 416)) l
    ∙ ap (λ (i : List ℕ). (entries_bytes es ++ entry_bytes e) ++ i) (take-zeros (416 - (n + 104)) 416 (omega arith)) in
    let d : drop 104 (zeros (416 - n)) ≡ zeros (416 - (n + 104)) = drop-zeros 104 (416 - n) ∙ ap zeros (omega arith) in
    rw (entries-snoc es e, g, f, take_at (entries_bytes es) (zeros (416 - n)) n le, drop_past n 104 (entries_bytes es) (zeros (416 - n)) le, d, append_assoc)

pub keep-map : {A B : Type 0} (f : A → B) (p : B → Bool) (l : List A) → keep p (map f l) ≡ map f (keep (λ x. p (f x)) l)
unfolding keep pick
keep-map f p [] = refl
keep-map f p (x ∷ l) = by-test (p (f x)) (λ e. rw (e, keep-map f p l)) (λ e. rw (e, keep-map f p l))
