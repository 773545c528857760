-- The entries of block 0, one by one along their room.
use mathlib.Core.Path.{◌≡◌, refl, ap, ◌∙◌}
use mathlib.Core.Bool.{true, ◌&&◌}
use mathlib.Core.List.{List, [], ◌∷◌, map}
use Prim.Native.Nat.{ℕ, zero, suc, ◌+◌, ◌-◌, ◌*◌, ◌≤◌, ◌<◌}
use native.Mathlib.Omega.{arith}
use native.Mathlib.Numerals.{add-one}
use lib.ListN.{length, get_or, take, drop, length-map, drop_of_length-le}
use lib.Seq.{drop-cons, drop-drop, get_or-drop, get_or-take}
use Rattle.octets.specs.Choice.{within}
use Rattle.octets.specs.Lists.{sum_of}
use Rattle.octets.specs.Texts.{part, all_zero}
use Rattle.octets.proofs.Lists.{and_left, and_right, within-high}
use Rattle.table.proofs.Form.{length-read}
use Rattle.table.specs.Soundness.{entries_form, entry_form, labels, limits}
use Rattle.table.specs.TheTable.{Entry, read_entries, read_entry}

-- entry i and those behind it
next-entry : (i : ℕ) → 104 * i + 104 ≡ 104 * (i + 1)
next-entry i = omega arith

pub entries-turn : (n i : ℕ) (t : List ℕ) → i < n
    → entries_form (n - i) (drop (104 * i) t) ≡ entry_form (part t (104 * i) 104) && entries_form (n - (i + 1)) (drop (104 * (i + 1)) t)
unfolding entries_form
entries-turn n i t h =
    let q : n - i ≡ suc (n - (i + 1)) = omega arith in
    rw (q, drop-drop 104 (104 * i) t, next-entry i)

pub entries-end : (n i : ℕ) (t : List ℕ) → n ≤ i → entries_form (n - i) t ≡ all_zero t
unfolding entries_form
entries-end n i t h = let q : n - i ≡ 0 = omega arith in rw q

pub entries-all : (n : ℕ) (t : List ℕ) → entries_form (n - 0) t ≡ entries_form n t
entries-all n t = let q : n - 0 ≡ n = omega arith in rw q

-- what entry i says

pub entry-at : (n i : ℕ) (t : List ℕ) (d : Entry) → i < n → get_or (read_entries n t) i d ≡ read_entry (part t (104 * i) 104)
unfolding read_entries
entry-at zero i t d h = absurd (omega arith)
entry-at (suc n) zero t d h = refl
entry-at (suc n) (suc i) t d h =
    let p : 104 + 104 * i ≡ 104 * suc i = omega arith in
    entry-at n i (drop 104 t) d (omega arith) ∙ ap (λ (s : List ℕ). read_entry (take 104 s)) (drop-drop (104 * i) 104 t ∙ ap (λ (k : ℕ). drop k t) p)

pub map_at : {A B : Type 0} (f : A → B) (a : A) (b : B) (l : List A) (i : ℕ) → i < length l → get_or (map f l) i b ≡ f (get_or l i a)
map_at f a b [] i h = absurd (omega arith)
map_at f a b (x ∷ l) zero h = refl
map_at f a b (x ∷ l) (suc i) h = map_at f a b l i (omega arith)

of_entry : {A : Type 0} (f : Entry → A) (b : A) (n i : ℕ) (t : List ℕ) → i < n → get_or (map f (read_entries n t)) i b ≡ f (read_entry (part t (104 * i) 104))
of_entry f b n i t h =
    let none : Entry = record { label = []; flags = 0; limit = 0 } in
    map_at f none b (read_entries n t) i (rw (length-read n t) h) ∙ ap f (entry-at n i t none h)

pub limits-at : (n i : ℕ) (t : List ℕ) → i < n → get_or (limits (read_entries n t)) i 0 ≡ (read_entry (part t (104 * i) 104)).limit
unfolding limits
limits-at n i t h = of_entry (λ (e : Entry). e.limit) 0 n i t h

pub labels_at : (n i : ℕ) (t : List ℕ) → i < n → get_or (labels (read_entries n t)) i [] ≡ (read_entry (part t (104 * i) 104)).label
unfolding labels
labels_at n i t h = of_entry (λ (e : Entry). e.label) [] n i t h

pub length-limits-read : (n : ℕ) (t : List ℕ) → length (limits (read_entries n t)) ≡ n
unfolding limits
length-limits-read n t = simp (length-map, length-read)

pub length-labels : (n : ℕ) (t : List ℕ) → length (labels (read_entries n t)) ≡ n
unfolding labels
length-labels n t = simp (length-map, length-read)

-- where the entries have their form
pub label-size : (n i : ℕ) (t : List ℕ) → i < n → entries_form n t ≡ true → get_or t (104 * i) 0 ≤ 100
unfolding entries_form entry_form
label-size zero i t h f = absurd (omega arith)
label-size (suc n) zero t h f =
    let w : within 1 100 (get_or (take 104 t) 0 0) ≡ true = and_left (within 1 100 (get_or (take 104 t) 0 0)) _ (and_left (entry_form (take 104 t)) _ f) in
    omega (arith, within-high 1 100 _ w, get_or-take 104 t 0 0 (omega arith))
label-size (suc n) (suc i) t h f =
    let r : get_or (drop 104 t) (104 * i) 0 ≤ 100 = label-size n i (drop 104 t) (omega arith) (and_right (entry_form (take 104 t)) _ f) in
    let q : 104 + 104 * i ≡ 104 * suc i = omega arith in
    omega (arith, get_or-drop 104 t (104 * i) 0, ap (λ (k : ℕ). get_or t k 0) q)

-- sums of a list from element i on
pub sum-turn : (xs : List ℕ) (i : ℕ) → i < length xs → sum_of (drop i xs) ≡ get_or xs i 0 + sum_of (drop (i + 1) xs)
unfolding sum_of
sum-turn xs i h = rw (drop-cons xs i 0 h, add-one)

pub sum-end : (xs : List ℕ) (i : ℕ) → length xs ≤ i → sum_of (drop i xs) ≡ 0
unfolding sum_of
sum-end xs i h = rw (drop_of_length-le xs h)
