-- What a change writes: the block of one place, and block 0.
use mathlib.Core.Path.{◌≡◌, refl, sym, ap, ◌∙◌}
use mathlib.Core.Bool.{true, not}
use mathlib.Core.List.{List, [], ◌∷◌, ◌++◌, map, append_assoc}
use Prim.Native.Nat.{ℕ, zero, suc, ◌+◌, ◌-◌, ◌*◌, ◌<◌}
use native.Mathlib.Omega.{arith}
use borrow.Author.Tests.{eqb-true, eq-eqb, ne_eqb, not-true}
use lib.Dec.{eqb}
use lib.ListN.{length, take, drop}
use lib.Seq.{drop_at}
use Rattle.octets.specs.Choice.{pick, within}
use Rattle.octets.specs.Lists.{counted, every, keep}
use Rattle.octets.specs.Texts.{zeros}
use Rattle.table.specs.TheTable.{block_length, Access, Policies, Subscriber, access_bytes, head_bytes, place_bytes, place_length, place_start, places, places_bytes, row_bytes}
use Rattle.changes.proofs.Stays.{free-place, hold-place, line-hold}
use Rattle.changes.specs.Changes.{Opening, freed, hold, leave, lowest_free, new_access, opened, routed, vacant, with_accesses}
use Rattle.octets.proofs.Lists.{and_left, and_right, by-test, within-high, within_low}
use Rattle.table.proofs.Bytes.{length-head, length-place}
use Rattle.octets.proofs.Pieces.{drop_past, take_past}

-- the i-th piece of w bytes replaced, and block 0
abbrev pub put_piece : (w : ℕ) → List ℕ → ℕ → List ℕ → List ℕ
put_piece w r i b = take (w * i) r ++ (b ++ drop (w * i + w) r)

abbrev pub put_head : List ℕ → List ℕ → List ℕ
put_head r b = b ++ drop block_length r

-- place k of a row of the form replaced
abbrev pub put_place : (form : ℕ) → List ℕ → ℕ → List ℕ → List ℕ
put_place fm r k b = take (place_start fm k) r ++ (b ++ drop (place_start fm k + place_length fm) r)

-- two states that agree on every place but k
module _ (fm : ℕ) (a c : List Access) (k : ℕ) (others : (j : ℕ) → (j ≡ k → ⊥) → place_bytes fm c j ≡ place_bytes fm a j) where
  past : (b n : ℕ) → k < b → places_bytes fm c (counted b n) ≡ places_bytes fm a (counted b n)
  unfolding places_bytes counted
  past b zero h = refl
  past b (suc n) h = rw (others b (omega arith), past (suc b) n (omega arith))

  put-places : (b n i : ℕ) → b + i ≡ k → i < n → places_bytes fm c (counted b n) ≡ put_piece (place_length fm) (places_bytes fm a (counted b n)) i (place_bytes fm c k)
  unfolding places_bytes counted
  put-places b zero i e h = absurd (omega arith)
  put-places b (suc n) zero e h =
      let q : b ≡ k = omega arith in
      let z : block_length * fm * 0 ≡ 0 = omega arith in
      let y : 0 + block_length * fm ≡ block_length * fm = omega arith in
      let d : drop (block_length * fm) (place_bytes fm a b ++ places_bytes fm a (counted (suc b) n)) ≡ places_bytes fm a (counted (suc b) n) =
      drop_at (place_bytes fm a b) (places_bytes fm a (counted (suc b) n)) (block_length * fm) (length-place fm a b) in
      rw (z, y, d, past (suc b) n (omega arith), q)
  put-places b (suc n) (suc i) e h =
      let w : ℕ = block_length * fm in
      let r : places_bytes fm c (counted (suc b) n) ≡ put_piece (block_length * fm) (places_bytes fm a (counted (suc b) n)) i (place_bytes fm c k) = put-places (suc b) n i (omega arith) (omega arith) in
      let q : block_length * fm * suc i ≡ block_length * fm + block_length * fm * i = omega arith in
      let p : block_length * fm + block_length * fm * i + block_length * fm ≡ block_length * fm + (block_length * fm * i + block_length * fm) = omega arith in
      rw (q, p, take_past (block_length * fm) (block_length * fm * i) (place_bytes fm a b) _ (length-place fm a b), drop_past (block_length * fm) (block_length * fm * i + block_length * fm) (place_bytes fm a b) _ (length-place fm a b), others b (omega arith), r, append_assoc)

-- the row's bytes, from those before
module _ (fm : ℕ) (s : Subscriber) (c : List Access) (k : ℕ) (others : (j : ℕ) → (j ≡ k → ⊥) → place_bytes fm c j ≡ place_bytes fm s.accesses j) where
  pub put-row : within 1 8 k ≡ true → row_bytes fm (with_accesses c s) ≡ put_head (put_place fm (row_bytes fm s) k (place_bytes fm c k)) (head_bytes (with_accesses c s))
  unfolding row_bytes places
  put-row v =
      let i : ℕ = k - 1 in
      let m : places_bytes fm c (counted 1 8) ≡ put_piece (place_length fm) (places_bytes fm s.accesses (counted 1 8)) (k - 1) (place_bytes fm c k) =
      put-places fm s.accesses c k others 1 8 (k - 1) (omega (arith, within_low 1 8 k v)) (omega (arith, within-high 1 8 k v, within_low 1 8 k v)) in
      let p : block_length + block_length * fm * (k - 1) + block_length * fm ≡ block_length + (block_length * fm * (k - 1) + block_length * fm) = omega arith in
      rw (p, take_past block_length (block_length * fm * (k - 1)) (head_bytes s) _ (length-head s), drop_past block_length (block_length * fm * (k - 1) + block_length * fm) (head_bytes s) _ (length-head s), append_assoc)
      (rw (drop_at (head_bytes s) (put_piece (place_length fm) (places_bytes fm s.accesses (counted 1 8)) (k - 1) (place_bytes fm c k)) block_length (length-head s), m))

-- the place that leaves

leave-other : (fm : ℕ) (k : ℕ) (a : List Access) (j : ℕ) → (j ≡ k → ⊥) → place_bytes fm (leave k a) j ≡ place_bytes fm a j
unfolding place_bytes leave keep pick
leave-other fm k [] j h = refl
leave-other fm k (x ∷ a) j h =
    by-test (eqb x.place k)
    (λ e. rw (e, ne_eqb x.place j (omega (arith, eqb-true x.place k e))) (leave-other fm k a j h))
    (λ e. rw (e, leave-other fm k a j h))

leave_own : (fm : ℕ) (k : ℕ) (a : List Access) → place_bytes fm (leave k a) k ≡ zeros (place_length fm)
unfolding place_bytes leave keep pick
leave_own fm k [] = refl
leave_own fm k (x ∷ a) = by-test (eqb x.place k) (λ e. rw e (leave_own fm k a)) (λ e. rw (e, e) (leave_own fm k a))

pub freed-puts : (fm : ℕ) (k : ℕ) (s : Subscriber) → within 1 8 k ≡ true
    → row_bytes fm (freed k s) ≡ put_head (put_place fm (row_bytes fm s) k (zeros (place_length fm))) (head_bytes (freed k s))
unfolding freed
freed-puts fm k s w = rw (← leave_own fm k s.accesses) (put-row fm s (leave k s.accesses) k (leave-other fm k s.accesses) w)

-- the place that is taken

snoc-other : (fm : ℕ) (a : List Access) (y : Access) (j : ℕ) → (j ≡ y.place → ⊥) → place_bytes fm (a ++ (y ∷ [])) j ≡ place_bytes fm a j
unfolding place_bytes pick
snoc-other fm [] y j h = rw (ne_eqb y.place j (λ e. h (sym e)))
snoc-other fm (x ∷ a) y j h = rw (snoc-other fm a y j h)

snoc-own : (fm : ℕ) (a : List Access) (y : Access) → vacant a y.place ≡ true → place_bytes fm (a ++ (y ∷ [])) y.place ≡ access_bytes fm y
unfolding place_bytes vacant every pick
snoc-own fm [] y v = rw (eq-eqb y.place y.place refl)
snoc-own fm (x ∷ a) y v =
    rw (not-true (eqb x.place y.place) (and_left (not (eqb x.place y.place)) _ v)) (snoc-own fm a y (and_right (not (eqb x.place y.place)) _ v))

pub opened-puts : (fm n : ℕ) (o : Opening) (s : Subscriber) → length s.accesses < 8
    → row_bytes fm (opened n o s)
    ≡ put_head (put_place fm (row_bytes fm s) (lowest_free s.accesses) (access_bytes fm (new_access s.accesses n o))) (head_bytes (opened n o s))
unfolding opened new_access
opened-puts fm n o s h =
    let y : Access = new_access s.accesses n o in
    let p : (vacant s.accesses (lowest_free s.accesses) ≡ true) × (within 1 8 (lowest_free s.accesses) ≡ true) = free-place s.accesses h in
    rw (← snoc-own fm s.accesses y p.0) (put-row fm s (s.accesses ++ (y ∷ [])) (lowest_free s.accesses) (snoc-other fm s.accesses y) p.1)

-- the place whose policy is replaced

hold-other : (fm : ℕ) (k : ℕ) (pol : Policies) (a : List Access) (j : ℕ) → (j ≡ k → ⊥) → place_bytes fm (map (hold k pol) a) j ≡ place_bytes fm a j
unfolding place_bytes hold pick
hold-other fm k pol [] j h = refl
hold-other fm k pol (x ∷ a) j h =
    by-test (eqb x.place k)
    (λ e. rw (e, ne_eqb x.place j (omega (arith, eqb-true x.place k e))) (hold-other fm k pol a j h))
    (λ e. rw (e, hold-other fm k pol a j h))

abbrev pub on_place : ℕ → List Access → List Access
on_place k a = keep (λ (x : Access). eqb x.place k) a

hold-own : (fm : ℕ) (k : ℕ) (pol : Policies) (a : List Access) (x : Access) (r : List Access) → on_place k a ≡ x ∷ r → place_bytes fm (map (hold k pol) a) k ≡ access_bytes fm (hold k pol x)
unfolding place_bytes keep pick
hold-own fm k pol [] x r h = let z : ◌≡◌ {A = ℕ} 0 1 = cc in absurd (omega arith)
hold-own fm k pol (y ∷ a) x r h =
    let t : eqb (hold k pol y).place k ≡ eqb y.place k = ap (λ (z : ℕ). eqb z k) (hold-place k pol y) in
    by-test (eqb y.place k)
    (λ e. let q : y ∷ on_place k a ≡ x ∷ r = rw e at h in
    let p : y ≡ x = cc in
    rw (t ∙ e) (ap (λ (z : Access). access_bytes fm (hold k pol z)) p))
    (λ e. rw (t ∙ e) (hold-own fm k pol a x r (rw e at h)))

head-hold : (k : ℕ) (pol : Policies) (s : Subscriber) → head_bytes (with_accesses (map (hold k pol) s.accesses) s) ≡ head_bytes s
unfolding head_bytes
head-hold k pol s = rw (line-hold k pol s.accesses)

pub routed-puts : (fm : ℕ) (k : ℕ) (pol : Policies) (s : Subscriber) (x : Access) (r : List Access) → within 1 8 k ≡ true → on_place k s.accesses ≡ x ∷ r
    → row_bytes fm (routed k pol s) ≡ put_head (put_place fm (row_bytes fm s) k (access_bytes fm (hold k pol x))) (head_bytes s)
unfolding routed
routed-puts fm k pol s x r w h =
    let same_head : head_bytes (with_accesses (map (hold k pol) s.accesses) s) ≡ head_bytes s = head-hold k pol s in
    rw (← hold-own fm k pol s.accesses x r h, ← same_head) (put-row fm s (map (hold k pol) s.accesses) k (hold-other fm k pol s.accesses) w)
