-- Parts of a list, and a list cut into pieces of one width.
use mathlib.Core.Path.{◌≡◌, refl, sym, ap, ◌∙◌}
use mathlib.Core.List.{List, [], ◌∷◌, ◌++◌, append_assoc}
use Prim.Native.Nat.{ℕ, zero, suc, ◌+◌, ◌-◌, ◌*◌, ◌≤◌, ◌<◌}
use native.Mathlib.Nat.{mul-suc, mul-zero, add_comm, add_assoc, zero-add, not-suc-le-zero, le_of_suc-le-suc}
use native.Mathlib.Omega.{arith}
use borrow.Author.Tests.{ltb-true, ltb-false}
use lib.Dec.{ltb}
use lib.ListN.{length, get_or, take, drop, set, length-append, length-drop, take-append-drop}
use lib.Seq.{take-append-add, take_at, drop_at, take-take, length-take-le, drop-drop, take-add, get_or-append-add, drop-append-add}
use Rattle.octets.specs.Texts.{part, pieces, put, zeros}
use Rattle.octets.proofs.Lists.{by-test}
use Rattle.octets.proofs.Texts.{length_part, length-put, put-there}

-- BEHIND A FIRST PART OF LENGTH n

pub drop_past : (n m : ℕ) (a b : List ℕ) → length a ≡ n → drop (n + m) (a ++ b) ≡ drop m b
drop_past n m a b h = rw (← h) (drop-append-add a b m)

pub get_or_past : (n m : ℕ) (a b : List ℕ) → length a ≡ n → get_or (a ++ b) (n + m) 0 ≡ get_or b m 0
get_or_past n m a b h = rw (← h) (get_or-append-add a b m 0)

pub take_past : (n m : ℕ) (a b : List ℕ) → length a ≡ n → take (n + m) (a ++ b) ≡ a ++ take m b
take_past n m a b h = rw (← h) (take-append-add a b m)

-- PARTS OF PARTS, AND OF ZEROS

pub part-take : (m i n : ℕ) (b : List ℕ) → i + n ≤ m → part (take m b) i n ≡ part b i n
part-take m zero n b h = take-take n m b (omega arith)
part-take zero (suc i) n b h = absurd (omega arith)
part-take (suc m) (suc i) n [] h = refl
part-take (suc m) (suc i) n (x ∷ b) h = part-take m i n b (omega arith)

pub drop-take : (i n m : ℕ) (b : List ℕ) → i + n ≡ m → drop i (take m b) ≡ part b i n
drop-take zero n m b h = let q : m ≡ n = omega arith in rw q
drop-take (suc i) n zero b h = absurd (omega arith)
drop-take (suc i) n (suc m) [] h = sym (lib.Seq.take-nil n)
drop-take (suc i) n (suc m) (x ∷ b) h = drop-take i n m b (omega arith)

pub take-zeros : (j m : ℕ) → j ≤ m → take j (zeros m) ≡ zeros j
unfolding zeros
take-zeros zero m h = refl
take-zeros (suc j) zero h = absurd (omega arith)
take-zeros (suc j) (suc m) h = ap (λ (t : List ℕ). 0 ∷ t) (take-zeros j m (omega arith))

pub drop-zeros : (i n : ℕ) → drop i (zeros n) ≡ zeros (n - i)
unfolding zeros
drop-zeros zero n = let q : n - 0 ≡ n = omega arith in rw q
drop-zeros (suc i) zero = let q : 0 - suc i ≡ 0 = omega arith in rw q
drop-zeros (suc i) (suc n) = let q : suc n - suc i ≡ n - i = omega arith in rw q (drop-zeros i n)

-- WHAT A WRITE LEAVES: what stands before it, and what stands behind it

module _ (room : List ℕ) (a : ℕ) (s : List ℕ) (b n : ℕ) (inside : a ≤ length room) where
  pub put-before : b + n ≤ a → part (put room a s) b n ≡ part room b n
  unfolding put
  put-before h =
      let e : length (take a room) ≡ a = length-take-le a room inside in
      sym (part-take a b n (take a room ++ (s ++ drop (a + length s) room)) h)
      ∙ ap (λ (u : List ℕ). part u b n) (take_at (take a room) (s ++ drop (a + length s) room) a e)
      ∙ part-take a b n room h

  pub put-behind : a + length s ≤ b → part (put room a s) b n ≡ part room b n
  unfolding put
  put-behind h =
      let e : length (take a room) ≡ a = length-take-le a room inside in
      let d : ℕ = b - (a + length s) in
      let q : b ≡ a + (length s + d) = omega arith in
      let p : a + length s + d ≡ b = omega arith in
      ap (λ (k : ℕ). take n (drop k (take a room ++ (s ++ drop (a + length s) room)))) q
      ∙ ap (take n) (drop_past a (length s + d) (take a room) (s ++ drop (a + length s) room) e
      ∙ drop_past (length s) d s (drop (a + length s) room) refl ∙ drop-drop d (a + length s) room)
      ∙ ap (λ (k : ℕ). take n (drop k room)) p

-- PIECES OF ONE WIDTH

-- pieces put together again
unfoldable pub joined : List (List ℕ) → List ℕ
joined [] = []
joined (r ∷ rs) = r ++ joined rs

module _ (w : ℕ) where
  -- one piece more
  pub one_more : (i : ℕ) → w * suc i ≡ w + w * i
  one_more i = mul-suc w i ∙ add_comm (w * i) w

  less : (n : ℕ) (t : List ℕ) → length t ≡ w * suc n → length (drop w t) ≡ w * n
  less n t h = rw length-drop (omega (arith, one_more n))

  -- piece i ends where the next begins, and within n pieces if it is one of them
  pub next-begins : (i : ℕ) → w * (i + 1) ≡ w * i + w
  next-begins i = let q : i + 1 ≡ suc i = omega arith in rw (q, one_more i) (add_comm w (w * i))

  pub piece-ends : (i n : ℕ) → i < n → w * i + w ≤ w * n
  piece-ends i zero h = absurd (not-suc-le-zero h)
  piece-ends zero (suc n) h = omega (arith, mul-zero w, one_more n)
  piece-ends (suc i) (suc n) h = omega (arith, one_more i, one_more n, piece-ends i n (le_of_suc-le-suc h))

  pub length-pieces : (n : ℕ) (t : List ℕ) → length (pieces w n t) ≡ n
  unfolding pieces
  length-pieces zero t = refl
  length-pieces (suc n) t = ap suc (length-pieces n (drop w t))

  pub join-pieces : (n : ℕ) (t : List ℕ) → length t ≡ w * n → joined (pieces w n t) ≡ t
  unfolding joined pieces
  join-pieces zero [] h = refl
  join-pieces zero (x ∷ t) h = let z : ⊥ = omega (arith, mul-zero w) in absurd z
  join-pieces (suc n) t h = rw (join-pieces n (drop w t) (less n t h)) (take-append-drop w t)

  pub pieces-at : (n : ℕ) (t : List ℕ) (i : ℕ) → i < n → get_or (pieces w n t) i [] ≡ part t (w * i) w
  unfolding pieces
  pieces-at zero t i h = absurd (not-suc-le-zero h)
  pieces-at (suc n) t zero h = rw mul-zero
  pieces-at (suc n) t (suc i) h = pieces-at n (drop w t) i (le_of_suc-le-suc h) ∙ rw (one_more i, drop-drop)

  -- another piece in place of piece i
  unfoldable over : List ℕ → ℕ → List ℕ → List ℕ
  over t i r = take (w * i) t ++ (r ++ drop (w * i + w) t)

  over_zero : (t r : List ℕ) → over t 0 r ≡ r ++ drop w t
  unfolding over
  over_zero t r = rw (mul-zero, zero-add)

  over-suc : (t : List ℕ) (i : ℕ) (r : List ℕ) → over t (suc i) r ≡ take w t ++ over (drop w t) i r
  unfolding over
  over-suc t i r = rw (one_more i, take-add, append_assoc, drop-drop, add_assoc)

  over-piece : (n : ℕ) (t : List ℕ) (i : ℕ) (r : List ℕ) → length t ≡ w * n → length r ≡ w → i < n → pieces w n (over t i r) ≡ set (pieces w n t) i r
  unfolding pieces
  over-piece zero t i r ht hr h = absurd (not-suc-le-zero h)
  over-piece (suc n) t zero r ht hr h = rw (over_zero t r, take_at r (drop w t) w hr, drop_at r (drop w t) w hr)
  over-piece (suc n) t (suc i) r ht hr h =
      let e : length (take w t) ≡ w = length-take-le w t (omega (arith, one_more n)) in
      rw (
        over-suc t i r,
        take_at (take w t) (over (drop w t) i r) w e,
        drop_at (take w t) (over (drop w t) i r) w e,
        over-piece n (drop w t) i r (less n t ht) hr (le_of_suc-le-suc h),
      )

  module _ (n : ℕ) (t : List ℕ) (size : length t ≡ w * n) (i : ℕ) (there : i < n) where
    ends : w * i + w ≤ length t
    ends = rw size (piece-ends i n there)

    pub length-piece : length (part t (w * i) w) ≡ w
    length-piece = length_part t (w * i) w ends

    module _ (r : List ℕ) (full : length r ≡ w) where
      pub length-with : length (put t (w * i) r) ≡ length t
      length-with = length-put t (w * i) r (rw full ends)

      pub pieces-with : pieces w n (put t (w * i) r) ≡ set (pieces w n t) i r
      unfolding put over
      pieces-with = rw full (over-piece n t i r size full there)

      -- the piece that was written, and the others
      pub piece-with : part (put t (w * i) r) (w * i) w ≡ r
      piece-with = put-there t (w * i) r w full ends

      pub piece-other : (j : ℕ) → (j ≡ i → ⊥) → part (put t (w * i) r) (w * j) w ≡ part t (w * j) w
      piece-other j ne =
          by-test (ltb j i)
          (λ e. put-before t (w * i) r (w * j) w (omega (arith, ends)) (piece-ends j i (ltb-true j i e)))
          (λ e. put-behind t (w * i) r (w * j) w (omega (arith, ends))
          (let b : w * i + w ≤ w * j = piece-ends i j (omega (arith, ltb-false j i e)) in rw full b))

    -- a piece that stays
    pub with-same : put t (w * i) (part t (w * i) w) ≡ t
    unfolding put
    with-same =
        rw (length-piece, ← drop-drop w (w * i) t, take-append-drop w (drop (w * i) t)) (take-append-drop (w * i) t)
