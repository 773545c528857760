-- Block 0 and the places as code writes them: a few stores into the bytes that stood there, then the sums.
use mathlib.Core.Path.{◌≡◌, refl, sym, ap, ◌∙◌}
use mathlib.Core.Bool.{Bool, true, false, not}
use mathlib.Core.List.{List, [], ◌∷◌, ◌++◌, map, append_assoc, append-nil}
use Prim.Native.Nat.{ℕ, zero, suc, ◌+◌, ◌-◌, ◌*◌, ◌≤◌, ◌<◌, ◌^◌, ◌%◌}
use native.Mathlib.Omega.{arith}
use native.Mathlib.Numerals.{add-one}
use native.Mathlib.Nat.{pow-suc, add_assoc, zero-add, suc-add, one-mul, mod-eq_of_lt}
use borrow.Author.Tests.{eqb-true, eqb-false, eq-eqb, ne_eqb}
use lib.Dec.{eqb}
use lib.ListN.{length, take, drop, get_or, set, length-append, length-set, drop_of_length-le, take-append-drop}
use lib.Seq.{take_at, drop_at, set_at, set_split, set-append_seam, drop-cons, drop-drop, take-suc, length-take-le, take-append-le, drop-append-le, set-append_left, take_all}
use lib.Pow.{pow-lt}
use Rattle.octets.specs.Choice.{pick}
use Rattle.octets.specs.Lists.{counted, every, is_on, keep}
use Rattle.octets.specs.Texts.{filled, part, put, zeros}
use Rattle.table.specs.TheTable.{block_length, Entry, entry_bytes, first_bytes, from_bits, held, places, sealed, second_bytes, sums, used_bits}
use Rattle.changes.specs.Changes.{no_policies}
use Rattle.changes.specs.Writes.{closed_up, entries_with, fresh, head_with, others_with, policy_with}
use Rattle.octets.proofs.Lists.{by-test, keep_snoc, kept}
use Rattle.octets.proofs.Texts.{length-filled, length_part, length-put, length-zeros}
use Rattle.table.proofs.Bytes.{fill, length-entry}
use Rattle.octets.proofs.Pieces.{drop_past, drop-zeros, take_past, take-zeros}

pub put-past : (n m : ℕ) (a b s : List ℕ) → length a ≡ n → put (a ++ b) (n + m) s ≡ a ++ put b m s
unfolding put
put-past n m a b s h =
    rw (take_past n m a b h, add_assoc n m (length s), drop_past n (m + length s) a b h, append_assoc)

pub put-at : (n : ℕ) (a b s : List ℕ) → length a ≡ n → put (a ++ b) n s ≡ a ++ (s ++ drop (length s) b)
unfolding put
put-at n a b s h = rw (take_at a b n h, drop_past n (length s) a b h)

-- THE SUMS

pub sealed-by : (b : List ℕ) (first second : ℕ) → length b ≡ block_length → second ∷ first ∷ [] ≡ sums (take 510 b)
    → set (set b 510 second) 511 first ≡ sealed (take 510 b)
unfolding sealed
sealed-by b x y h e =
    let last : drop 511 b ≡ get_or b 511 0 ∷ [] = drop-cons b 511 0 (omega arith) ∙ ap (λ (t : List ℕ). get_or b 511 0 ∷ t) (drop_of_length-le b {i = block_length} (omega arith)) in
    let one : set b 510 y ≡ (take 510 b ++ (y ∷ [])) ++ (get_or b 511 0 ∷ []) =
    set_split b 510 y (omega arith) ∙ ap (λ (t : List ℕ). take 510 b ++ (y ∷ t)) last ∙ sym (append_assoc (take 510 b) (y ∷ []) (get_or b 511 0 ∷ [])) in
    let size : length (take 510 b ++ (y ∷ [])) ≡ 511 = simp (length-append, length-take-le 510 b (omega arith)) in
    ap (λ (t : List ℕ). set t 511 x) one ∙ set_at (take 510 b ++ (y ∷ [])) (get_or b 511 0) [] x 511 size ∙ append_assoc (take 510 b) (y ∷ []) (x ∷ []) ∙ ap (λ (t : List ℕ). take 510 b ++ t) e

-- A ROOM WITH ZEROS BEHIND

pub filled_is : (s : List ℕ) (n : ℕ) → length s ≤ n → filled s n ≡ s ++ zeros (n - length s)
filled_is s n h = fill s n h ∙ ap (λ (t : List ℕ). s ++ t) (take-zeros (n - length s) n (omega arith))

zeros-suc : (n m : ℕ) → n ≡ suc m → zeros n ≡ 0 ∷ zeros m
unfolding zeros
zeros-suc n m e = ap (λ (i : ℕ). zeros i) e

pub filled_more : (s : List ℕ) (n p : ℕ) → length s < n → set (filled s n) (length s) p ≡ filled (s ++ (p ∷ [])) n
filled_more s n p h =
    let l : length (s ++ (p ∷ [])) ≡ length s + 1 = length-append s (p ∷ []) in
    let z : zeros (n - length s) ≡ 0 ∷ zeros (n - length (s ++ (p ∷ []))) = zeros-suc _ _ (omega arith) in
    ap (λ (t : List ℕ). set t (length s) p) (filled_is s n (omega arith) ∙ ap (λ (t : List ℕ). s ++ t) z)
    ∙ set-append_seam s 0 (zeros (n - length (s ++ (p ∷ [])))) p
    ∙ sym (append_assoc s (p ∷ []) (zeros (n - length (s ++ (p ∷ [])))))
    ∙ sym (filled_is (s ++ (p ∷ [])) n (omega arith))

-- zeros behind the text change nothing
zeros-zeros : (n m : ℕ) → zeros n ++ zeros m ≡ zeros (n + m)
unfolding zeros
zeros-zeros n m = lib.ListN.replicate-append-replicate n m 0

pub filled-again : (s : List ℕ) (m n : ℕ) → length s + m ≤ n → filled (s ++ zeros m) n ≡ filled s n
filled-again s m n h =
    let l : length (s ++ zeros m) ≡ length s + m = length-append s (zeros m) ∙ ap (λ (i : ℕ). length s + i) (length-zeros m) in
    let q : m + (n - length (s ++ zeros m)) ≡ n - length s = omega arith in
    filled_is (s ++ zeros m) n (omega arith)
    ∙ append_assoc s (zeros m) (zeros (n - length (s ++ zeros m)))
    ∙ ap (λ (t : List ℕ). s ++ t) (zeros-zeros m (n - length (s ++ zeros m)) ∙ ap (λ (i : ℕ). zeros i) q)
    ∙ sym (filled_is s n (omega arith))

-- THE ORDER LINE CLOSES UP

-- one place more is looked at, kept or not
module _ (line : List ℕ) (k i : ℕ) (h : i < length line) where
  pub line_kept : (get_or line i 0 ≡ k → ⊥) → keep (λ p. not (eqb p k)) (take (i + 1) line) ≡ keep (λ p. not (eqb p k)) (take i line) ++ (get_or line i 0 ∷ [])
  unfolding pick
  line_kept e =
      rw (add-one, take-suc line i 0 h, keep_snoc (λ p. not (eqb p k)) (take i line) (get_or line i 0), ne_eqb (get_or line i 0) k e)

  pub line-left : get_or line i 0 ≡ k → keep (λ p. not (eqb p k)) (take (i + 1) line) ≡ keep (λ p. not (eqb p k)) (take i line)
  unfolding pick
  line-left e =
      rw (add-one, take-suc line i 0 h, keep_snoc (λ p. not (eqb p k)) (take i line) (get_or line i 0), eq-eqb (get_or line i 0) k e) (append-nil _)

-- the zeros behind the line stay zeros
keep-zeros : (l : List ℕ) (k n : ℕ) → 1 ≤ k → keep (λ p. not (eqb p k)) (l ++ zeros n) ≡ keep (λ p. not (eqb p k)) l ++ zeros n
unfolding keep pick zeros
keep-zeros [] k zero h = refl
keep-zeros [] k (suc n) h = rw (ne_eqb 0 k (omega arith)) (ap (λ (t : List ℕ). 0 ∷ t) (keep-zeros [] k n h))
keep-zeros (x ∷ l) k n h = by-test (eqb x k) (λ e. rw (e, keep-zeros l k n h)) (λ e. rw (e, keep-zeros l k n h))

pub closed-filled : (l : List ℕ) (k : ℕ) → 1 ≤ k → length l ≤ 8 → length (keep (λ p. not (eqb p k)) l) ≤ length l
    → closed_up (filled l 8) k ≡ filled (keep (λ p. not (eqb p k)) l) 8
unfolding closed_up
closed-filled l k h le m =
    ap (λ (t : List ℕ). filled (keep (λ p. not (eqb p k)) t) 8) (filled_is l 8 le)
    ∙ ap (λ (t : List ℕ). filled t 8) (keep-zeros l k (8 - length l) h)
    ∙ filled-again (keep (λ p. not (eqb p k)) l) (8 - length l) 8 (omega arith)

-- BYTE 17

-- two tests that differ at k alone
module _ (f g : ℕ → Bool) (k : ℕ) (others : (j : ℕ) → (j ≡ k → ⊥) → f j ≡ g j) (on : f k ≡ true) (off : g k ≡ false) where
  bits-beyond : (b n : ℕ) → k < b → from_bits (map f (counted b n)) ≡ from_bits (map g (counted b n))
  unfolding from_bits counted
  bits-beyond b zero h = refl
  bits-beyond b (suc n) h = rw (others b (omega arith), bits-beyond (suc b) n (omega arith))

  bits-differ : (b n : ℕ) → b ≤ k → k < b + n → from_bits (map f (counted b n)) ≡ from_bits (map g (counted b n)) + 2 ^ (k - b)
  unfolding from_bits counted pick
  bits-differ b zero lo hi = absurd (omega arith)
  bits-differ b (suc n) lo hi =
      by-test (eqb b k)
      (λ e. let q : b ≡ k = eqb-true b k e in
      let z : k - b ≡ 0 = omega arith in
      let fb : f b ≡ true = ap f q ∙ on in
      let gb : g b ≡ false = ap g q ∙ off in
      rw (fb, gb, z, bits-beyond (suc b) n (omega arith)) (omega arith))
      (λ e. let z : k - b ≡ suc (k - suc b) = omega (arith, eqb-false b k e) in
      let r : from_bits (map f (counted (suc b) n)) ≡ from_bits (map g (counted (suc b) n)) + 2 ^ (k - suc b) = bits-differ (suc b) n (omega (arith, eqb-false b k e)) (omega arith) in
      rw (others b (eqb-false b k e), z, r, pow-suc 2 (k - suc b)) (omega arith))

keep-other : (k j : ℕ) (l : List ℕ) → (j ≡ k → ⊥) → every (λ x. not (eqb x j)) (keep (λ p. not (eqb p k)) l) ≡ every (λ x. not (eqb x j)) l
unfolding every keep pick
keep-other k j [] h = refl
keep-other k j (x ∷ l) h =
    by-test (eqb x k)
    (λ e. rw (e, ne_eqb x j (omega (arith, eqb-true x k e))) (keep-other k j l h))
    (λ e. rw (e, keep-other k j l h))

pub bits-without : (l : List ℕ) (k : ℕ) → 1 ≤ k → k ≤ 8 → is_on l k ≡ true → used_bits l ≡ used_bits (keep (λ p. not (eqb p k)) l) + 2 ^ (k - 1)
unfolding used_bits places is_on
bits-without l k lo hi on =
    bits-differ (is_on l) (is_on (keep (λ p. not (eqb p k)) l)) k (λ j d. ap not (sym (keep-other k j l d))) on (ap not (kept (λ p. not (eqb p k)) l)) 1 8 lo (omega arith)

snoc-other : (l : List ℕ) (k j : ℕ) → (j ≡ k → ⊥) → every (λ x. not (eqb x j)) (l ++ (k ∷ [])) ≡ every (λ x. not (eqb x j)) l
unfolding every
snoc-other [] k j h = rw (ne_eqb k j (λ e. h (sym e)))
snoc-other (x ∷ l) k j h = rw (snoc-other l k j h)

snoc-own : (l : List ℕ) (k : ℕ) → every (λ x. not (eqb x k)) (l ++ (k ∷ [])) ≡ false
unfolding every
snoc-own [] k = rw (eq-eqb k k refl)
snoc-own (x ∷ l) k = rw (snoc-own l k) (by-test (eqb x k) (λ e. rw e) (λ e. rw e))

pub bits-with : (l : List ℕ) (k : ℕ) → 1 ≤ k → k ≤ 8 → is_on l k ≡ false → used_bits (l ++ (k ∷ [])) ≡ used_bits l + 2 ^ (k - 1)
unfolding used_bits places is_on
bits-with l k lo hi off =
    bits-differ (is_on (l ++ (k ∷ []))) (is_on l) k (λ j d. ap not (snoc-other l k j d)) (ap not (snoc-own l k)) off 1 8 lo (omega arith)

-- BLOCK 0 WITH ANOTHER LINE

line-put-rest : (b : List ℕ) (x : ℕ) (l : List ℕ) → length l ≡ 8 → put (x ∷ drop 18 b) 3 l ≡ x ∷ part b 18 2 ++ (l ++ drop 28 b)
unfolding put
line-put-rest b x l hl = rw (hl, drop-drop 10 18 b)

pub line-put : (b : List ℕ) (x : ℕ) (l : List ℕ) → length b ≡ block_length → length l ≡ 8 → sealed (take 510 (put (set b 17 x) 20 l)) ≡ head_with b x l
unfolding head_with
line-put b x l h hl =
    let a : List ℕ = take 17 b in
    let la : length a ≡ 17 = length-take-le 17 b (omega arith) in
    let d : List ℕ = x ∷ part b 18 2 in
    let ld : length d ≡ 3 = ap suc (length_part b 18 2 (omega arith)) in
    let q : put (x ∷ drop 18 b) 3 l ≡ d ++ (l ++ drop 28 b) = line-put-rest b x l hl in
    let p : put (set b 17 x) 20 l ≡ a ++ (d ++ (l ++ drop 28 b)) =
    ap (λ (t : List ℕ). put t 20 l) (set_split b 17 x (omega arith)) ∙ put-past 17 3 a (x ∷ drop 18 b) l la ∙ ap (λ (t : List ℕ). a ++ t) q in
    ap (λ (t : List ℕ). sealed (take 510 t)) p
    ∙ ap sealed (take_past 17 493 a (d ++ (l ++ drop 28 b)) la
    ∙ ap (λ (t : List ℕ). a ++ t) (take_past 3 490 d (l ++ drop 28 b) ld ∙ ap (λ (t : List ℕ). d ++ t) (take_past 8 482 l (drop 28 b) hl)))

set_past : (a b : List ℕ) (n p : ℕ) → set (a ++ b) (length a + n) p ≡ a ++ set b n p
set_past [] b n p = rw zero-add
set_past (x ∷ a) b n p = rw (suc-add (length a) n) (ap (λ (t : List ℕ). x ∷ t) (set_past a b n p))

-- the bytes 18 and 19, the line, and what stands behind it
cut-18 : (b : List ℕ) → drop 18 b ≡ part b 18 2 ++ (part b 20 8 ++ drop 28 b)
cut-18 b =
    sym (take-append-drop 2 (drop 18 b))
    ∙ ap (λ (t : List ℕ). part b 18 2 ++ t) (drop-drop 2 18 b ∙ sym (take-append-drop 8 (drop 20 b)) ∙ ap (λ (t : List ℕ). part b 20 8 ++ t) (drop-drop 8 20 b))

pub line_set : (b : List ℕ) (x n p : ℕ) → length b ≡ block_length → n < 8
    → sealed (take 510 (set (set b 17 x) (20 + n) p)) ≡ head_with b x (set (part b 20 8) n p)
unfolding head_with
line_set b x n p h le =
    let a : List ℕ = take 17 b in
    let la : length a ≡ 17 = length-take-le 17 b (omega arith) in
    let d : List ℕ = x ∷ part b 18 2 in
    let ld : length d ≡ 3 = ap suc (length_part b 18 2 (omega arith)) in
    let l : List ℕ = set (part b 20 8) n p in
    let ll : length l ≡ 8 = length-set (part b 20 8) n p ∙ length_part b 20 8 (omega arith) in
    let lo : length (a ++ d) ≡ 20 = length-append a d ∙ omega arith in
    let whole : set b 17 x ≡ (a ++ d) ++ (part b 20 8 ++ drop 28 b) =
    set_split b 17 x (omega arith) ∙ ap (λ (t : List ℕ). a ++ (x ∷ t)) (cut-18 b) ∙ sym (append_assoc a d (part b 20 8 ++ drop 28 b)) in
    let at : set (part b 20 8 ++ drop 28 b) n p ≡ l ++ drop 28 b = set-append_left (part b 20 8) (drop 28 b) n p (rw (length_part b 20 8 (omega arith)) le) in
    let done : set (set b 17 x) (20 + n) p ≡ a ++ (d ++ (l ++ drop 28 b)) =
    ap (λ (t : List ℕ). set t (20 + n) p) whole
    ∙ ap (λ (i : ℕ). set ((a ++ d) ++ (part b 20 8 ++ drop 28 b)) (i + n) p) (sym lo)
    ∙ set_past (a ++ d) (part b 20 8 ++ drop 28 b) n p
    ∙ ap (λ (t : List ℕ). (a ++ d) ++ t) at
    ∙ append_assoc a d (l ++ drop 28 b) in
    ap (λ (t : List ℕ). sealed (take 510 t)) done
    ∙ ap sealed (take_past 17 493 a (d ++ (l ++ drop 28 b)) la
    ∙ ap (λ (t : List ℕ). a ++ t) (take_past 3 490 d (l ++ drop 28 b) ld ∙ ap (λ (t : List ℕ). d ++ t) (take_past 8 482 l (drop 28 b) ll)))

-- the loop over the line: `n` places are kept of the first `i`
unfoldable pub Closing : (line : List ℕ) → (k : ℕ) → (out : List ℕ) → (n i : ℕ) → Type 0
Closing line k out n i = (n ≡ length (keep (λ p. not (eqb p k)) (take i line))) × (out ≡ filled (keep (λ p. not (eqb p k)) (take i line)) 8)

pub closing-none : (line : List ℕ) (k : ℕ) → Closing line k (0 ∷ 0 ∷ 0 ∷ 0 ∷ 0 ∷ 0 ∷ 0 ∷ 0 ∷ []) 0 0
unfolding Closing keep filled zeros
closing-none line k = (refl, refl)

pub closing-kept : (line : List ℕ) (k : ℕ) (out : List ℕ) (n i : ℕ) → i < length line → n < 8 → (get_or line i 0 ≡ k → ⊥)
    → Closing line k out n i → Closing line k (set out n (get_or line i 0)) (n + 1) (i + 1)
unfolding Closing
closing-kept line k out n i h m e c =
    let f : List ℕ = keep (λ p. not (eqb p k)) (take i line) in (
      rw (line_kept line k i h e) (omega (arith, length-append f (get_or line i 0 ∷ []), c.0)),
      rw (line_kept line k i h e, c.1, c.0) (filled_more f 8 (get_or line i 0) (rw c.0 at m)),
    )

pub closing-left : (line : List ℕ) (k : ℕ) (out : List ℕ) (n i : ℕ) → i < length line → get_or line i 0 ≡ k
    → Closing line k out n i → Closing line k out n (i + 1)
unfolding Closing
closing-left line k out n i h e c = rw (line-left line k i h e) c

pub closing_end : (line : List ℕ) (k : ℕ) (out : List ℕ) (n i : ℕ) → length line ≤ i → Closing line k out n i → out ≡ closed_up line k
unfolding Closing closed_up
closing_end line k out n i h c = c.1 ∙ ap (λ (t : List ℕ). filled (keep (λ p. not (eqb p k)) t) 8) (take_all i line h)

pub bit-small : (m : ℕ) → m < 8 → 1 * 2 ^ m % 256 ≡ 2 ^ m
bit-small m h = rw one-mul (mod-eq_of_lt (pow-lt h))

-- ROOMS

pub zeros-split : (n m : ℕ) → zeros (n + m) ≡ zeros n ++ zeros m
zeros-split n m = sym (zeros-zeros n m)

pub zeros-four : zeros 4 ≡ 0 ∷ 0 ∷ 0 ∷ 0 ∷ []
unfolding zeros
zeros-four = refl

pub zeros-six : zeros 6 ≡ 0 ∷ 0 ∷ 0 ∷ 0 ∷ 0 ∷ 0 ∷ []
unfolding zeros
zeros-six = refl

pub zeros-three : zeros 3 ≡ 0 ∷ 0 ∷ 0 ∷ []
unfolding zeros
zeros-three = refl

pub zeros-two : zeros 2 ≡ 0 ∷ 0 ∷ []
unfolding zeros
zeros-two = refl

pub filled_none : (n : ℕ) → filled [] n ≡ zeros n
filled_none n = let q : n - 0 ≡ n = omega arith in filled_is [] n (omega arith) ∙ ap (λ (j : ℕ). zeros j) q

-- a text written into a room of zeros
pub put-room : (a s r : List ℕ) (n m : ℕ) → length a ≡ n → length s ≤ m → put (a ++ (zeros m ++ r)) n s ≡ a ++ (filled s m ++ r)
put-room a s r n m h l =
    let d : drop (length s) (zeros m ++ r) ≡ zeros (m - length s) ++ r =
    drop-append-le (length s) (zeros m) r (rw (length-zeros m) l) ∙ ap (λ (t : List ℕ). t ++ r) (drop-zeros (length s) m) in
    put-at n a (zeros m ++ r) s h
    ∙ ap (λ (t : List ℕ). a ++ (s ++ t)) d
    ∙ ap (λ (t : List ℕ). a ++ t) (sym (append_assoc s (zeros (m - length s)) r) ∙ ap (λ (t : List ℕ). t ++ r) (sym (filled_is s m l)))

-- a room written over whole
pub put-over : (a o s r : List ℕ) (n : ℕ) → length a ≡ n → length o ≡ length s → put (a ++ (o ++ r)) n s ≡ a ++ (s ++ r)
put-over a o s r n h l = put-at n a (o ++ r) s h ∙ ap (λ (t : List ℕ). a ++ (s ++ t)) (drop_at o r (length s) l)

-- A NEW ACCESS

access-zeros : zeros block_length ≡ zeros 4 ++ (zeros 4 ++ (zeros 128 ++ (zeros 128 ++ (zeros 128 ++ (zeros 118 ++ zeros 2)))))
access-zeros =
    zeros-split 4 508
    ∙ ap (λ (t : List ℕ). zeros 4 ++ t) (zeros-split 4 504
    ∙ ap (λ (t : List ℕ). zeros 4 ++ t) (zeros-split 128 376
    ∙ ap (λ (t : List ℕ). zeros 128 ++ t) (zeros-split 128 248
    ∙ ap (λ (t : List ℕ). zeros 128 ++ t) (zeros-split 128 120
    ∙ ap (λ (t : List ℕ). zeros 128 ++ t) (zeros-split 118 2)))))

pub first-put : (n : ℕ) (s h : List ℕ) → length s ≤ 128 → length h ≤ 128
    → sealed (take 510 (put (put (put (zeros block_length) 0 (2 ∷ n ∷ length s ∷ length h ∷ [])) 8 s) 136 h)) ≡ first_bytes (fresh n (record { session = s; host = h; realm = [] }))
unfolding fresh no_policies first_bytes held
first-put n s h ls lh =
    let a : List ℕ = 2 ∷ n ∷ length s ∷ length h ∷ [] in
    let o : List ℕ = 2 ∷ n ∷ length s ∷ length h ∷ 0 ∷ 0 ∷ 0 ∷ 0 ∷ [] in
    let fs : List ℕ = filled s 128 in
    let fh : List ℕ = filled h 128 in
    let e : List ℕ = zeros 128 ++ (zeros 118 ++ zeros 2) in
    let p0 : put (zeros block_length) 0 a ≡ o ++ (zeros 128 ++ (zeros 128 ++ e)) =
    ap (λ (t : List ℕ). put t 0 a) access-zeros
    ∙ put-over [] (zeros 4) a (zeros 4 ++ (zeros 128 ++ (zeros 128 ++ e))) 0 refl (length-zeros 4)
    ∙ ap (λ (t : List ℕ). a ++ (t ++ (zeros 128 ++ (zeros 128 ++ e)))) zeros-four in
    let p1 : put (put (zeros block_length) 0 a) 8 s ≡ (o ++ fs) ++ (zeros 128 ++ e) =
    ap (λ (t : List ℕ). put t 8 s) p0 ∙ put-room o s (zeros 128 ++ e) 8 128 refl ls ∙ sym (append_assoc o fs (zeros 128 ++ e)) in
    let lo : length (o ++ fs) ≡ 136 = length-append o fs ∙ omega (arith, length-filled s 128) in
    let p2 : put (put (put (zeros block_length) 0 a) 8 s) 136 h ≡ o ++ (fs ++ (fh ++ e)) =
    ap (λ (t : List ℕ). put t 136 h) p1 ∙ put-room (o ++ fs) h e 136 128 lo lh ∙ append_assoc o fs (fh ++ e) in
    let t0 : take 510 (o ++ (fs ++ (fh ++ e))) ≡ o ++ (fs ++ (fh ++ (zeros 128 ++ zeros 118))) =
    take_past 8 502 o (fs ++ (fh ++ e)) refl
    ∙ ap (λ (t : List ℕ). o ++ t) (take_past 128 374 fs (fh ++ e) (length-filled s 128)
    ∙ ap (λ (t : List ℕ). fs ++ t) (take_past 128 246 fh e (length-filled h 128)
    ∙ ap (λ (t : List ℕ). fh ++ t) (take_past 128 118 (zeros 128) (zeros 118 ++ zeros 2) (length-zeros 128)
    ∙ ap (λ (t : List ℕ). zeros 128 ++ t) (take_at (zeros 118) (zeros 2) 118 (length-zeros 118))))) in
    ap (λ (t : List ℕ). sealed (take 510 t)) p2
    ∙ ap sealed t0
    ∙ ap (λ (t : List ℕ). sealed (o ++ (fs ++ (fh ++ (t ++ zeros 118))))) (sym (filled_none 128))

pub second-put : (r : List ℕ) → length r ≤ 128
    → sealed (take 510 (put (put (zeros block_length) 0 (3 ∷ length r ∷ [])) 8 r)) ≡ second_bytes (fresh 0 (record { session = []; host = []; realm = r }))
unfolding fresh no_policies second_bytes
second-put r lr =
    let a : List ℕ = 3 ∷ length r ∷ [] in
    let o : List ℕ = 3 ∷ length r ∷ 0 ∷ 0 ∷ 0 ∷ 0 ∷ 0 ∷ 0 ∷ [] in
    let fr : List ℕ = filled r 128 in
    let e : List ℕ = zeros 128 ++ (zeros 128 ++ (zeros 118 ++ zeros 2)) in
    let z : zeros block_length ≡ zeros 2 ++ (zeros 6 ++ (zeros 128 ++ e)) =
    zeros-split 2 510
    ∙ ap (λ (t : List ℕ). zeros 2 ++ t) (zeros-split 6 504
    ∙ ap (λ (t : List ℕ). zeros 6 ++ t) (zeros-split 128 376
    ∙ ap (λ (t : List ℕ). zeros 128 ++ t) (zeros-split 128 248
    ∙ ap (λ (t : List ℕ). zeros 128 ++ t) (zeros-split 128 120
    ∙ ap (λ (t : List ℕ). zeros 128 ++ t) (zeros-split 118 2))))) in
    let p0 : put (zeros block_length) 0 a ≡ o ++ (zeros 128 ++ e) =
    ap (λ (t : List ℕ). put t 0 a) z
    ∙ put-over [] (zeros 2) a (zeros 6 ++ (zeros 128 ++ e)) 0 refl (length-zeros 2)
    ∙ ap (λ (t : List ℕ). a ++ (t ++ (zeros 128 ++ e))) zeros-six in
    let p1 : put (put (zeros block_length) 0 a) 8 r ≡ o ++ (fr ++ e) = ap (λ (t : List ℕ). put t 8 r) p0 ∙ put-room o r e 8 128 refl lr in
    let t0 : take 510 (o ++ (fr ++ e)) ≡ o ++ (fr ++ (zeros 128 ++ (zeros 128 ++ zeros 118))) =
    take_past 8 502 o (fr ++ e) refl
    ∙ ap (λ (t : List ℕ). o ++ t) (take_past 128 374 fr e (length-filled r 128)
    ∙ ap (λ (t : List ℕ). fr ++ t) (take_past 128 246 (zeros 128) (zeros 128 ++ (zeros 118 ++ zeros 2)) (length-zeros 128)
    ∙ ap (λ (t : List ℕ). zeros 128 ++ t) (take_past 128 118 (zeros 128) (zeros 118 ++ zeros 2) (length-zeros 128)
    ∙ ap (λ (t : List ℕ). zeros 128 ++ t) (take_at (zeros 118) (zeros 2) 118 (length-zeros 118))))) in
    ap (λ (t : List ℕ). sealed (take 510 t)) p1
    ∙ ap sealed t0
    ∙ (λ i. sealed (o ++ (fr ++ (sym (filled_none 128) i ++ (sym (filled_none 128) i ++ zeros 118)))))

-- ANOTHER POLICY

cut-6 : (b : List ℕ) → drop 6 b ≡ part b 6 258 ++ (part b 264 128 ++ drop 392 b)
cut-6 b =
    sym (take-append-drop 258 (drop 6 b))
    ∙ ap (λ (t : List ℕ). part b 6 258 ++ t) (drop-drop 258 6 b ∙ sym (take-append-drop 128 (drop 264 b)) ∙ ap (λ (t : List ℕ). part b 264 128 ++ t) (drop-drop 128 264 b))

set_pair : (b : List ℕ) (i x y : ℕ) → suc (suc i) ≤ length b → set (set b i x) (suc i) y ≡ take i b ++ (x ∷ y ∷ drop (suc (suc i)) b)
set_pair b i x y h =
    let q : set b i x ≡ (take i b ++ (x ∷ [])) ++ (get_or b (suc i) 0 ∷ drop (suc (suc i)) b) =
    set_split b i x (omega arith) ∙ ap (λ (t : List ℕ). take i b ++ (x ∷ t)) (drop-cons b (suc i) 0 (omega arith)) ∙ sym (append_assoc (take i b) (x ∷ []) (get_or b (suc i) 0 ∷ drop (suc (suc i)) b)) in
    let l : length (take i b ++ (x ∷ [])) ≡ suc i = length-append (take i b) (x ∷ []) ∙ omega (arith, length-take-le i b (omega arith)) in
    ap (λ (t : List ℕ). set t (suc i) y) q ∙ set_at (take i b ++ (x ∷ [])) (get_or b (suc i) 0) (drop (suc (suc i)) b) y (suc i) l ∙ append_assoc (take i b) (x ∷ []) (y ∷ drop (suc (suc i)) b)

pub policy-put : (b pol : List ℕ) → length b ≡ block_length → length pol ≤ 128
    → sealed (take 510 (put (put (set (set b 4 1) 5 (length pol)) 264 (zeros 128)) 264 pol)) ≡ policy_with b pol
unfolding policy_with
policy-put b pol h l =
    let a : List ℕ = take 4 b in
    let la : length a ≡ 4 = length-take-le 4 b (omega arith) in
    let d : List ℕ = 1 ∷ length pol ∷ part b 6 258 in
    let ld : length d ≡ 260 = ap (λ (i : ℕ). suc (suc i)) (length_part b 6 258 (omega arith)) in
    let lad : length (a ++ d) ≡ 264 = length-append a d ∙ omega arith in
    let p0 : set (set b 4 1) 5 (length pol) ≡ (a ++ d) ++ (part b 264 128 ++ drop 392 b) =
    set_pair b 4 1 (length pol) (omega arith) ∙ ap (λ (t : List ℕ). a ++ (1 ∷ length pol ∷ t)) (cut-6 b) ∙ sym (append_assoc a d (part b 264 128 ++ drop 392 b)) in
    let p1 : put (set (set b 4 1) 5 (length pol)) 264 (zeros 128) ≡ (a ++ d) ++ (zeros 128 ++ drop 392 b) =
    ap (λ (t : List ℕ). put t 264 (zeros 128)) p0 ∙ put-over (a ++ d) (part b 264 128) (zeros 128) (drop 392 b) 264 lad (length_part b 264 128 (omega arith) ∙ sym (length-zeros 128)) in
    let p2 : put (put (set (set b 4 1) 5 (length pol)) 264 (zeros 128)) 264 pol ≡ a ++ (d ++ (filled pol 128 ++ drop 392 b)) =
    ap (λ (t : List ℕ). put t 264 pol) p1 ∙ put-room (a ++ d) pol (drop 392 b) 264 128 lad l ∙ append_assoc a d (filled pol 128 ++ drop 392 b) in
    ap (λ (t : List ℕ). sealed (take 510 t)) p2
    ∙ ap sealed (take_past 4 506 a (d ++ (filled pol 128 ++ drop 392 b)) la
    ∙ ap (λ (t : List ℕ). a ++ t) (take_past 260 246 d (filled pol 128 ++ drop 392 b) ld
    ∙ ap (λ (t : List ℕ). d ++ t) (take_past 128 118 (filled pol 128) (drop 392 b) (length-filled pol 128))))

-- THE OTHER POLICIES

cut-5 : (b : List ℕ) → drop 5 b ≡ part b 5 131 ++ (part b 136 256 ++ drop 392 b)
cut-5 b =
    sym (take-append-drop 131 (drop 5 b))
    ∙ ap (λ (t : List ℕ). part b 5 131 ++ t) (drop-drop 131 5 b ∙ sym (take-append-drop 256 (drop 136 b)) ∙ ap (λ (t : List ℕ). part b 136 256 ++ t) (drop-drop 256 136 b))

pub others_put : (b u v : List ℕ) → length b ≡ block_length → length u ≤ 128 → length v ≤ 128
    → sealed (take 510 (put (put (put (set (set b 3 (length u)) 4 (length v)) 136 (zeros 256)) 136 u) 264 v)) ≡ others_with b u v
unfolding others_with
others_put b u v h lu lv =
    let a : List ℕ = take 3 b in
    let la : length a ≡ 3 = length-take-le 3 b (omega arith) in
    let d : List ℕ = length u ∷ length v ∷ part b 5 131 in
    let ld : length d ≡ 133 = ap (λ (i : ℕ). suc (suc i)) (length_part b 5 131 (omega arith)) in
    let lad : length (a ++ d) ≡ 136 = length-append a d ∙ omega arith in
    let fu : List ℕ = filled u 128 in
    let fv : List ℕ = filled v 128 in
    let ladu : length ((a ++ d) ++ fu) ≡ 264 = length-append (a ++ d) fu ∙ omega (arith, length-filled u 128) in
    let p0 : set (set b 3 (length u)) 4 (length v) ≡ (a ++ d) ++ (part b 136 256 ++ drop 392 b) =
    set_pair b 3 (length u) (length v) (omega arith) ∙ ap (λ (t : List ℕ). a ++ (length u ∷ length v ∷ t)) (cut-5 b) ∙ sym (append_assoc a d (part b 136 256 ++ drop 392 b)) in
    let p1 : put (set (set b 3 (length u)) 4 (length v)) 136 (zeros 256) ≡ (a ++ d) ++ (zeros 128 ++ (zeros 128 ++ drop 392 b)) =
    ap (λ (t : List ℕ). put t 136 (zeros 256)) p0
    ∙ put-over (a ++ d) (part b 136 256) (zeros 256) (drop 392 b) 136 lad (length_part b 136 256 (omega arith) ∙ sym (length-zeros 256))
    ∙ ap (λ (t : List ℕ). (a ++ d) ++ (t ++ drop 392 b)) (zeros-split 128 128)
    ∙ ap (λ (t : List ℕ). (a ++ d) ++ t) (append_assoc (zeros 128) (zeros 128) (drop 392 b)) in
    let p2 : put (put (set (set b 3 (length u)) 4 (length v)) 136 (zeros 256)) 136 u ≡ ((a ++ d) ++ fu) ++ (zeros 128 ++ drop 392 b) =
    ap (λ (t : List ℕ). put t 136 u) p1 ∙ put-room (a ++ d) u (zeros 128 ++ drop 392 b) 136 128 lad lu ∙ sym (append_assoc (a ++ d) fu (zeros 128 ++ drop 392 b)) in
    let p3 : put (put (put (set (set b 3 (length u)) 4 (length v)) 136 (zeros 256)) 136 u) 264 v ≡ a ++ (d ++ (fu ++ (fv ++ drop 392 b))) =
    ap (λ (t : List ℕ). put t 264 v) p2 ∙ put-room ((a ++ d) ++ fu) v (drop 392 b) 264 128 ladu lv
    ∙ append_assoc (a ++ d) fu (fv ++ drop 392 b) ∙ append_assoc a d (fu ++ (fv ++ drop 392 b)) in
    ap (λ (t : List ℕ). sealed (take 510 t)) p3
    ∙ ap sealed (take_past 3 507 a (d ++ (fu ++ (fv ++ drop 392 b))) la
    ∙ ap (λ (t : List ℕ). a ++ t) (take_past 133 374 d (fu ++ (fv ++ drop 392 b)) ld
    ∙ ap (λ (t : List ℕ). d ++ t) (take_past 128 246 fu (fv ++ drop 392 b) (length-filled u 128)
    ∙ ap (λ (t : List ℕ). fu ++ t) (take_past 128 118 fv (drop 392 b) (length-filled v 128)))))

-- AN ENTRY

entry-zeros : zeros 104 ≡ 0 ∷ zeros 100 ++ zeros 3
entry-zeros = zeros-suc 104 103 refl ∙ ap (λ (t : List ℕ). 0 ∷ t) (zeros-split 100 3)

pub entry-put : (label : List ℕ) (flags limit : ℕ) → length label ≤ 100
    → put (put (set (zeros 104) 0 (length label)) 1 label) 101 (flags ∷ limit ∷ []) ≡ entry_bytes (record { label = label; flags = flags; limit = limit })
unfolding entry_bytes
entry-put label flags limit l =
    let a : List ℕ = length label ∷ [] in
    let f : List ℕ = filled label 100 in
    let p0 : put (set (zeros 104) 0 (length label)) 1 label ≡ (a ++ f) ++ ((0 ∷ 0 ∷ []) ++ (0 ∷ [])) =
    ap (λ (t : List ℕ). put (set t 0 (length label)) 1 label) entry-zeros ∙ put-room a label (zeros 3) 1 100 refl l ∙ ap (λ (t : List ℕ). a ++ (f ++ t)) zeros-three in
    let laf : length (a ++ f) ≡ 101 = ap suc (length-filled label 100) in
    ap (λ (t : List ℕ). put t 101 (flags ∷ limit ∷ [])) p0 ∙ put-over (a ++ f) (0 ∷ 0 ∷ []) (flags ∷ limit ∷ []) (0 ∷ []) 101 laf refl

cut-19 : (b : List ℕ) → drop 19 b ≡ part b 19 13 ++ (part b 32 416 ++ drop 448 b)
cut-19 b =
    sym (take-append-drop 13 (drop 19 b))
    ∙ ap (λ (t : List ℕ). part b 19 13 ++ t) (drop-drop 13 19 b ∙ sym (take-append-drop 416 (drop 32 b)) ∙ ap (λ (t : List ℕ). part b 32 416 ++ t) (drop-drop 416 32 b))

-- a put within the first of two lists
pub put_first : (x y s : List ℕ) (n : ℕ) → n + length s ≤ length x → put (x ++ y) n s ≡ put x n s ++ y
unfolding put
put_first x y s n h =
    rw (take-append-le n x y (omega arith), drop-append-le (n + length s) x y h) (simp append_assoc)

pub more-put : (b : List ℕ) (n : ℕ) (e : Entry) → length b ≡ block_length → n < 4
    → sealed (take 510 (put (set b 18 (n + 1)) (32 + 104 * n) (entry_bytes e))) ≡ entries_with b n e
unfolding entries_with
more-put b n e h l =
    let a : List ℕ = take 18 b in
    let la : length a ≡ 18 = length-take-le 18 b (omega arith) in
    let d : List ℕ = (n + 1) ∷ part b 19 13 in
    let ld : length d ≡ 14 = ap suc (length_part b 19 13 (omega arith)) in
    let lad : length (a ++ d) ≡ 32 = length-append a d ∙ omega arith in
    let m : List ℕ = part b 32 416 in
    let lm : length m ≡ 416 = length_part b 32 416 (omega arith) in
    let w : List ℕ = put m (104 * n) (entry_bytes e) in
    let le : 104 * n + length (entry_bytes e) ≤ length m = omega (arith, length-entry e) in
    let lw : length w ≡ 416 = length-put m (104 * n) (entry_bytes e) le ∙ lm in
    let p0 : set b 18 (n + 1) ≡ (a ++ d) ++ (m ++ drop 448 b) =
    set_split b 18 (n + 1) (omega arith) ∙ ap (λ (t : List ℕ). a ++ ((n + 1) ∷ t)) (cut-19 b) ∙ sym (append_assoc a d (m ++ drop 448 b)) in
    let p1 : put (set b 18 (n + 1)) (32 + 104 * n) (entry_bytes e) ≡ a ++ (d ++ (w ++ drop 448 b)) =
    ap (λ (t : List ℕ). put t (32 + 104 * n) (entry_bytes e)) p0
    ∙ put-past 32 (104 * n) (a ++ d) (m ++ drop 448 b) (entry_bytes e) lad
    ∙ ap (λ (t : List ℕ). (a ++ d) ++ t) (put_first m (drop 448 b) (entry_bytes e) (104 * n) le)
    ∙ append_assoc a d (w ++ drop 448 b) in
    ap (λ (t : List ℕ). sealed (take 510 t)) p1
    ∙ ap sealed (take_past 18 492 a (d ++ (w ++ drop 448 b)) la
    ∙ ap (λ (t : List ℕ). a ++ t) (take_past 14 478 d (w ++ drop 448 b) ld
    ∙ ap (λ (t : List ℕ). d ++ t) (take_past 416 62 w (drop 448 b) lw)))
