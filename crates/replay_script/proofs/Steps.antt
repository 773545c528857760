-- The steps of the loops over digests, filled rooms and two texts, on plain lists.
use mathlib.Core.Path.{◌≡◌, ◌∙◌}
use mathlib.Core.Bool.{true, false}
use mathlib.Core.List.{List}
use Prim.Native.Nat.{ℕ, suc, ◌+◌, ◌*◌, ◌≤◌, ◌<◌}
use native.Mathlib.Nat.{mul-le-mul}
use native.Mathlib.Numerals.{add-one}
use native.Mathlib.Omega.{arith}
use borrow.Author.Count.{below_more}
use borrow.Author.Tests.{eq-eqb, ne_eqb}
use lib.ListN.{length, get_or, set, drop, drop_of_length-le}
use lib.Seq.{drop-cons, get_or-set_same, get_or-set_other}
use Rattle.octets.specs.Choice.{pick}
use Rattle.replay_script.specs.TheScript.{digest_step, digest_of, room_byte, as_filled, unlike}

-- a product of a digest and a factor stays below 2^62
pub product : (h k : ℕ) → h < 2147483647 → k ≤ 1103515245 → h * k ≤ 2369780942852710000
product h k p q =
    let small : h ≤ 2147483646 = omega arith in
    let most : h * k ≤ 2147483646 * 1103515245 = mul-le-mul small q in
    omega arith

-- one byte more, and the end
pub digest-step : (k h : ℕ) (s : List ℕ) (i : ℕ) → i < length s
    → digest_of k (digest_step k h (get_or s i 0)) (drop (i + 1) s) ≡ digest_of k h (drop i s)
unfolding digest_of
digest-step k h s i p = rw (drop-cons s i 0 p, add-one)

pub digest-end : (k h : ℕ) (s : List ℕ) (i : ℕ) → length s ≤ i → digest_of k h (drop i s) ≡ h
unfolding digest_of
digest-end k h s i p = rw (drop_of_length-le s p)

-- one byte more of a room
pub fill_step : (seed : ℕ) (s : List ℕ) (i v : ℕ) → i < length s → v ≡ room_byte seed i
    → ((k : ℕ) → k < i → get_or s k 0 ≡ room_byte seed k)
    → (k : ℕ) → k < i + 1 → get_or (set s i v) k 0 ≡ room_byte seed k
fill_step seed s i v p e all =
    below_more (λ (k : ℕ). get_or (set s i v) k 0 ≡ room_byte seed k) i
    (λ k l. get_or-set_other s i k v 0 (λ w. omega arith) ∙ all k l)
    (get_or-set_same s i v 0 p ∙ e)

-- a byte of the room that is as before, one that is not, and the end
pub filled-step : (seed : ℕ) (s : List ℕ) (i : ℕ) → i < length s → get_or s i 0 ≡ room_byte seed i
    → as_filled seed (i + 1) (drop (i + 1) s) ≡ as_filled seed i (drop i s)
unfolding as_filled
filled-step seed s i p e = rw (drop-cons s i 0 p, eq-eqb (get_or s i 0) (room_byte seed i) e, add-one)

pub filled-differ : (seed : ℕ) (s : List ℕ) (i : ℕ) → i < length s → (get_or s i 0 ≡ room_byte seed i → ⊥)
    → as_filled seed i (drop i s) ≡ false
unfolding as_filled
filled-differ seed s i p e = rw (drop-cons s i 0 p, ne_eqb (get_or s i 0) (room_byte seed i) e)

pub filled-end : (seed : ℕ) (s : List ℕ) (i : ℕ) → length s ≤ i → as_filled seed i (drop i s) ≡ true
unfolding as_filled
filled-end seed s i p = rw (drop_of_length-le s p)

-- two bytes that are the same, two that are not, and the end
pub unlike-step : (a b : List ℕ) (i : ℕ) → i < length a → i < length b → get_or a i 0 ≡ get_or b i 0
    → unlike (drop i a) (drop i b) ≡ suc (unlike (drop (i + 1) a) (drop (i + 1) b))
unfolding unlike pick
unlike-step a b i p q e =
    rw (drop-cons a i 0 p, drop-cons b i 0 q, eq-eqb (get_or a i 0) (get_or b i 0) e, add-one)

pub unlike-differ : (a b : List ℕ) (i : ℕ) → i < length a → i < length b → (get_or a i 0 ≡ get_or b i 0 → ⊥)
    → unlike (drop i a) (drop i b) ≡ 0
unfolding unlike pick
unlike-differ a b i p q e = rw (drop-cons a i 0 p, drop-cons b i 0 q, ne_eqb (get_or a i 0) (get_or b i 0) e)

pub unlike-end : (a b : List ℕ) (i : ℕ) → length a ≤ i → unlike (drop i a) (drop i b) ≡ 0
unfolding unlike
unlike-end a b i p = rw (drop_of_length-le a p)
