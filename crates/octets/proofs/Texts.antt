-- Laws of texts: parts, rooms, writes, and the steps of the loops over them.
use mathlib.Core.Path.{◌≡◌, refl, sym, ap, ◌∙◌}
use mathlib.Core.Bool.{Bool, true, false, ◌&&◌, true≢false}
use mathlib.Core.List.{List, [], ◌∷◌, ◌++◌, append_assoc}
use Prim.Native.Nat.{ℕ, zero, suc, ◌+◌, ◌-◌, ◌≤◌, ◌<◌}
use native.Mathlib.Nat.{le_antisymm, add_assoc}
use native.Mathlib.Numerals.{add-one}
use native.Mathlib.Omega.{arith}
use borrow.Author.Tests.{eqb-true, eq-eqb, ne_eqb}
use lib.Dec.{eqb}
use lib.ListN.{length, get_or, take, drop, length-append, length-take, length-drop, length-replicate, drop_of_length-le, take-append-drop}
use lib.Seq.{drop-cons, paste, take-length, drop-drop, take-take, take-add, drop-append-add, drop-append-le, length-take-le, take_at, drop_at}
use Rattle.octets.specs.Texts.{part, zeros, filled, same, all_zero, put}
use Rattle.octets.proofs.Lists.{by-test, same-eq, same_refl}
use Rattle.std.specs.Bool.{Decides}
use Rattle.std.specs.List.{list_all}

-- LENGTHS

pub length-zeros : (n : ℕ) → length (zeros n) ≡ n
unfolding zeros
length-zeros n = length-replicate n 0

pub length-filled : (s : List ℕ) (n : ℕ) → length (filled s n) ≡ n
unfolding filled
length-filled s n = simp (length-take, length-append, length-zeros) (omega arith)

pub length_part : (s : List ℕ) (a n : ℕ) → a + n ≤ length s → length (part s a n) ≡ n
length_part s a n h = length-take-le n (drop a s) (simp length-drop (omega arith))

pub length-put : (room : List ℕ) (a : ℕ) (s : List ℕ) → a + length s ≤ length room → length (put room a s) ≡ length room
unfolding put
length-put room a s h = simp (length-append, length-drop, length-take-le a room (omega arith)) (omega arith)

-- COMPARING

-- one byte more, and the end
pub same_step : (a b : List ℕ) (i : ℕ) → i < length a → i < length b → get_or a i 0 ≡ get_or b i 0
    → same (drop (i + 1) a) (drop (i + 1) b) ≡ same (drop i a) (drop i b)
unfolding same
same_step a b i h k e =
    rw (drop-cons a i 0 h, drop-cons b i 0 k, e, eq-eqb (get_or b i 0) (get_or b i 0) refl, add-one)

pub same-differ : (a b : List ℕ) (i : ℕ) → i < length a → i < length b → (get_or a i 0 ≡ get_or b i 0 → ⊥) → same (drop i a) (drop i b) ≡ false
unfolding same
same-differ a b i h k e = rw (drop-cons a i 0 h, drop-cons b i 0 k, ne_eqb (get_or a i 0) (get_or b i 0) e)

pub same_end : (a b : List ℕ) (i : ℕ) → length a ≤ i → length b ≤ i → same (drop i a) (drop i b) ≡ true
unfolding same
same_end a b i h k = rw (drop_of_length-le a h, drop_of_length-le b k)

pub same-lengths : (a b : List ℕ) → (length a ≡ length b → ⊥) → same a b ≡ false
same-lengths a b h = by-test (same a b) (λ e. absurd (h (ap length (same-eq a b e)))) (λ e. e)

-- a test that tells whether two texts are equal
pub same-decides : (a b : List ℕ) (r : Bool) → Decides r (a ≡ b) → r ≡ same a b
same-decides a b r d =
    by-test r
    (λ e. let q : a ≡ b = d.0 e in e ∙ sym (rw q (same_refl b)))
    (λ e. by-test (same a b) (λ t. absurd (true≢false (sym (d.1 (same-eq a b t)) ∙ e))) (λ t. e ∙ sym t))

-- all zero: by a test of each byte; one byte more, and the end
pub zero-all : (s : List ℕ) → list_all (λ x. eqb x 0) s ≡ all_zero s
unfolding all_zero same zeros
zero-all [] = refl
zero-all (x ∷ s) = rw (zero-all s)

pub zero-cons : (x : ℕ) (s : List ℕ) → all_zero (x ∷ s) ≡ eqb x 0 && all_zero s
unfolding all_zero same zeros
zero-cons x s = refl

pub zero-step : (s : List ℕ) (i : ℕ) → i < length s → all_zero (drop i s) ≡ eqb (get_or s i 0) 0 && all_zero (drop (i + 1) s)
zero-step s i h = rw (drop-cons s i 0 h, zero-cons (get_or s i 0) (drop (suc i) s), add-one)

pub zero-end : (s : List ℕ) (i : ℕ) → length s ≤ i → all_zero (drop i s) ≡ true
unfolding all_zero same zeros
zero-end s i h = rw (drop_of_length-le s h)

-- WRITING

-- a copy of everything is a put
pub put_all : (room : List ℕ) (a : ℕ) (s : List ℕ) (j : ℕ) → j ≤ length s → length s ≤ j → paste room a s j ≡ put room a s
unfolding put
put_all room a s j h l = rw (le_antisymm h l, take-length, append_assoc)

-- a lent part that comes back as s, where the part had length k
pub part-put : (room : List ℕ) (a : ℕ) (s : List ℕ) (k : ℕ) → length s ≡ k → take a room ++ (s ++ drop k (drop a room)) ≡ put room a s
unfolding put
part-put room a s k e = rw (drop-drop, e)

-- a lent part from a to e that comes back as t
pub back-put : (room : List ℕ) (a e : ℕ) (t s : List ℕ) → length s ≡ e - a → t ≡ s → take a room ++ (t ++ drop (e - a) (drop a room)) ≡ put room a s
unfolding put
back-put room a e t s l h = rw (h, drop-drop, l)

-- the rest of a part, and what stands behind the part
rest : (x : List ℕ) (m k : ℕ) → m ≤ k → k ≤ length x → drop m (take k x) ++ drop k x ≡ drop m x
rest x m k h l =
    let w : m ≤ length (take k x) = rw (length-take-le k x l) h in
    sym (drop-append-le m (take k x) (drop k x) w) ∙ ap (drop m) (take-append-drop k x)

-- a put in a part that comes back is a put in the whole
pub put-in-part : (room : List ℕ) (a k : ℕ) (at : ℕ) (s : List ℕ) → a + k ≤ length room → at + length s ≤ k
    → put room a (put (part room a k) at s) ≡ put room (a + at) s
unfolding put
put-in-part room a k at s h l =
    let x : List ℕ = drop a room in
    let hx : k ≤ length x = simp (length-drop) (omega arith) in
    let hk : length (take k x) ≡ k = length-take-le k x hx in
    let hp : length (put (take k x) at s) ≡ k = length-put (take k x) at s (rw hk l) ∙ hk in
    let at≤k : at ≤ k = omega arith in
    let r : drop (at + length s) (take k x) ++ drop k x ≡ drop (at + length s) x = rest x (at + length s) k l hx in
    rw (hp, ← drop-drop k a room, append_assoc, append_assoc, r, take-take, take-add a at room, append_assoc, add_assoc, ← drop-drop (at + length s) a room)

-- a put right behind a put is one put
pub put_then : (room : List ℕ) (at : ℕ) (a b : List ℕ) (k : ℕ) → k ≡ at + length a → at + length a ≤ length room
    → put (put room at a) k b ≡ put room at (a ++ b)
unfolding put
put_then room at a b k e h =
    let p : List ℕ = take at room ++ a in
    let q : List ℕ = drop (at + length a) room in
    let hp : length p ≡ at + length a = simp (length-append, length-take-le at room (omega arith)) in
    let dr : drop (at + length a + length b) (p ++ q) ≡ drop (at + length a + length b) room =
    ap (λ (n : ℕ). drop (n + length b) (p ++ q)) (sym hp) ∙ drop-append-add p q (length b) ∙ drop-drop (length b) (at + length a) room in
    rw (e, ← append_assoc (take at room) a q, take_at p q (at + length a) hp, dr, length-append, ← add_assoc at (length a) (length b)) (simp append_assoc)

-- a put over a put of the same length
pub put-again : (room : List ℕ) (a : ℕ) (s t : List ℕ) → length s ≡ length t → a + length s ≤ length room → put (put room a s) a t ≡ put room a t
unfolding put
put-again room a s t e h =
    let la : length (take a room) ≡ a = length-take-le a room (omega arith) in
    let front : take a (take a room ++ (s ++ drop (a + length s) room)) ≡ take a room = take_at (take a room) _ a la in
    let back : drop (a + length t) (take a room ++ (s ++ drop (a + length s) room)) ≡ drop (a + length t) room =
    ap (λ (n : ℕ). drop (n + length t) (take a room ++ (s ++ drop (a + length s) room))) (sym la)
    ∙ drop-append-add (take a room) (s ++ drop (a + length s) room) (length t)
    ∙ drop_at s (drop (a + length s) room) (length t) e
    ∙ ap (λ (n : ℕ). drop (a + n) room) e in
    rw (front, back)

-- what was put is there
pub put-there : (room : List ℕ) (a : ℕ) (s : List ℕ) (n : ℕ) → length s ≡ n → a + n ≤ length room → part (put room a s) a n ≡ s
unfolding put
put-there room a s n e h =
    let la : length (take a room) ≡ a = length-take-le a room (omega arith) in
    ap (take n) (drop_at (take a room) (s ++ drop (a + length s) room) a la) ∙ take_at s (drop (a + length s) room) n e

-- a put of no bytes changes nothing
pub put-nothing : (room : List ℕ) (a : ℕ) → put room a [] ≡ room
unfolding put
put-nothing room a = let q : a + 0 ≡ a = omega arith in rw q (take-append-drop a room)
