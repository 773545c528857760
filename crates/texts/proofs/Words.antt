-- Words one behind the other, and a word over the end of the one before.
use mathlib.Core.Path.{◌≡◌, sym, ap, ◌∙◌}
use mathlib.Core.List.{List, [], ◌++◌, append_assoc, append-nil}
use Prim.Native.Nat.{ℕ, ◌+◌, ◌-◌, ◌≤◌, ◌<◌}
use native.Mathlib.Omega.{arith}
use lib.ListN.{length, take, drop, length-drop, take-append-drop, drop_of_length-le}
use borrow.Author.Tests.{leb-true, leb-false}
use lib.Dec.{leb}
use lib.Seq.{drop_at, drop-append-le, take-add, take_all, take-take, drop-drop, length-take-le, take-append-le, take-append-add, drop-append-add}
use Rattle.octets.specs.Texts.{part, put}
use Rattle.octets.proofs.Lists.{by-test}
use Rattle.octets.proofs.Texts.{length_part, put_then}

-- the word behind the j bytes from f on
pub part-next : (d : List ℕ) (at : ℕ) (s : List ℕ) (f j k : ℕ) → at + j ≤ length d → f + j ≤ length s
    → put (put d at (part s f j)) (at + j) (part s (f + j) k) ≡ put d at (part s f (j + k))
part-next d at s f j k h l =
    let t : length (part s f j) ≡ j = length_part s f j l in
    let behind : part s (f + j) k ≡ part (drop f s) j k = ap (take k) (sym (drop-drop j f s)) in
    put_then d at (part s f j) (part s (f + j) k) (at + j) (rw t) (rw t h)
    ∙ ap (λ (x : List ℕ). put d at (part s f j ++ x)) behind
    ∙ ap (put d at) (sym (take-add j k (drop f s)))

-- the word behind the first j bytes
pub put_next : (d : List ℕ) (at : ℕ) (s : List ℕ) (j k : ℕ) → at + length s ≤ length d → j + k ≤ length s
    → put (put d at (take j s)) (at + j) (part s j k) ≡ put d at (take (j + k) s)
put_next d at s j k h l =
    let start : 0 + j ≡ j = omega arith in
    let next : put (put d at (take j s)) (at + j) (part s (0 + j) k) ≡ put d at (take (j + k) s) = part-next d at s 0 j k (omega arith) (omega arith) in
    rw start at next

-- four words, each right behind the one before
pub words-64 : (d : List ℕ) (at : ℕ) (s : List ℕ) (f : ℕ) → f + 64 ≤ length s → at + 64 ≤ length d
    → put (put (put (put d at (part s f 16)) (at + 16) (part s (f + 16) 16)) (at + 32) (part s (f + 32) 16)) (at + 48) (part s (f + 48) 16) ≡ put d at (part s f 64)
words-64 d at s f l h =
    let two : put (put d at (part s f 16)) (at + 16) (part s (f + 16) 16) ≡ put d at (part s f 32) = part-next d at s f 16 16 (omega arith) (omega arith) in
    let three : put (put d at (part s f 32)) (at + 32) (part s (f + 32) 16) ≡ put d at (part s f 48) = part-next d at s f 32 16 (omega arith) (omega arith) in
    rw (two, three) (part-next d at s f 48 16 (omega arith) (omega arith))

-- a last word that starts within the first j bytes
pub put_last : (d : List ℕ) (at : ℕ) (s : List ℕ) (a j : ℕ) → at + length s ≤ length d → a ≤ j → j ≤ length s
    → put (put d at (take j s)) (at + a) (drop a s) ≡ put d at s
unfolding put
put_last d at s a j h l m =
    let f : List ℕ = take at d in
    let r : List ℕ = drop (at + length (take j s)) d in
    let lf : length f ≡ at = length-take-le at d (omega arith) in
    let lj : length (take j s) ≡ j = length-take-le j s m in
    let la : length (drop a s) ≡ length s - a = length-drop a s in
    let front : take (at + a) (f ++ (take j s ++ r)) ≡ f ++ take a s =
    ap (λ (n : ℕ). take (n + a) (f ++ (take j s ++ r))) (sym lf)
    ∙ take-append-add f (take j s ++ r) a
    ∙ ap (λ (x : List ℕ). f ++ x) (take-append-le a (take j s) r (omega (arith, lj)) ∙ take-take a j s l) in
    let count : at + a + length (drop a s) ≡ length f + (length (take j s) + (length s - j)) = omega (arith, la, lf, lj) in
    let reach : at + length (take j s) + (length s - j) ≡ at + length s = omega (arith, lj) in
    let back : drop (at + a + length (drop a s)) (f ++ (take j s ++ r)) ≡ drop (at + length s) d =
    ap (λ (n : ℕ). drop n (f ++ (take j s ++ r))) count
    ∙ drop-append-add f (take j s ++ r) (length (take j s) + (length s - j))
    ∙ drop-append-add (take j s) r (length s - j)
    ∙ drop-drop (length s - j) (at + length (take j s)) d
    ∙ ap (λ (n : ℕ). drop n d) reach in
    rw (front, back, append_assoc f (take a s) (drop a s ++ drop (at + length s) d), ← append_assoc (take a s) (drop a s) (drop (at + length s) d), take-append-drop a s)

-- a last word as it is read
pub tail-part : (s : List ℕ) (a k : ℕ) → a + k ≡ length s → part s a k ≡ drop a s
tail-part s a k e = take_all k (drop a s) (rw length-drop (omega (arith, e)))

-- a word that starts within the first j bytes and ends behind them
pub put-over : (d : List ℕ) (at : ℕ) (s : List ℕ) (a k j : ℕ) → at + length s ≤ length d → a ≤ j → j ≤ a + k → a + k ≤ length s
    → put (put d at (take j s)) (at + a) (part s a k) ≡ put d at (take (a + k) s)
put-over d at s a k j h l m n =
    let t : List ℕ = take (a + k) s in
    let lt : length t ≡ a + k = length-take-le (a + k) s n in
    let front : take j t ≡ take j s = take-take j (a + k) s m in
    let back : drop a t ≡ part s a k =
    ap (drop a) (take-add a k s) ∙ drop_at (take a s) (part s a k) a (length-take-le a s (omega arith)) in
    let p : put (put d at (take j t)) (at + a) (drop a t) ≡ put d at t = put_last d at t a j (omega (arith, lt)) l (omega (arith, lt)) in
    rw (front, back) at p

-- a word that stands there already
there : (d : List ℕ) (at : ℕ) (s : List ℕ) (a k j : ℕ) → at + length s ≤ length d → a + k ≤ j → j ≤ length s
    → take k (drop (at + a) (put d at (take j s))) ≡ part s a k
unfolding put
there d at s a k j h l m =
    let f : List ℕ = take at d in
    let r : List ℕ = drop (at + length (take j s)) d in
    let lf : length f ≡ at = length-take-le at d (omega arith) in
    let lj : length (take j s) ≡ j = length-take-le j s m in
    let e : a + (j - a) ≡ j = omega arith in
    let inner : drop a (take j s) ≡ take (j - a) (drop a s) =
    ap (λ (n : ℕ). drop a (take n s)) (sym e) ∙ ap (drop a) (take-add a (j - a) s)
    ∙ drop_at (take a s) (take (j - a) (drop a s)) a (length-take-le a s (omega arith)) in
    let li : length (drop a (take j s)) ≡ j - a = length-drop a (take j s) ∙ rw lj in
    ap (λ (n : ℕ). take k (drop (n + a) (f ++ (take j s ++ r)))) (sym lf)
    ∙ ap (take k) (drop-append-add f (take j s ++ r) a ∙ drop-append-le a (take j s) r (omega (arith, lj)))
    ∙ take-append-le k (drop a (take j s)) r (omega (arith, li))
    ∙ ap (take k) inner
    ∙ take-take k (j - a) (drop a s) (omega arith)

put_same : (x : List ℕ) (p k : ℕ) (w : List ℕ) → length w ≡ k → take k (drop p x) ≡ w → put x p w ≡ x
unfolding put
put_same x p k w l e =
    rw (l, ← e) (ap (λ (y : List ℕ). take p x ++ (take k (drop p x) ++ y)) (sym (drop-drop k p x))
    ∙ ap (λ (y : List ℕ). take p x ++ y) (take-append-drop k (drop p x)) ∙ take-append-drop p x)

pub put-within : (d : List ℕ) (at : ℕ) (s : List ℕ) (a k j : ℕ) → at + length s ≤ length d → a + k ≤ j → j ≤ length s
    → put (put d at (take j s)) (at + a) (part s a k) ≡ put d at (take j s)
put-within d at s a k j h l m =
    put_same (put d at (take j s)) (at + a) k (part s a k) (length_part s a k (omega arith)) (there d at s a k j h l m)

-- four words from both ends
pub four-words : (d : List ℕ) (at : ℕ) (s : List ℕ) → at + length s ≤ length d → 32 < length s → length s ≤ 64
    → put (put (put (put d at (take 16 s)) (at + 16) (part s 16 16)) (at + (length s - 32)) (part s (length s - 32) 16)) (at + (length s - 16)) (part s (length s - 16) 16)
    ≡ put d at s
four-words d at s h l m =
    let n : ℕ = length s in
    let two : put (put d at (take 16 s)) (at + 16) (part s 16 16) ≡ put d at (take 32 s) = put_next d at s 16 16 h (omega arith) in
    let t : part s (n - 16) 16 ≡ drop (n - 16) s = tail-part s (n - 16) 16 (omega arith) in
    by-test (leb n 48)
    (λ u.
    let q = leb-true n 48 u in
    let three : put (put d at (take 32 s)) (at + (n - 32)) (part s (n - 32) 16) ≡ put d at (take 32 s) =
    put-within d at s (n - 32) 16 32 h (omega arith) (omega arith) in
    rw (two, three, t) (put_last d at s (n - 16) 32 h (omega arith) (omega arith)))
    (λ u.
    let q = leb-false n 48 u in
    let three : put (put d at (take 32 s)) (at + (n - 32)) (part s (n - 32) 16) ≡ put d at (take (n - 32 + 16) s) =
    put-over d at s (n - 32) 16 32 h (omega arith) (omega arith) (omega arith) in
    rw (two, three, t) (put_last d at s (n - 16) (n - 32 + 16) h (omega arith) (omega arith)))
