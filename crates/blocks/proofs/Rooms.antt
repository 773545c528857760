-- The last room of a place and the bytes behind it are one stretch of zeros.
use mathlib.Core.Path.{◌≡◌, refl, sym, ap, ◌∙◌}
use mathlib.Core.Bool.{Bool, true, ◌&&◌, and_assoc, and-true}
use mathlib.Core.List.{List, [], ◌∷◌, ◌++◌}
use Prim.Native.Nat.{ℕ, ◌+◌, ◌-◌, ◌*◌, ◌<◌, ◌≤◌}
use native.Mathlib.Omega.{arith}
use borrow.Author.Tests.{eqb-true, eqb-false, eq-eqb}
use lib.Dec.{eqb, leb}
use lib.ListN.{length, get_or, take, drop}
use lib.Seq.{drop-drop, get_or-drop, get_or-take, take-add}
use Rattle.octets.specs.Numbers.{net32}
use Rattle.octets.specs.Texts.{all_zero, part}
use Rattle.octets.specs.Lists.{up_to0}
use Rattle.octets.proofs.Lists.{and_left, and_right, by-test}
use Rattle.octets.proofs.Texts.{length_part, zero-cons, zero-end, zero-step}
use Rattle.table.specs.Soundness.{head_form, is_name, zero_behind}
use Rattle.octets.proofs.Pieces.{drop-take}

pub zero-append : (s t : List ℕ) → all_zero (s ++ t) ≡ all_zero s && all_zero t
unfolding all_zero Rattle.octets.specs.Texts.same Rattle.octets.specs.Texts.zeros
zero-append [] t = refl
zero-append (x ∷ s) t =
    zero-cons x (s ++ t) ∙ ap (λ (b : Bool). eqb x 0 && b) (zero-append s t)
    ∙ sym (and_assoc (eqb x 0) (all_zero s) (all_zero t)) ∙ ap (λ (b : Bool). b && all_zero t) (sym (zero-cons x s))

-- what stands behind n bytes of the last room, up to the sums
pub last-room : (b : List ℕ) (n m : ℕ) → n ≡ m → m ≤ 128
    → all_zero (take (510 - (264 + n)) (drop (264 + n) b)) ≡ zero_behind m (part b 264 128) && all_zero (part b 392 118)
unfolding zero_behind
last-room b n m e h =
    let q : 510 - (264 + n) ≡ 128 - m + 118 = omega arith in
    let p : 264 + n ≡ 264 + m = omega arith in
    let r : 264 + m + (128 - m) ≡ 392 = omega arith in
    let room : drop m (take 128 (drop 264 b)) ≡ take (128 - m) (drop (264 + m) b) =
    drop-take m (128 - m) 128 (drop 264 b) (omega arith) ∙ ap (take (128 - m)) (drop-drop m 264 b) in
    rw (q, p, take-add (128 - m) 118 (drop (264 + m) b), drop-drop (128 - m) (264 + m) b, r, room)
    (zero-append (take (128 - m) (drop (264 + m) b)) (part b 392 118))

-- a number of four bytes is 0 exactly if each of them is
four_bytes : (w x y z : ℕ) → eqb (w * 16777216 + x * 65536 + y * 256 + z) 0 ≡ eqb w 0 && (eqb x 0 && (eqb y 0 && (eqb z 0 && true)))
four_bytes w x y z =
    by-test (eqb (w * 16777216 + x * 65536 + y * 256 + z) 0)
    (λ e. let t : w * 16777216 + x * 65536 + y * 256 + z ≡ 0 = eqb-true _ 0 e in
    rw (e, eq-eqb w 0 (omega (arith, t)), eq-eqb x 0 (omega (arith, t)), eq-eqb y 0 (omega (arith, t)), eq-eqb z 0 (omega (arith, t))))
    (λ e. let f = eqb-false (w * 16777216 + x * 65536 + y * 256 + z) 0 e in
    rw e (by-test (eqb w 0)
    (λ a. by-test (eqb x 0)
    (λ b. by-test (eqb y 0)
    (λ c. by-test (eqb z 0)
    (λ d. absurd (f (omega (arith, eqb-true w 0 a, eqb-true x 0 b, eqb-true y 0 c, eqb-true z 0 d))))
    (λ d. rw (a, b, c, d)))
    (λ c. rw (a, b, c)))
    (λ b. rw (a, b)))
    (λ a. rw a)))

-- four bytes are zero exactly if their number is
pub four-zero : (b : List ℕ) (a : ℕ) → a + 4 ≤ length b → eqb (net32 b a) 0 ≡ all_zero (part b a 4)
unfolding net32
four-zero b a h =
    let s : List ℕ = part b a 4 in
    let n : length s ≡ 4 = length_part b a 4 h in
    let at : (i : ℕ) → i < 4 → get_or s i 0 ≡ get_or b (a + i) 0 = λ i l. get_or-take 4 (drop a b) i 0 l ∙ get_or-drop a b i 0 in
    let z0 : all_zero s ≡ eqb (get_or s 0 0) 0 && all_zero (drop 1 s) = zero-step s 0 (omega arith) in
    let z1 : all_zero (drop 1 s) ≡ eqb (get_or s 1 0) 0 && all_zero (drop 2 s) = zero-step s 1 (omega arith) in
    let z2 : all_zero (drop 2 s) ≡ eqb (get_or s 2 0) 0 && all_zero (drop 3 s) = zero-step s 2 (omega arith) in
    let z3 : all_zero (drop 3 s) ≡ eqb (get_or s 3 0) 0 && true =
    zero-step s 3 (omega arith) ∙ ap (λ (t : Bool). eqb (get_or s 3 0) 0 && t) (zero-end s 4 (omega arith)) in
    let b0 : get_or s 0 0 ≡ get_or b a 0 = at 0 (omega arith) ∙ ap (λ (i : ℕ). get_or b i 0) (omega arith) in
    let b1 : get_or s 1 0 ≡ get_or b (a + 1) 0 = at 1 (omega arith) in
    let b2 : get_or s 2 0 ≡ get_or b (a + 2) 0 = at 2 (omega arith) in
    let b3 : get_or s 3 0 ≡ get_or b (a + 3) 0 = at 3 (omega arith) in
    let all : all_zero s ≡ eqb (get_or b a 0) 0 && (eqb (get_or b (a + 1) 0) 0 && (eqb (get_or b (a + 2) 0) 0 && (eqb (get_or b (a + 3) 0) 0 && true))) =
    rw (z0, z1, z2, z3, b0, b1, b2, b3) in
    four_bytes (get_or b a 0) (get_or b (a + 1) 0) (get_or b (a + 2) 0) (get_or b (a + 3) 0) ∙ sym all

-- block 0 has its form, where all but the gap behind its order line is known
pub head-but-gap : (b : List ℕ) → eqb (get_or b 0 0) 1 ≡ true → is_name (part b 2 (get_or b 1 0)) && zero_behind (get_or b 1 0) (part b 2 15) ≡ true → leb (get_or b 18 0) 4 ≡ true
    → leb (get_or b 19 0) 15 ≡ true → zero_behind (length (up_to0 (part b 20 8))) (part b 20 8) ≡ true → all_zero (part b 448 62) ≡ true → all_zero (part b 28 4) ≡ head_form b
unfolding head_form
head-but-gap b e1 e2 e3 e4 e5 e6 =
    rw (e1, and_left (is_name (part b 2 (get_or b 1 0))) _ e2, and_right (is_name (part b 2 (get_or b 1 0))) _ e2, e3, e4, e5, e6) (sym (and-true (all_zero (part b 28 4))))
