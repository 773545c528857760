-- Eight bytes at once: two numbers of eight bytes are the same exactly if the bytes are.
use mathlib.Core.Path.{◌≡◌, refl, sym, ap, ◌∙◌}
use mathlib.Core.Bool.{Bool, true, false, ◌&&◌, and_assoc, and-false}
use mathlib.Core.List.{List, [], ◌∷◌}
use Prim.Native.Nat.{ℕ, zero, suc, ◌+◌, ◌-◌, ◌*◌, ◌≤◌, ◌<◌}
use native.Mathlib.Omega.{arith}
use borrow.Author.Tests.{eq-eqb, eqb-true, eqb-false, ne_eqb}
use lib.Bits.{bit_or, and_le_r, or_add_and, or_zero_l}
use lib.Dec.{eqb}
use lib.ListN.{length, get_or, drop}
use lib.Seq.{drop-drop}
use Rattle.octets.specs.Numbers.{low32, low64, Bytes4}
use Rattle.octets.specs.Texts.{all_zero, same}
use Rattle.octets.proofs.Lists.{and_left, and_right, by-test, same-eq, same_refl}
use Rattle.octets.proofs.Texts.{same_step, same_end, zero-cons, zero-end, zero-step}

-- the lowest digit and the rest
digit : (x y u v : ℕ) → x < 256 → y < 256 → x + u * 256 ≡ y + v * 256 → (x ≡ y) × (u ≡ v)
digit x y u v bx by e = (omega arith, omega arith)

half-word : (x y u v : ℕ) → x < 4294967296 → y < 4294967296 → x + u * 4294967296 ≡ y + v * 4294967296 → (x ≡ y) × (u ≡ v)
half-word x y u v bx by e = (omega arith, omega arith)

pub fits32 : (s : List ℕ) (a : ℕ) → Bytes4 s a → low32 s a < 4294967296
unfolding low32
fits32 s a h = omega (arith, h.byte0, h.byte1, h.byte2, h.byte3)

-- where byte i agrees, whether the rests are the same is the same question from i on and from i + 1 on. These two stand as k and m, which may be
-- any other way to write them
one_on : (s t : List ℕ) (i k m : ℕ) → i < length s → i < length t → get_or s i 0 ≡ get_or t i 0 → i ≡ k → i + 1 ≡ m
    → same (drop m s) (drop m t) ≡ same (drop k s) (drop k t)
one_on s t i k m hs ht e p q =
    ap (λ (j : ℕ). same (drop j s) (drop j t)) (sym q) ∙ same_step s t i hs ht e ∙ ap (λ (j : ℕ). same (drop j s) (drop j t)) p

four-on : (s t : List ℕ) (i : ℕ) → i + 4 ≤ length s → i + 4 ≤ length t → Bytes4 s i → Bytes4 t i → low32 s i ≡ low32 t i
    → same (drop (i + 4) s) (drop (i + 4) t) ≡ same (drop i s) (drop i t)
unfolding low32
four-on s t i hs ht bs bt e =
    let d0 = digit (get_or s i 0) (get_or t i 0) (get_or s (i + 1) 0 + get_or s (i + 2) 0 * 256 + get_or s (i + 3) 0 * 65536) (get_or t (i + 1) 0 + get_or t (i + 2) 0 * 256 + get_or t (i + 3) 0 * 65536) bs.byte0 bt.byte0 (omega arith) in
    let d1 = digit (get_or s (i + 1) 0) (get_or t (i + 1) 0) (get_or s (i + 2) 0 + get_or s (i + 3) 0 * 256) (get_or t (i + 2) 0 + get_or t (i + 3) 0 * 256) bs.byte1 bt.byte1 (omega (arith, d0.1)) in
    let d2 = digit (get_or s (i + 2) 0) (get_or t (i + 2) 0) (get_or s (i + 3) 0) (get_or t (i + 3) 0) bs.byte2 bt.byte2 (omega (arith, d1.1)) in
    one_on s t (i + 3) (i + 3) (i + 4) (omega arith) (omega arith) d2.1 refl (omega arith)
    ∙ one_on s t (i + 2) (i + 2) (i + 3) (omega arith) (omega arith) d2.0 refl (omega arith)
    ∙ one_on s t (i + 1) (i + 1) (i + 2) (omega arith) (omega arith) d1.0 refl (omega arith)
    ∙ one_on s t i i (i + 1) (omega arith) (omega arith) d0.0 refl refl

-- the same eight bytes: the rest decides
pub words_same : (s t : List ℕ) (i : ℕ) → i + 8 ≤ length s → i + 8 ≤ length t → Bytes4 s i → Bytes4 s (i + 4) → Bytes4 t i → Bytes4 t (i + 4)
    → low64 s i ≡ low64 t i → same (drop (i + 8) s) (drop (i + 8) t) ≡ same (drop i s) (drop i t)
unfolding low64
words_same s t i hs ht s0 s4 t0 t4 e =
    let d = half-word (low32 s i) (low32 t i) (low32 s (i + 4)) (low32 t (i + 4)) (fits32 s i s0) (fits32 t i t0) e in
    let there : i + 4 + 4 ≡ i + 8 = omega arith in
    ap (λ (j : ℕ). same (drop j s) (drop j t)) (sym there)
    ∙ four-on s t (i + 4) (omega arith) (omega arith) s4 t4 d.1
    ∙ four-on s t i (omega arith) (omega arith) s0 t0 d.0

-- other eight bytes: the texts differ
pub words-differ : (s t : List ℕ) (i : ℕ) → (low64 s i ≡ low64 t i → ⊥) → same s t ≡ false
words-differ s t i h = by-test (same s t) (λ e. absurd (h (ap (λ (u : List ℕ). low64 u i) (same-eq s t e)))) (λ e. e)

-- the same last eight bytes: from there on the texts are the same
pub words-end : (s t : List ℕ) (k i : ℕ) → k + 8 ≡ length s → length s ≡ length t → k ≤ i → Bytes4 s k → Bytes4 s (k + 4) → Bytes4 t k → Bytes4 t (k + 4)
    → low64 s k ≡ low64 t k → same (drop i s) (drop i t) ≡ true
words-end s t k i hs ht ki s0 s4 t0 t4 e =
    let tail : same (drop k s) (drop k t) ≡ true = sym (words_same s t k (omega arith) (omega arith) s0 s4 t0 t4 e) ∙ same_end s t (k + 8) (omega arith) (omega arith) in
    let there : k + (i - k) ≡ i = omega arith in
    let rest : drop i s ≡ drop i t =
    ap (λ (j : ℕ). drop j s) (sym there) ∙ sym (drop-drop (i - k) k s) ∙ ap (drop (i - k)) (same-eq (drop k s) (drop k t) tail) ∙ drop-drop (i - k) k t ∙ ap (λ (j : ℕ). drop j t) there in
    ap (λ (u : List ℕ). same u (drop i t)) rest ∙ same_refl (drop i t)

-- the same eight bytes, wherever they stand, are the same number
pub low-eq : (s t : List ℕ) (a b : ℕ) → ((k : ℕ) → k < 8 → get_or s (a + k) 0 ≡ get_or t (b + k) 0) → low64 s a ≡ low64 t b
unfolding low64 low32
low-eq s t a b h =
    let at : (k m n : ℕ) → k < 8 → m ≡ a + k → n ≡ b + k → get_or s m 0 ≡ get_or t n 0 =
    λ k m n l p q. ap (λ (i : ℕ). get_or s i 0) p ∙ h k l ∙ ap (λ (i : ℕ). get_or t i 0) (sym q) in
    let e0 = at 0 a b (omega arith) (omega arith) (omega arith) in
    let e1 = at 1 (a + 1) (b + 1) (omega arith) refl refl in
    let e2 = at 2 (a + 2) (b + 2) (omega arith) refl refl in
    let e3 = at 3 (a + 3) (b + 3) (omega arith) refl refl in
    let e4 = at 4 (a + 4) (b + 4) (omega arith) refl refl in
    let e5 = at 5 (a + 4 + 1) (b + 4 + 1) (omega arith) (omega arith) (omega arith) in
    let e6 = at 6 (a + 4 + 2) (b + 4 + 2) (omega arith) (omega arith) (omega arith) in
    let e7 = at 7 (a + 4 + 3) (b + 4 + 3) (omega arith) (omega arith) (omega arith) in
    rw (e0, e1, e2, e3, e4, e5, e6, e7)

-- ZERO BYTES, eight at once

-- the rest from i on is zero exactly if its first byte is, and the rest behind it; m is any other way to write i + 1
zero_one : (s : List ℕ) (i m : ℕ) → i < length s → i + 1 ≡ m → all_zero (drop i s) ≡ eqb (get_or s i 0) 0 && all_zero (drop m s)
zero_one s i m h e = zero-step s i h ∙ ap (λ (j : ℕ). eqb (get_or s i 0) 0 && all_zero (drop j s)) e

first-zero : (s : List ℕ) (i m : ℕ) → i < length s → i + 1 ≡ m → all_zero (drop i s) ≡ true → (get_or s i 0 ≡ 0) × (all_zero (drop m s) ≡ true)
first-zero s i m h e z =
    let w : eqb (get_or s i 0) 0 && all_zero (drop m s) ≡ true = sym (zero_one s i m h e) ∙ z in
    (eqb-true (get_or s i 0) 0 (and_left _ (all_zero (drop m s)) w), and_right (eqb (get_or s i 0) 0) _ w)

past-zero : (s : List ℕ) (i m : ℕ) → i < length s → i + 1 ≡ m → get_or s i 0 ≡ 0 → all_zero (drop i s) ≡ all_zero (drop m s)
past-zero s i m h e z = zero_one s i m h e ∙ ap (λ (b : Bool). b && all_zero (drop m s)) (eq-eqb (get_or s i 0) 0 z)

four-zero : (s : List ℕ) (i m : ℕ) → i + 4 ≤ length s → i + 4 ≡ m → all_zero (drop i s) ≡ true → (low32 s i ≡ 0) × (all_zero (drop m s) ≡ true)
unfolding low32
four-zero s i m h e z =
    let a = first-zero s i (i + 1) (omega arith) refl z in
    let b = first-zero s (i + 1) (i + 2) (omega arith) (omega arith) a.1 in
    let c = first-zero s (i + 2) (i + 3) (omega arith) (omega arith) b.1 in
    let d = first-zero s (i + 3) m (omega arith) (omega arith) c.1 in
    (omega (arith, a.0, b.0, c.0, d.0), d.1)

past-four : (s : List ℕ) (i m : ℕ) → i + 4 ≤ length s → i + 4 ≡ m → low32 s i ≡ 0 → all_zero (drop i s) ≡ all_zero (drop m s)
unfolding low32
past-four s i m h e z =
    past-zero s i (i + 1) (omega arith) refl (omega arith)
    ∙ past-zero s (i + 1) (i + 2) (omega arith) (omega arith) (omega arith)
    ∙ past-zero s (i + 2) (i + 3) (omega arith) (omega arith) (omega arith)
    ∙ past-zero s (i + 3) m (omega arith) (omega arith) (omega arith)

pub zero_word : (s : List ℕ) (i : ℕ) → i + 8 ≤ length s → all_zero (drop i s) ≡ true → low64 s i ≡ 0
unfolding low64
zero_word s i h z =
    let a = four-zero s i (i + 4) (omega arith) refl z in
    let b = four-zero s (i + 4) (i + 8) (omega arith) (omega arith) a.1 in
    omega (arith, a.0, b.0)

pub past_word : (s : List ℕ) (i : ℕ) → i + 8 ≤ length s → low64 s i ≡ 0 → all_zero (drop i s) ≡ all_zero (drop (i + 8) s)
unfolding low64
past_word s i h z =
    past-four s i (i + 4) (omega arith) refl (omega arith) ∙ past-four s (i + 4) (i + 8) (omega arith) (omega arith) (omega arith)

pub word-step : (s : List ℕ) (i : ℕ) → i + 8 ≤ length s → all_zero (drop i s) ≡ eqb (low64 s i) 0 && all_zero (drop (i + 8) s)
word-step s i h =
    by-test (eqb (low64 s i) 0)
    (λ e. past_word s i h (eqb-true (low64 s i) 0 e) ∙ ap (λ (b : Bool). b && all_zero (drop (i + 8) s)) (sym e))
    (λ e. by-test (all_zero (drop i s))
    (λ z. absurd (eqb-false (low64 s i) 0 e (zero_word s i h z)))
    (λ z. z ∙ ap (λ (b : Bool). b && all_zero (drop (i + 8) s)) (sym e)))

zero-drop : (n : ℕ) (s : List ℕ) → all_zero s ≡ true → all_zero (drop n s) ≡ true
zero-drop zero s z = z
zero-drop (suc n) [] z = z
zero-drop (suc n) (x ∷ s) z = zero-drop n s (and_right (eqb x 0) (all_zero s) (sym (zero-cons x s) ∙ z))

-- where the last eight bytes are zero, what is behind byte i among them is zero
pub zero_rest : (s : List ℕ) (k i : ℕ) → k + 8 ≡ length s → k ≤ i → low64 s k ≡ 0 → all_zero (drop i s) ≡ true
zero_rest s k i h le z =
    let tail : all_zero (drop k s) ≡ true = past_word s k (omega arith) z ∙ zero-end s (k + 8) (omega arith) in
    let there : k + (i - k) ≡ i = omega arith in
    ap (λ (j : ℕ). all_zero (drop j s)) (sym there) ∙ ap all_zero (sym (drop-drop (i - k) k s)) ∙ zero-drop (i - k) (drop k s) tail

-- the bits of two numbers are none exactly if both are zero
pub none_of : (x y : ℕ) → eqb (bit_or x y) 0 ≡ eqb x 0 && eqb y 0
none_of x y =
    by-test (eqb x 0)
    (λ e. let z : x ≡ 0 = eqb-true x 0 e in ap (λ (k : ℕ). eqb (bit_or k y) 0) z ∙ ap (λ (k : ℕ). eqb k 0) (or_zero_l y) ∙ ap (λ (b : Bool). b && eqb y 0) (sym e))
    (λ e. ne_eqb (bit_or x y) 0 (λ z. eqb-false x 0 e (omega (arith, or_add_and x y, and_le_r x y))) ∙ ap (λ (b : Bool). b && eqb y 0) (sym e))

-- the loop of `all_zero`: its start with the last eight bytes, one turn, its end
pub zero-first : (s : List ℕ) (k w : ℕ) → k + 8 ≤ length s → w ≡ low64 s k → eqb w 0 && all_zero (drop 0 s) ≡ all_zero s
zero-first s k w h e =
    by-test (all_zero s)
    (λ z. let none : w ≡ 0 = e ∙ zero_word s k h (zero-drop k s z) in rw (eq-eqb w 0 none))
    (λ z. rw z (and-false (eqb w 0)))

pub zero_turn : (s : List ℕ) (i some w : ℕ) → i + 8 ≤ length s → w ≡ low64 s i
    → eqb (bit_or some w) 0 && all_zero (drop (i + 8) s) ≡ eqb some 0 && all_zero (drop i s)
zero_turn s i some w h e =
    ap (λ (b : Bool). b && all_zero (drop (i + 8) s)) (none_of some w) ∙ and_assoc (eqb some 0) (eqb w 0) (all_zero (drop (i + 8) s))
    ∙ ap (λ (b : Bool). eqb some 0 && b) (ap (λ (k : ℕ). eqb k 0 && all_zero (drop (i + 8) s)) e ∙ sym (word-step s i h))

pub some-zero : (some w : ℕ) → bit_or some w ≡ 0 → some ≡ 0
some-zero some w e = eqb-true some 0 (and_left (eqb some 0) (eqb w 0) (sym (none_of some w) ∙ eq-eqb (bit_or some w) 0 e))

pub zero-last : (s : List ℕ) (k i some : ℕ) → k + 8 ≡ length s → k ≤ i → (some ≡ 0 → low64 s k ≡ 0) → eqb some 0 && all_zero (drop i s) ≡ eqb some 0
zero-last s k i some h le f =
    by-test (eqb some 0)
    (λ e. rw (e, zero_rest s k i h le (f (eqb-true some 0 e))))
    (λ e. rw e)
