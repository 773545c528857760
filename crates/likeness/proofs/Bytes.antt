-- An AVP is what its own bytes say: where two have the same bytes they are the same.
use mathlib.Core.Path.{◌≡◌, refl, sym, ap, ◌∙◌}
use mathlib.Core.Bool.{Bool, true}
use mathlib.Core.List.{List, [], ◌∷◌}
use Prim.Native.Nat.{ℕ, zero, suc, ◌+◌, ◌-◌, ◌≤◌, ◌<◌}
use native.Mathlib.Omega.{arith}
use borrow.Author.Tests.{leb-true, leb-false}
use lib.Dec.{leb}
use lib.ListN.{length, get_or, take, drop, length-drop}
use lib.Seq.{get_or-take, take-take}
use Rattle.octets.specs.Choice.{pick}
use Rattle.octets.specs.Numbers.{net24, net32, up4}
use Rattle.octets.specs.Texts.{same}
use Rattle.octets.proofs.Lists.{by-test, same-eq}
use Rattle.message.specs.ReadingAMessage.{Name, head_length, avp_length, avp_code, Avp, avp_of}
use Rattle.message.proofs.Walks.{Passed, passes, up4-least}
use Rattle.message.proofs.Heads.{head-v, name-v, name-base, code-none}
use Rattle.likeness.specs.Code.{avp_at, next_at}
use Rattle.likeness.proofs.Places.{passes-here, next-is}

-- AN AVP BY ITS BYTES

same-fields : (x y : Avp) → x.name ≡ y.name → x.mandatory ≡ y.mandatory → x.value ≡ y.value → x.bytes ≡ y.bytes → x ≡ y
same-fields x y a b c d =
    ap (λ (n : Name). record { name = n; mandatory = x.mandatory; value = x.value; bytes = x.bytes }) a
    ∙ ap (λ (m : Bool). record { name = y.name; mandatory = m; value = x.value; bytes = x.bytes }) b
    ∙ ap (λ (v : List ℕ). record { name = y.name; mandatory = y.mandatory; value = v; bytes = x.bytes }) c
    ∙ ap (λ (w : List ℕ). record { name = y.name; mandatory = y.mandatory; value = y.value; bytes = w }) d

inner : (h l n : ℕ) (s : List ℕ) → h + l ≤ n → take l (drop h (take n s)) ≡ take l (drop h s)
inner zero l n s g = take-take l n s (omega arith)
inner (suc h) l (suc n) [] g = refl
inner (suc h) l (suc n) (x ∷ s) g = inner h l n s (omega arith)
inner (suc h) l zero s g = absurd (omega arith)

module _ (s : List ℕ) (e : avp_code s ≡ 0) where
  abbrev whole : ℕ
  whole = up4 (avp_length s)

  abbrev own : List ℕ
  own = take whole s

  least : 8 ≤ head_length s
  unfolding head_length pick
  least = by-test (leb 128 (get_or s 4 0)) (λ t. rw t (omega arith)) (λ t. rw t (omega arith))

  room : head_length s ≤ whole
  room = omega (arith, (passes s e).head, up4-least (avp_length s))

  byte : (i : ℕ) → i < whole → get_or own i 0 ≡ get_or s i 0
  byte i h = get_or-take whole s i 0 h

  number24 : (a : ℕ) → a + 2 < whole → net24 own a ≡ net24 s a
  unfolding net24
  number24 a h = rw (byte a (omega arith), byte (a + 1) (omega arith), byte (a + 2) (omega arith))

  number32 : (a : ℕ) → a + 3 < whole → net32 own a ≡ net32 s a
  unfolding net32
  number32 a h = rw (byte a (omega arith), byte (a + 1) (omega arith), byte (a + 2) (omega arith), byte (a + 3) (omega arith))

  flags : get_or own 4 0 ≡ get_or s 4 0
  flags = byte 4 (omega (arith, least, room))

  head-own : head_length own ≡ head_length s
  unfolding head_length
  head-own = rw flags

  length-own : avp_length own ≡ avp_length s
  length-own = number24 5 (omega (arith, least, room))

  name-own : (avp_of own).name ≡ (avp_of s).name
  name-own =
      by-test (leb 128 (get_or s 4 0))
      (λ t.
      let v : 128 ≤ get_or s 4 0 = leb-true 128 (get_or s 4 0) t in
      let h : head_length s ≡ 12 = head-v s v in
      name-v own (rw flags v) ∙ rw (number32 8 (omega (arith, h, room)), number32 0 (omega (arith, least, room))) (sym (name-v s v)))
      (λ t.
      let v : get_or s 4 0 < 128 = leb-false 128 (get_or s 4 0) t in
      name-base own (rw flags v) ∙ rw (number32 0 (omega (arith, least, room))) (sym (name-base s v)))

  mandatory-own : (avp_of own).mandatory ≡ (avp_of s).mandatory
  unfolding avp_of
  mandatory-own = rw flags

  value-own : (avp_of own).value ≡ (avp_of s).value
  unfolding avp_of
  value-own = rw (head-own, length-own) (inner (head_length s) (avp_length s - head_length s) whole s (omega (arith, (passes s e).head, up4-least (avp_length s))))

  bytes-own : (avp_of own).bytes ≡ (avp_of s).bytes
  unfolding avp_of
  bytes-own = rw length-own (take-take whole whole s (omega arith))

  own-says : avp_of own ≡ avp_of s
  own-says = same-fields (avp_of own) (avp_of s) name-own mandatory-own value-own bytes-own

-- TWO OF THEM

-- bytes that are those of an AVP which passes the four tests are such an AVP too
module _ (s t : List ℕ) (e : avp_code s ≡ 0) (w : take (up4 (avp_length s)) t ≡ take (up4 (avp_length s)) s) (l : up4 (avp_length s) ≤ length t) where
  same_byte : (i : ℕ) → i < up4 (avp_length s) → get_or t i 0 ≡ get_or s i 0
  same_byte i h = sym (get_or-take (up4 (avp_length s)) t i 0 h) ∙ ap (λ (x : List ℕ). get_or x i 0) w ∙ get_or-take (up4 (avp_length s)) s i 0 h

  eight : 8 ≤ up4 (avp_length s)
  eight = omega (arith, least s e, room s e)

  length-same : avp_length t ≡ avp_length s
  unfolding net24
  length-same = rw (same_byte 5 (omega (arith, eight)), same_byte 6 (omega (arith, eight)), same_byte 7 (omega (arith, eight)))

  head-same : head_length t ≡ head_length s
  unfolding head_length
  head-same = rw (same_byte 4 (omega (arith, eight)))

  passes-too : avp_code t ≡ 0
  passes-too =
      let p : Passed s = passes s e in
      code-none t (omega (arith, eight, l)) (rw (same_byte 4 (omega (arith, eight))) p.clear) (rw (head-same, length-same) p.head) (rw length-same l)

reach : (m : List ℕ) (at next : ℕ) → next_at m at ≡ next → (next ≡ 0 → ⊥) → (avp_code (drop at m) ≡ 0) × (up4 (avp_length (drop at m)) ≡ next - at)
reach m at next e f =
    let k : avp_code (drop at m) ≡ 0 = passes-here m at (λ z. f (sym e ∙ z)) in
    (k, omega (arith, next-is m at k, e))

pub avps-same : (a : List ℕ) (p s : ℕ) → next_at a p ≡ s → (s ≡ 0 → ⊥) → (b : List ℕ) (q t : ℕ) → next_at b q ≡ t → (t ≡ 0 → ⊥)
    → same (take (s - p) (drop p a)) (take (t - q) (drop q b)) ≡ true → avp_at a p ≡ avp_at b q
avps-same a p s e f b q t g h i =
    let x = reach a p s e f in
    let y = reach b q t g h in
    sym (own-says (drop p a) x.0)
    ∙ ap (λ (n : ℕ). avp_of (take n (drop p a))) x.1
    ∙ ap avp_of (same-eq (take (s - p) (drop p a)) (take (t - q) (drop q b)) i)
    ∙ ap (λ (n : ℕ). avp_of (take n (drop q b))) (sym y.1)
    ∙ own-says (drop q b) y.0

pub same_next : (a : List ℕ) (p s : ℕ) (b : List ℕ) (q t : ℕ) → next_at b q ≡ t → (t ≡ 0 → ⊥) → s ≡ p + (t - q) → s ≤ length a
    → same (take (s - p) (drop p a)) (take (t - q) (drop q b)) ≡ true → next_at a p ≡ s
same_next a p s b q t g h e l i =
    let y = reach b q t g h in
    let n : s - p ≡ up4 (avp_length (drop q b)) = omega (arith, y.1, e) in
    let w : take (up4 (avp_length (drop q b))) (drop p a) ≡ take (up4 (avp_length (drop q b))) (drop q b) =
    ap (λ (j : ℕ). take j (drop p a)) (sym n) ∙ same-eq (take (s - p) (drop p a)) (take (t - q) (drop q b)) i ∙ ap (λ (j : ℕ). take j (drop q b)) (sym y.1) in
    let r : up4 (avp_length (drop q b)) ≤ length (drop p a) = rw length-drop (omega (arith, n, e, l)) in
    let k : avp_code (drop p a) ≡ 0 = passes-too (drop q b) (drop p a) y.0 w r in
    next-is a p k ∙ ap (λ (j : ℕ). p + up4 j) (length-same (drop q b) (drop p a) y.0 w r) ∙ omega (arith, n, e)
