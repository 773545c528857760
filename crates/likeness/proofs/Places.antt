-- An AVP at a place of an answer: what is known of one that passes the four tests, its name, its flags and its value by its bytes, and the walk from there on.
use mathlib.Core.Path.{◌≡◌, refl, sym, ap, ◌∙◌}
use mathlib.Core.Bool.{Bool, false, ◌&&◌, and-false}
use mathlib.Core.List.{List, [], ◌∷◌}
use Prim.Native.Nat.{ℕ, ◌+◌, ◌-◌, ◌%◌, ◌≤◌, ◌<◌}
use native.Mathlib.Omega.{arith}
use borrow.Author.Tests.{eqb-true, eqb-false, eq-eqb, ne_eqb, leb-true, leb-false, le-leb, lt-leb, ltb-true, ltb-false}
use lib.Dec.{eqb, leb, ltb}
use lib.ListN.{length, get_or, take, drop, length-drop}
use lib.Seq.{get_or-drop, get_or-take, drop-drop, length-take-le}
use Rattle.octets.specs.Choice.{pick}
use Rattle.octets.specs.Numbers.{net24, net32, up4}
use Rattle.octets.specs.Texts.{same}
use Rattle.octets.proofs.Lists.{by-test}
use Rattle.message.specs.ReadingAMessage.{base, vendor, same_name, head_length, avp_length, avp_code, avp_of, Walk, behind, walk}
use Rattle.message.specs.Positions.{FlagsAndLength}
use Rattle.message.proofs.Walks.{Passed, passes, up4-least, walk_end, walk-bad, walk-one}
use Rattle.message.proofs.Heads.{net24-drop, net32-drop, head-v, head-base, name-v, name-base, code-few, code-bits, code-length, code-past, code-none}
use Rattle.message.proofs.Gathering.{next-on}
use Rattle.likeness.specs.TheSameAnswer.{flag_byte, same_avp}
use Rattle.likeness.specs.Code.{avp_at, avps_from, next_at, Stands}

-- AN AVP THAT PASSES

pub stands : (m : List ℕ) (at : ℕ) → avp_code (drop at m) ≡ 0 → Stands m at
stands m at e =
    let p : Passed (drop at m) = passes (drop at m) e in
    let n : avp_length (drop at m) ≡ net24 m (at + 5) = net24-drop at 5 m in
    let w : up4 (avp_length (drop at m)) ≤ length m - at = rw length-drop at p.whole in
    let g : 8 ≤ length m - at = rw length-drop at p.eight in
    record {
      passes = e;
      eight = omega arith;
      head = omega (arith, p.head);
      end = omega (arith, up4-least (avp_length (drop at m)));
    }

-- the next place is further on, and inside
pub reaches : (m : List ℕ) (at : ℕ) → avp_code (drop at m) ≡ 0 → (at + 8 ≤ at + up4 (avp_length (drop at m))) × (at + up4 (avp_length (drop at m)) ≤ length m)
reaches m at e = next-on m at (omega (arith, (stands m at e).eight)) e

-- WHAT IS BEHIND

module _ (m : List ℕ) (at : ℕ) where
  pub next-none : (avp_code (drop at m) ≡ 0 → ⊥) → next_at m at ≡ 0
  unfolding next_at pick
  next-none f = rw (ne_eqb (avp_code (drop at m)) 0 f)

  pub next-end : length m ≤ at → next_at m at ≡ 0
  next-end h =
      let c : avp_code (drop at m) ≡ 5014 = code-few (drop at m) (rw length-drop (omega arith)) in
      next-none (λ z. omega (arith, c, z))

  pub next-is : avp_code (drop at m) ≡ 0 → next_at m at ≡ at + up4 (avp_length (drop at m))
  unfolding next_at pick
  next-is e = rw (eq-eqb (avp_code (drop at m)) 0 e)

  pub passes-here : (next_at m at ≡ 0 → ⊥) → avp_code (drop at m) ≡ 0
  passes-here f =
      by-test (eqb (avp_code (drop at m)) 0)
      (λ e. eqb-true (avp_code (drop at m)) 0 e)
      (λ e. absurd (f (next-none (eqb-false (avp_code (drop at m)) 0 e))))

  pub fails-here : next_at m at ≡ 0 → avp_code (drop at m) ≡ 0 → ⊥
  fails-here e z =
      let n : next_at m at ≡ at + up4 (avp_length (drop at m)) = next-is z in
      omega (arith, e, n, (reaches m at z).0)

  -- by its bytes: too few of them, wrong flags, a length under its header's or past the end, and what is left
  pub next-few : length m < at + 8 → next_at m at ≡ 0
  next-few h =
      let c : avp_code (drop at m) ≡ 5014 = code-few (drop at m) (rw length-drop (omega arith)) in
      next-none (λ z. omega (arith, c, z))

  module _ (g : at + 8 ≤ length m) where
    eight-left : 8 ≤ length (drop at m)
    eight-left = rw length-drop (omega arith)

    pub next-bits : (get_or m (at + 4) 0 % 32 ≡ 0 → ⊥) → next_at m at ≡ 0
    next-bits f =
        let c : avp_code (drop at m) ≡ 3009 = code-bits (drop at m) eight-left (λ z. f (rw get_or-drop at z)) in
        next-none (λ z. omega (arith, c, z))

    module _ (b : get_or m (at + 4) 0 % 32 ≡ 0) (head : ℕ) (is : head ≡ pick (leb 128 (get_or m (at + 4) 0)) 12 8) where
      bits : get_or (drop at m) 4 0 % 32 ≡ 0
      bits = rw get_or-drop b

      length-here : avp_length (drop at m) ≡ net24 m (at + 5)
      length-here = net24-drop at 5 m

      head-here : head_length (drop at m) ≡ head
      unfolding head_length
      head-here = rw get_or-drop (sym is)

      pub next-short : net24 m (at + 5) < head → next_at m at ≡ 0
      next-short h =
          let c : avp_code (drop at m) ≡ 5014 = code-length (drop at m) eight-left bits (rw (length-here, head-here) h) in
          next-none (λ z. omega (arith, c, z))

      module _ (l : head ≤ net24 m (at + 5)) where
        enough : head_length (drop at m) ≤ avp_length (drop at m)
        enough = rw (length-here, head-here) l

        pub next_past : length m < at + up4 (net24 m (at + 5)) → next_at m at ≡ 0
        next_past h =
            let c : avp_code (drop at m) ≡ 5014 = code-past (drop at m) eight-left bits enough (rw (length-here, length-drop) (omega arith)) in
            next-none (λ z. omega (arith, c, z))

        pub next-whole : at + up4 (net24 m (at + 5)) ≤ length m → next_at m at ≡ at + up4 (net24 m (at + 5))
        next-whole h =
            let c : avp_code (drop at m) ≡ 0 = code-none (drop at m) eight-left bits enough (rw (length-here, length-drop) (omega arith)) in
            next-is c ∙ ap (λ (n : ℕ). at + up4 n) length-here

  -- by flags and length as one word, and the header's length by that
  module _ (g : at + 8 ≤ length m) (w : ℕ) (o : FlagsAndLength m at w) where
    pub word-bits : 16777216 ≤ w % 536870912 → next_at m at ≡ 0
    word-bits r = next-bits g (λ z. omega (arith, o.both, o.byte, o.three))

    module _ (r : w % 536870912 < 16777216) (h : ℕ) (is : h ≡ pick (leb 2147483656 w) 12 8) where
      clear : get_or m (at + 4) 0 % 32 ≡ 0
      clear = omega (arith, o.both, o.byte, o.three)

      word-length : w % 536870912 ≡ net24 m (at + 5)
      word-length = omega (arith, o.both, o.byte, o.three, clear)

      with-v : 2147483656 ≤ w → h ≡ 12
      unfolding pick
      with-v v = is ∙ rw (le-leb 2147483656 w v)

      without-v : w < 2147483656 → h ≡ 8
      unfolding pick
      without-v v = is ∙ rw (lt-leb 2147483656 w v)

      between : (8 ≤ h) × (h ≤ 12)
      between =
          by-test (leb 2147483656 w)
          (λ t. let e : h ≡ 12 = with-v (leb-true 2147483656 w t) in (omega (arith, e), omega (arith, e)))
          (λ t. let e : h ≡ 8 = without-v (leb-false 2147483656 w t) in (omega (arith, e), omega (arith, e)))

      pub word-short : w % 536870912 < h → next_at m at ≡ 0
      unfolding pick
      word-short s =
          by-test (leb 128 (get_or m (at + 4) 0))
          (λ t. next-short g clear 12 (rw t) (omega (arith, s, word-length, between.1)))
          (λ t.
          let v : get_or m (at + 4) 0 < 128 = leb-false 128 (get_or m (at + 4) 0) t in
          let e : h ≡ 8 = without-v (omega (arith, o.both, o.three, v)) in
          next-short g clear 8 (rw t) (omega (arith, s, word-length, e)))

      module _ (l : h ≤ w % 536870912) where
        enough-here : pick (leb 128 (get_or m (at + 4) 0)) 12 8 ≤ net24 m (at + 5)
        unfolding pick
        enough-here =
            by-test (leb 128 (get_or m (at + 4) 0))
            (λ t.
            let v : 128 ≤ get_or m (at + 4) 0 = leb-true 128 (get_or m (at + 4) 0) t in
            let e : h ≡ 12 = with-v (omega (arith, o.both, v, l, word-length, between.0)) in
            rw t (omega (arith, l, word-length, e)))
            (λ t. rw t (omega (arith, l, word-length, between.0)))

        pub word-past : length m < at + up4 (w % 536870912) → next_at m at ≡ 0
        word-past p = next_past g clear (pick (leb 128 (get_or m (at + 4) 0)) 12 8) refl enough-here (rw word-length at p)

        pub word-whole : at + up4 (w % 536870912) ≤ length m → next_at m at ≡ at + up4 (w % 536870912)
        word-whole p =
            next-whole g clear (pick (leb 128 (get_or m (at + 4) 0)) 12 8) refl enough-here (rw word-length at p) ∙ ap (λ (n : ℕ). at + up4 n) (sym word-length)

  -- the walk from there on
  pub from-none : next_at m at ≡ 0 → avps_from m at ≡ []
  from-none e =
      by-test (eqb (length (drop at m)) 0)
      (λ t. ap (λ (w : Walk). w.avps) (walk_end avp_code (λ s e. e) (drop at m) (eqb-true (length (drop at m)) 0 t)))
      (λ t.
      let l : length (drop at m) ≡ 0 → ⊥ = eqb-false (length (drop at m)) 0 t in
      let c : avp_code (drop at m) ≡ 0 → ⊥ = fails-here e in
      ap (λ (w : Walk). w.avps) (walk-bad avp_code (λ s e. e) (drop at m) (omega arith) (omega arith)))

  pub from-here : (n : ℕ) → next_at m at ≡ n → (n ≡ 0 → ⊥) → avps_from m at ≡ avp_at m at ∷ avps_from m n
  unfolding behind
  from-here n e f =
      let k : avp_code (drop at m) ≡ 0 = passes-here (λ z. f (sym e ∙ z)) in
      let d : drop (up4 (avp_length (drop at m))) (drop at m) ≡ drop n m = drop-drop (up4 (avp_length (drop at m))) at m ∙ ap (λ (i : ℕ). drop i m) (sym (next-is k) ∙ e) in
      ap (λ (w : Walk). w.avps) (walk-one avp_code (λ s e. e) (drop at m) k) ∙ ap (λ (t : List ℕ). avp_at m at ∷ (walk t).avps) d

  -- the bytes of an AVP reach to the next
  pub bytes-reach : (n : ℕ) → next_at m at ≡ n → (n ≡ 0 → ⊥) → at + length (avp_at m at).bytes ≡ n
  unfolding avp_of
  bytes-reach n e f =
      let k : avp_code (drop at m) ≡ 0 = passes-here (λ z. f (sym e ∙ z)) in
      let p : Passed (drop at m) = passes (drop at m) k in
      rw (length-take-le (up4 (avp_length (drop at m))) (drop at m) p.whole) (sym (next-is k) ∙ e)

-- its bytes lie inside
pub inside : (m : List ℕ) (at next : ℕ) → next_at m at ≡ next → (next ≡ 0 → ⊥) → (at + 8 ≤ next) × (next ≤ length m)
inside m at next e f =
    let k : avp_code (drop at m) ≡ 0 = passes-here m at (λ z. f (sym e ∙ z)) in
    let r = reaches m at k in
    let n : next ≡ at + up4 (avp_length (drop at m)) = sym e ∙ next-is m at k in
    (omega (arith, r.0, n), omega (arith, r.1, n))

-- whether its V is set, by the word: its length is 8 at least
pub word-v : (m : List ℕ) (at w : ℕ) → FlagsAndLength m at w → Stands m at → leb 2147483656 w ≡ leb 128 (get_or m (at + 4) 0)
unfolding head_length pick
word-v m at w o s =
    by-test (leb 128 (get_or m (at + 4) 0))
    (λ t.
    let v : 128 ≤ get_or m (at + 4) 0 = leb-true 128 (get_or m (at + 4) 0) t in
    let e : head_length (drop at m) ≡ 12 = head-v (drop at m) (rw get_or-drop v) in
    le-leb 2147483656 w (omega (arith, o.both, v, s.head, e)) ∙ sym t)
    (λ t.
    let v : get_or m (at + 4) 0 < 128 = leb-false 128 (get_or m (at + 4) 0) t in
    lt-leb 2147483656 w (omega (arith, o.both, o.three, v)) ∙ sym t)

-- ITS VALUE

module _ (m : List ℕ) (at : ℕ) where
  value-by : (head : ℕ) → head_length (drop at m) ≡ head → take (at + net24 m (at + 5) - (at + head)) (drop (at + head) m) ≡ (avp_at m at).value
  unfolding avp_of
  value-by head h =
      let n : avp_length (drop at m) ≡ net24 m (at + 5) = net24-drop at 5 m in
      let q : at + net24 m (at + 5) - (at + head) ≡ net24 m (at + 5) - head = omega arith in
      rw (h, n, drop-drop head at m, q)

  pub value-8 : get_or m (at + 4) 0 < 128 → take (at + net24 m (at + 5) - (at + 8)) (drop (at + 8) m) ≡ (avp_at m at).value
  value-8 v = value-by 8 (head-base (drop at m) (rw get_or-drop v))

  pub value-12 : 128 ≤ get_or m (at + 4) 0 → take (at + net24 m (at + 5) - (at + 12)) (drop (at + 12) m) ≡ (avp_at m at).value
  value-12 v = value-by 12 (head-v (drop at m) (rw get_or-drop v))

  pub head-of-8 : get_or m (at + 4) 0 < 128 → head_length (drop at m) ≡ 8
  head-of-8 v = head-base (drop at m) (rw get_or-drop v)

  pub head-of-12 : 128 ≤ get_or m (at + 4) 0 → head_length (drop at m) ≡ 12
  head-of-12 v = head-v (drop at m) (rw get_or-drop v)

  -- its flags and its name
  pub flags-are : avp_code (drop at m) ≡ 0 → flag_byte (avp_at m at) ≡ get_or m (at + 4) 0
  unfolding flag_byte avp_of
  flags-are k =
      let h : 4 < up4 (avp_length (drop at m)) = omega (arith, (reaches m at k).0) in
      get_or-take (up4 (avp_length (drop at m))) (drop at m) 4 0 h ∙ get_or-drop at m 4 0

  pub named-base : get_or m (at + 4) 0 < 128 → (avp_at m at).name ≡ base (net32 m at)
  named-base v =
      let z : at + 0 ≡ at = omega arith in
      name-base (drop at m) (rw get_or-drop v) ∙ rw (net32-drop at 0 m, z)

  pub named-vendor : 128 ≤ get_or m (at + 4) 0 → (avp_at m at).name ≡ vendor (net32 m (at + 8)) (net32 m at)
  named-vendor v =
      let z : at + 0 ≡ at = omega arith in
      name-v (drop at m) (rw get_or-drop v) ∙ rw (net32-drop at 8 m, net32-drop at 0 m, z)

  pub is-base-v : (code : ℕ) → 128 ≤ get_or m (at + 4) 0 → same_name (base code) (avp_at m at).name ≡ false
  unfolding same_name
  is-base-v code v = rw (named-vendor v)

  pub is-base-code : (code : ℕ) → get_or m (at + 4) 0 < 128 → same_name (base code) (avp_at m at).name ≡ eqb code (net32 m at)
  unfolding same_name
  is-base-code code v = rw (named-base v)

-- TWO AVPS

module _ (a : List ℕ) (p : ℕ) (b : List ℕ) (q : ℕ) where
  abbrev names_same : Bool
  names_same = same_name (avp_at a p).name (avp_at b q).name

  pub names-base : get_or a (p + 4) 0 < 128 → get_or b (q + 4) 0 < 128 → names_same ≡ eqb (net32 a p) (net32 b q)
  unfolding same_name
  names-base v w = rw (named-base a p v, named-base b q w)

  pub names-vendor : 128 ≤ get_or a (p + 4) 0 → 128 ≤ get_or b (q + 4) 0 → names_same ≡ eqb (net32 a (p + 8)) (net32 b (q + 8)) && eqb (net32 a p) (net32 b q)
  unfolding same_name
  names-vendor v w = rw (named-vendor a p v, named-vendor b q w)

  pub names-left : get_or a (p + 4) 0 < 128 → 128 ≤ get_or b (q + 4) 0 → names_same ≡ false
  unfolding same_name
  names-left v w = rw (named-base a p v, named-vendor b q w)

  pub names-right : 128 ≤ get_or a (p + 4) 0 → get_or b (q + 4) 0 < 128 → names_same ≡ false
  unfolding same_name
  names-right v w = rw (named-vendor a p v, named-base b q w)

  pub names-codes : (net32 a p ≡ net32 b q → ⊥) → names_same ≡ false
  names-codes f =
      by-test (leb 128 (get_or a (p + 4) 0))
      (λ s. by-test (leb 128 (get_or b (q + 4) 0))
      (λ t. names-vendor (leb-true 128 _ s) (leb-true 128 _ t) ∙ rw (ne_eqb (net32 a p) (net32 b q) f, and-false (eqb (net32 a (p + 8)) (net32 b (q + 8)))))
      (λ t. names-right (leb-true 128 _ s) (leb-false 128 _ t)))
      (λ s. by-test (leb 128 (get_or b (q + 4) 0))
      (λ t. names-left (leb-false 128 _ s) (leb-true 128 _ t))
      (λ t. names-base (leb-false 128 _ s) (leb-false 128 _ t) ∙ ne_eqb (net32 a p) (net32 b q) f))

  -- where the codes are the same, V and vendor decide
  module _ (c : net32 a p ≡ net32 b q) where
    pub names-when-base : get_or a (p + 4) 0 < 128 → names_same ≡ ltb (get_or b (q + 4) 0) 128
    names-when-base v =
        by-test (ltb (get_or b (q + 4) 0) 128)
        (λ t. names-base v (ltb-true (get_or b (q + 4) 0) 128 t) ∙ eq-eqb (net32 a p) (net32 b q) c ∙ sym t)
        (λ t. names-left v (ltb-false (get_or b (q + 4) 0) 128 t) ∙ sym t)

    pub names-when-vendor : 128 ≤ get_or a (p + 4) 0 → 128 ≤ get_or b (q + 4) 0 → names_same ≡ eqb (net32 a (p + 8)) (net32 b (q + 8))
    names-when-vendor v w = names-vendor v w ∙ rw (eq-eqb (net32 a p) (net32 b q) c) (by-test (eqb (net32 a (p + 8)) (net32 b (q + 8))) (λ t. rw t) (λ t. rw t))

  module _ (h : avp_code (drop p a) ≡ 0) (k : avp_code (drop q b) ≡ 0) where
    pub flags-differ : (get_or a (p + 4) 0 ≡ get_or b (q + 4) 0 → ⊥) → same_avp (avp_at a p) (avp_at b q) ≡ false
    unfolding same_avp
    flags-differ f = rw (flags-are a p h, flags-are b q k, ne_eqb (get_or a (p + 4) 0) (get_or b (q + 4) 0) f)

    pub flags-agree : get_or a (p + 4) 0 ≡ get_or b (q + 4) 0 → same_avp (avp_at a p) (avp_at b q) ≡ same (avp_at a p).value (avp_at b q).value
    unfolding same_avp
    flags-agree e = rw (flags-are a p h, flags-are b q k, eq-eqb (get_or a (p + 4) 0) (get_or b (q + 4) 0) e)
