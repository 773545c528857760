-- The tests of the message, of its header and of one AVP, a law for each way out of them.
use mathlib.Core.Path.{◌≡◌, refl, sym, ◌∙◌}
use mathlib.Core.List.{List}
use Prim.Native.Nat.{ℕ, zero, suc, ◌+◌, ◌*◌, ◌/◌, ◌%◌, ◌≤◌, ◌<◌}
use native.Mathlib.Nat.{add_assoc}
use native.Mathlib.Omega.{arith}
use borrow.Author.Tests.{eqb-true, eqb-false, eq-eqb, ne_eqb, le-leb, lt-leb, leb-true, leb-false}
use lib.Dec.{eqb, leb}
use lib.ListN.{length, get_or, drop, length-drop}
use lib.Seq.{get_or-drop}
use Rattle.octets.specs.Choice.{pick, require, first_of, within}
use Rattle.octets.specs.Numbers.{net24, net32, up4}
use Rattle.octets.proofs.Lists.{by-test}
use Rattle.message.specs.CallsThatGetNoAnswer.{message_most, message_number}
use Rattle.message.specs.ReadingAMessage.{base, vendor, flags, command, application, header_code, head_length, avp_length, avp_code, avp_of}
use Rattle.std.specs.Prelude.{Result, Ok, Err}
use Rattle.message.specs.declared.Spot.{Spot}
use Rattle.message.specs.declared.Failure.{Failure}
use Rattle.message.specs.declared.Failure.TheVariants.{InvalidAvpBits, InvalidAvpLength}
use Rattle.message.specs.Failures.{failure_code, failed_with}
use Rattle.message.specs.Positions.{slot_of, spot_at, HeadAt, FlagsAndLength}

-- THE MESSAGE

module _ (m : List ℕ) where
  pub number_short : length m < 20 → message_number m ≡ 5
  unfolding message_number first_of require pick within
  number_short h = simp (lt-leb 20 (length m) h)

  pub number-long : 20 ≤ length m → message_most < length m → message_number m ≡ 5
  unfolding message_number first_of require pick within
  number-long h k = simp (le-leb 20 (length m) h, lt-leb (length m) message_most k)

  module _ (h : 20 ≤ length m) (k : length m ≤ message_most) where
    pub number-version : (get_or m 0 0 ≡ 1 → ⊥) → message_number m ≡ 6
    unfolding message_number first_of require pick within
    number-version v = simp (le-leb 20 (length m) h, le-leb (length m) message_most k, ne_eqb (get_or m 0 0) 1 v)

    module _ (v : get_or m 0 0 ≡ 1) where
      pub number-length : (net24 m 1 ≡ length m → ⊥) → message_number m ≡ 7
      unfolding message_number first_of require pick within
      number-length l = simp (le-leb 20 (length m) h, le-leb (length m) message_most k, eq-eqb (get_or m 0 0) 1 v, ne_eqb (net24 m 1) (length m) l)

      module _ (l : net24 m 1 ≡ length m) where
        pub number-four : (length m % 4 ≡ 0 → ⊥) → message_number m ≡ 7
        unfolding message_number first_of require pick within
        number-four f =
            simp (le-leb 20 (length m) h, le-leb (length m) message_most k, eq-eqb (get_or m 0 0) 1 v, eq-eqb (net24 m 1) (length m) l, ne_eqb (length m % 4) 0 f)

        module _ (f : length m % 4 ≡ 0) where
          pub number-answer : get_or m 4 0 < 128 → message_number m ≡ 8
          unfolding message_number first_of require pick within
          number-answer r =
              simp (le-leb 20 (length m) h, le-leb (length m) message_most k, eq-eqb (get_or m 0 0) 1 v, eq-eqb (net24 m 1) (length m) l, eq-eqb (length m % 4) 0 f, lt-leb 128 (get_or m 4 0) r)

          pub number-none : 128 ≤ get_or m 4 0 → message_number m ≡ 0
          unfolding message_number first_of require pick within
          number-none r =
              simp (le-leb 20 (length m) h, le-leb (length m) message_most k, eq-eqb (get_or m 0 0) 1 v, eq-eqb (net24 m 1) (length m) l, eq-eqb (length m % 4) 0 f, le-leb 128 (get_or m 4 0) r)

-- THE HEADER

ne-lt : (n : ℕ) → n ≤ 1 → (n ≡ 1 → ⊥) → n ≡ 0
ne-lt zero h k = refl
ne-lt (suc n) h k = absurd (k (omega arith))

module _ (m : List ℕ) where
  pub header-bits : (flags m % 16 ≡ 0 → ⊥) → header_code m ≡ 5013
  unfolding header_code first_of require pick
  header-bits b = simp (ne_eqb (flags m % 16) 0 b)

  module _ (b : flags m % 16 ≡ 0) where
    pub header-error : (flags m / 32 % 2 ≡ 0 → ⊥) → header_code m ≡ 3008
    unfolding header_code first_of require pick
    header-error e = simp (eq-eqb (flags m % 16) 0 b, ne_eqb (flags m / 32 % 2) 0 e)

    module _ (e : flags m / 32 % 2 ≡ 0) where
      pub header-command : (command m ≡ 265 → ⊥) → (command m ≡ 275 → ⊥) → header_code m ≡ 3001
      unfolding header_code first_of require pick
      header-command p q = simp (eq-eqb (flags m % 16) 0 b, eq-eqb (flags m / 32 % 2) 0 e, ne_eqb (command m) 265 p, ne_eqb (command m) 275 q)

      pub header-265 : command m ≡ 265 → application m ≡ 1 → header_code m ≡ 0
      unfolding header_code first_of require pick
      header-265 p a = simp (eq-eqb (flags m % 16) 0 b, eq-eqb (flags m / 32 % 2) 0 e, eq-eqb (command m) 265 p, eq-eqb (application m) 1 a)

      pub header-265-other : command m ≡ 265 → (application m ≡ 1 → ⊥) → header_code m ≡ 3007
      unfolding header_code first_of require pick
      header-265-other p a =
          let q : command m ≡ 275 → ⊥ = λ w. omega arith in
          simp (eq-eqb (flags m % 16) 0 b, eq-eqb (flags m / 32 % 2) 0 e, eq-eqb (command m) 265 p, ne_eqb (command m) 275 q, ne_eqb (application m) 1 a)

      pub header-275-one : command m ≡ 275 → application m ≡ 1 → header_code m ≡ 0
      unfolding header_code first_of require pick
      header-275-one p a =
          let q : command m ≡ 265 → ⊥ = λ w. omega arith in
          simp (eq-eqb (flags m % 16) 0 b, eq-eqb (flags m / 32 % 2) 0 e, ne_eqb (command m) 265 q, eq-eqb (command m) 275 p, eq-eqb (application m) 1 a)

      pub header-275-zero : command m ≡ 275 → application m ≡ 0 → header_code m ≡ 0
      unfolding header_code first_of require pick
      header-275-zero p a =
          let q : command m ≡ 265 → ⊥ = λ w. omega arith in
          let o : application m ≡ 1 → ⊥ = λ w. omega arith in
          simp (eq-eqb (flags m % 16) 0 b, eq-eqb (flags m / 32 % 2) 0 e, ne_eqb (command m) 265 q, eq-eqb (command m) 275 p, ne_eqb (application m) 1 o, eq-eqb (application m) 0 a)

      pub header-275 : command m ≡ 275 → application m ≤ 1 → header_code m ≡ 0
      header-275 p a =
          by-test (eqb (application m) 1)
          (λ t. header-275-one p (eqb-true (application m) 1 t))
          (λ t. header-275-zero p (let n = eqb-false (application m) 1 t in omega (arith, ne-lt (application m) a n)))

      pub header-275-other : command m ≡ 275 → 1 < application m → header_code m ≡ 3007
      unfolding header_code first_of require pick
      header-275-other p a =
          let q : command m ≡ 265 → ⊥ = λ w. omega arith in
          let o : application m ≡ 1 → ⊥ = λ w. omega arith in
          let z : application m ≡ 0 → ⊥ = λ w. omega arith in
          simp (eq-eqb (flags m % 16) 0 b, eq-eqb (flags m / 32 % 2) 0 e, ne_eqb (command m) 265 q, eq-eqb (command m) 275 p, ne_eqb (application m) 1 o, ne_eqb (application m) 0 z)

-- ONE AVP

-- numbers in what is left are numbers in the message
pub net24-drop : (at a : ℕ) (m : List ℕ) → net24 (drop at m) a ≡ net24 m (at + a)
unfolding net24
net24-drop at a m = rw (get_or-drop at m a 0, get_or-drop at m (a + 1) 0, get_or-drop at m (a + 2) 0, ← add_assoc at a 1, ← add_assoc at a 2)

pub net32-drop : (at a : ℕ) (m : List ℕ) → net32 (drop at m) a ≡ net32 m (at + a)
unfolding net32
net32-drop at a m = rw (get_or-drop at m a 0, get_or-drop at m (a + 1) 0, get_or-drop at m (a + 2) 0, get_or-drop at m (a + 3) 0, ← add_assoc at a 1, ← add_assoc at a 2, ← add_assoc at a 3)

pub head-v : (s : List ℕ) → 128 ≤ get_or s 4 0 → head_length s ≡ 12
unfolding head_length pick
head-v s h = simp (le-leb 128 (get_or s 4 0) h)

pub head-base : (s : List ℕ) → get_or s 4 0 < 128 → head_length s ≡ 8
unfolding head_length pick
head-base s h = simp (lt-leb 128 (get_or s 4 0) h)

pub name-v : (s : List ℕ) → 128 ≤ get_or s 4 0 → (avp_of s).name ≡ vendor (net32 s 8) (net32 s 0)
unfolding avp_of pick
name-v s h = simp (le-leb 128 (get_or s 4 0) h)

pub name-base : (s : List ℕ) → get_or s 4 0 < 128 → (avp_of s).name ≡ base (net32 s 0)
unfolding avp_of pick
name-base s h = simp (lt-leb 128 (get_or s 4 0) h)

module _ (s : List ℕ) where
  pub code-few : length s < 8 → avp_code s ≡ 5014
  unfolding avp_code first_of require pick
  code-few h = simp (lt-leb 8 (length s) h)

  module _ (h : 8 ≤ length s) where
    pub code-bits : (get_or s 4 0 % 32 ≡ 0 → ⊥) → avp_code s ≡ 3009
    unfolding avp_code first_of require pick
    code-bits f = simp (le-leb 8 (length s) h, ne_eqb (get_or s 4 0 % 32) 0 f)

    module _ (f : get_or s 4 0 % 32 ≡ 0) where
      pub code-length : avp_length s < head_length s → avp_code s ≡ 5014
      unfolding avp_code first_of require pick
      code-length l = simp (le-leb 8 (length s) h, eq-eqb (get_or s 4 0 % 32) 0 f, lt-leb (head_length s) (avp_length s) l)

      module _ (l : head_length s ≤ avp_length s) where
        pub code-past : length s < up4 (avp_length s) → avp_code s ≡ 5014
        unfolding avp_code first_of require pick
        code-past p =
            simp (le-leb 8 (length s) h, eq-eqb (get_or s 4 0 % 32) 0 f, le-leb (head_length s) (avp_length s) l, lt-leb (up4 (avp_length s)) (length s) p)

        pub code-none : up4 (avp_length s) ≤ length s → avp_code s ≡ 0
        unfolding avp_code first_of require pick
        code-none p =
            simp (le-leb 8 (length s) h, eq-eqb (get_or s 4 0 % 32) 0 f, le-leb (head_length s) (avp_length s) l, le-leb (up4 (avp_length s)) (length s) p)

pub head-bad : (m : List ℕ) (at : ℕ) (f : Failure) → avp_code (drop at m) ≡ failure_code f → HeadAt m at (Err f)
unfolding failed_with
head-bad m at f e = record { code = e; one = λ a w. let z : ◌≡◌ {A = ℕ} 0 1 = cc in absurd (omega arith) }

pub head-one : (m : List ℕ) (at : ℕ) (a : Spot) → avp_code (drop at m) ≡ 0 → a ≡ spot_at m at → HeadAt m at (Ok a)
unfolding failed_with
head-one m at a e w = record { code = e; one = λ b v. let z : a ≡ b = cc in sym z ∙ w }

-- the same, in places of the message
module _ (m : List ℕ) (at : ℕ) where
  -- the spot by its parts, with M as a bit of the message
  spot_is : spot_at m at ≡ record { slot = slot_of (avp_of (drop at m)).name; length = net24 (drop at m) 5; mandatory = eqb (get_or m (at + 4) 0 / 64 % 2) 1; next = at + up4 (net24 (drop at m) 5) }
  unfolding spot_at avp_of
  spot_is = rw get_or-drop

  pub at-few : length m < at + 8 → HeadAt m at (Err InvalidAvpLength)
  unfolding failure_code
  at-few h = head-bad m at InvalidAvpLength (code-few (drop at m) (rw length-drop (omega arith)))

  module _ (h : at + 8 ≤ length m) where
    left : 8 ≤ length (drop at m)
    left = rw length-drop (omega arith)

    pub at_bits : (get_or m (at + 4) 0 % 32 ≡ 0 → ⊥) → HeadAt m at (Err InvalidAvpBits)
    unfolding failure_code
    at_bits f = head-bad m at InvalidAvpBits (code-bits (drop at m) left (rw get_or-drop f))

    module _ (f : get_or m (at + 4) 0 % 32 ≡ 0) where
      bits : get_or (drop at m) 4 0 % 32 ≡ 0
      bits = rw get_or-drop f

      module _ (v : 128 ≤ get_or m (at + 4) 0) where
        v12 : head_length (drop at m) ≡ 12
        v12 = head-v (drop at m) (rw get_or-drop v)

        pub at-length-v : net24 m (at + 5) < 12 → HeadAt m at (Err InvalidAvpLength)
        unfolding failure_code
        at-length-v l = head-bad m at InvalidAvpLength (code-length (drop at m) left bits (omega (arith, v12, net24-drop at 5 m)))

        pub at-past-v : 12 ≤ net24 m (at + 5) → length m < at + up4 (net24 m (at + 5)) → HeadAt m at (Err InvalidAvpLength)
        unfolding failure_code
        at-past-v l p =
            head-bad m at InvalidAvpLength
            (code-past (drop at m) left bits (omega (arith, v12, net24-drop at 5 m)) (rw (net24-drop at 5 m, length-drop) (omega arith)))

        pub at-v : 12 ≤ net24 m (at + 5) → at + up4 (net24 m (at + 5)) ≤ length m
            → HeadAt m at (Ok (record { slot = slot_of (vendor (net32 m (at + 8)) (net32 m at)); length = net24 m (at + 5); mandatory = eqb (get_or m (at + 4) 0 / 64 % 2) 1; next = at + up4 (net24 m (at + 5)) }))
        at-v l p =
            let z : at + 0 ≡ at = omega arith in
            head-one m at (record { slot = slot_of (vendor (net32 m (at + 8)) (net32 m at)); length = net24 m (at + 5); mandatory = eqb (get_or m (at + 4) 0 / 64 % 2) 1; next = at + up4 (net24 m (at + 5)) })
            (code-none (drop at m) left bits (omega (arith, v12, net24-drop at 5 m)) (rw (net24-drop at 5 m, length-drop) (omega arith)))
            (rw (spot_is, name-v (drop at m) (rw get_or-drop v), net24-drop at 5 m, net32-drop at 8 m, net32-drop at 0 m, z))

      module _ (v : get_or m (at + 4) 0 < 128) where
        v8 : head_length (drop at m) ≡ 8
        v8 = head-base (drop at m) (rw get_or-drop v)

        pub at_length : net24 m (at + 5) < 8 → HeadAt m at (Err InvalidAvpLength)
        unfolding failure_code
        at_length l = head-bad m at InvalidAvpLength (code-length (drop at m) left bits (omega (arith, v8, net24-drop at 5 m)))

        pub at-past : 8 ≤ net24 m (at + 5) → length m < at + up4 (net24 m (at + 5)) → HeadAt m at (Err InvalidAvpLength)
        unfolding failure_code
        at-past l p =
            head-bad m at InvalidAvpLength
            (code-past (drop at m) left bits (omega (arith, v8, net24-drop at 5 m)) (rw (net24-drop at 5 m, length-drop) (omega arith)))

        pub at_base : 8 ≤ net24 m (at + 5) → at + up4 (net24 m (at + 5)) ≤ length m
            → HeadAt m at (Ok (record { slot = slot_of (base (net32 m at)); length = net24 m (at + 5); mandatory = eqb (get_or m (at + 4) 0 / 64 % 2) 1; next = at + up4 (net24 m (at + 5)) }))
        at_base l p =
            let z : at + 0 ≡ at = omega arith in
            head-one m at (record { slot = slot_of (base (net32 m at)); length = net24 m (at + 5); mandatory = eqb (get_or m (at + 4) 0 / 64 % 2) 1; next = at + up4 (net24 m (at + 5)) })
            (code-none (drop at m) left bits (omega (arith, v8, net24-drop at 5 m)) (rw (net24-drop at 5 m, length-drop) (omega arith)))
            (rw (spot_is, name-base (drop at m) (rw get_or-drop v), net24-drop at 5 m, net32-drop at 0 m, z))

-- BY FLAGS AND LENGTH IN ONE WORD

module _ (m : List ℕ) (at w : ℕ) (h : at + 8 ≤ length m) (o : FlagsAndLength m at w) where
  pub word-bits : 16777216 ≤ w % 536870912 → HeadAt m at (Err InvalidAvpBits)
  word-bits r = at_bits m at h (λ z. omega (arith, o.both, o.byte, o.three))

  module _ (r : w % 536870912 < 16777216) where
    clear : get_or m (at + 4) 0 % 32 ≡ 0
    clear = omega (arith, o.both, o.byte, o.three)

    pub word-length : w % 536870912 ≡ net24 m (at + 5)
    word-length = omega (arith, o.both, o.byte, o.three, clear)

    -- by whether V is set
    either : {A : Type 0} → (128 ≤ get_or m (at + 4) 0 → A) → (get_or m (at + 4) 0 < 128 → A) → A
    either f g = by-test (leb 128 (get_or m (at + 4) 0)) (λ t. f (leb-true 128 (get_or m (at + 4) 0) t)) (λ t. g (leb-false 128 (get_or m (at + 4) 0) t))

    pub word-short : w % 536870912 < 8 → HeadAt m at (Err InvalidAvpLength)
    word-short n = either (λ v. at-length-v m at h clear v (omega (arith, word-length))) (λ v. at_length m at h clear v (omega (arith, word-length)))

    module _ (n : 8 ≤ w % 536870912) where
      pub word-past : length m < at + up4 (w % 536870912) → HeadAt m at (Err InvalidAvpLength)
      word-past p =
          let q : length m < at + up4 (net24 m (at + 5)) = rw word-length at p in
          either
          (λ v. by-test (leb 12 (net24 m (at + 5)))
          (λ t. at-past-v m at h clear v (leb-true 12 (net24 m (at + 5)) t) q)
          (λ t. at-length-v m at h clear v (leb-false 12 (net24 m (at + 5)) t)))
          (λ v. at-past m at h clear v (omega (arith, word-length)) q)

      -- without V the word is what flags without V, and the length, say
      low : w % 2147483648 ≡ get_or m (at + 4) 0 % 128 * 16777216 + net24 m (at + 5)
      low = omega (arith, o.both, o.byte, o.three)

      word-m : leb 1073741832 (w % 2147483648) ≡ eqb (get_or m (at + 4) 0 / 64 % 2) 1
      word-m =
          by-test (eqb (get_or m (at + 4) 0 / 64 % 2) 1)
          (λ t.
          let e : get_or m (at + 4) 0 / 64 % 2 ≡ 1 = eqb-true (get_or m (at + 4) 0 / 64 % 2) 1 t in
          let g : 64 ≤ get_or m (at + 4) 0 % 128 = omega (arith, e, o.byte) in
          rw t (le-leb 1073741832 (w % 2147483648) (omega (arith, g, low, word-length))))
          (λ t.
          let e : get_or m (at + 4) 0 / 64 % 2 ≡ 0 = ne-lt (get_or m (at + 4) 0 / 64 % 2) (omega arith) (eqb-false (get_or m (at + 4) 0 / 64 % 2) 1 t) in
          let g : get_or m (at + 4) 0 % 128 < 64 = omega (arith, e, o.byte) in
          let k : w % 2147483648 < 1073741832 = omega (arith, g, low, o.three) in
          rw t (lt-leb 1073741832 (w % 2147483648) k))

      pub word-v-short : 2147483656 ≤ w → w % 536870912 < 12 → HeadAt m at (Err InvalidAvpLength)
      word-v-short v l = at-length-v m at h clear (omega (arith, o.both, o.three)) (omega (arith, word-length))

      pub word-v : 2147483656 ≤ w → 12 ≤ w % 536870912 → at + up4 (w % 536870912) ≤ length m
          → HeadAt m at (Ok (record { slot = slot_of (vendor (net32 m (at + 8)) (net32 m at)); length = w % 536870912; mandatory = leb 1073741832 (w % 2147483648); next = at + up4 (w % 536870912) }))
      word-v v l p =
          rw (word-m, word-length) (at-v m at h clear (omega (arith, o.both, o.three)) (omega (arith, word-length)) (rw word-length at p))

      pub word-base : w < 2147483656 → at + up4 (w % 536870912) ≤ length m
          → HeadAt m at (Ok (record { slot = slot_of (base (net32 m at)); length = w % 536870912; mandatory = leb 1073741832 (w % 2147483648); next = at + up4 (w % 536870912) }))
      word-base v p =
          rw (word-m, word-length) (at_base m at h clear (omega (arith, o.both, o.three, word-length)) (omega (arith, word-length)) (rw word-length at p))
