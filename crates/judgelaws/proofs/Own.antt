-- Everything that our own server writes is walked to its end: each part of an answer is passed over by the walk into groups, and read as AVPs of certain names, whatever stands
-- behind it.
use mathlib.Core.Path.{◌≡◌, refl, sym, ap, ◌∙◌}
use mathlib.Core.Bool.{Bool, true, false}
use mathlib.Core.List.{List, [], ◌∷◌, ◌++◌, append_assoc, append-nil}
use Prim.Native.Nat.{ℕ, zero, suc, ◌+◌, ◌-◌, ◌≤◌, ◌<◌}
use native.Mathlib.Omega.{arith}
use borrow.Author.Tests.{eq-eqb, ne_eqb, eqb-true, leb-true, leb-false}
use lib.Dec.{eqb, leb}
use lib.ListN.{length, get_or, take, drop, length-append}
use lib.Seq.{take_at, drop_at, take-take, take-append-le, get_or-take, length-take-le}
use Rattle.octets.specs.Choice.{pick}
use Rattle.octets.specs.Lists.{every, keep}
use Rattle.octets.specs.Texts.{part, zeros}
use Rattle.octets.specs.Numbers.{net24, net32, in24, in32, up4}
use Rattle.octets.proofs.Lists.{by-test, every_append, every_one, every-imp}
use Rattle.message.specs.ReadingAMessage.{Name, base, same_name, proxy_info, Avp, head_length, avp_length, avp_code, avp_of, request_code, Walk, behind, walk_one, walk_up_to, walk, having}
use Rattle.message.specs.WritingTheAnswer.{avp_bytes, all_bytes}
use Rattle.message.proofs.Heads.{head-base, name-base, name-v, code-none}
use Rattle.message.proofs.Walks.{Passed, passes, head-least, up4-least, walk_end, walk-one, request-four}
use Rattle.answers.proofs.Writing.{length-avp}
use Rattle.likeness.specs.TheSameAnswer.{Finding, nothing, or_else, is_group, inside_of, fault_one, fault_by, flag_byte}
use Rattle.likeness.proofs.Places.{flags-are}
use Rattle.likeness.proofs.Groups.{fault-is}

-- ONE AVP

-- an AVP that passes is read, and then those behind it
first_read : (s : List ℕ) → avp_code s ≡ 0 → (walk s).avps ≡ avp_of s ∷ (walk (drop (up4 (avp_length s)) s)).avps
unfolding behind
first_read s k = ap (λ (w : Walk). w.avps) (walk-one avp_code (λ s e. e) s k)

-- ONE AVP OF OURS

up4-8 : (n : ℕ) → up4 (8 + n) ≡ 8 + up4 n
unfolding up4
up4-8 n = omega arith

module _ (code : ℕ) (v rest : List ℕ) (small : code < 65536) (short : length v ≤ 65000) where
  flags-read : get_or (avp_bytes code v ++ rest) 4 0 ≡ 64
  unfolding avp_bytes in32 in24
  flags-read = refl

  head_read : head_length (avp_bytes code v ++ rest) ≡ 8
  head_read = head-base (avp_bytes code v ++ rest) (rw flags-read (omega arith))

  length-read : avp_length (avp_bytes code v ++ rest) ≡ 8 + length v
  unfolding avp_bytes in32 in24 net24
  length-read = omega arith

  code_read : net32 (avp_bytes code v ++ rest) 0 ≡ code
  unfolding avp_bytes in32 in24 net32
  code_read = omega arith

  value_read : part (avp_bytes code v ++ rest) 8 (length v) ≡ v
  unfolding avp_bytes in32 in24
  value_read =
      let z : List ℕ = zeros (up4 (length v) - length v) in
      ap (take (length v)) (append_assoc v z rest) ∙ take_at v (z ++ rest) (length v) refl

  rest_read : drop (up4 (avp_length (avp_bytes code v ++ rest))) (avp_bytes code v ++ rest) ≡ rest
  rest_read = rw (length-read, up4-8 (length v)) (drop_at (avp_bytes code v) rest (8 + up4 (length v)) (length-avp code v))

  size : length (avp_bytes code v ++ rest) ≡ 8 + up4 (length v) + length rest
  size = length-append (avp_bytes code v) rest ∙ rw (length-avp code v)

  tests-pass : avp_code (avp_bytes code v ++ rest) ≡ 0
  tests-pass =
      let s : List ℕ = avp_bytes code v ++ rest in
      code-none s (omega (arith, size)) (rw flags-read) (omega (arith, head_read, length-read)) (rw (length-read, up4-8 (length v)) (omega (arith, size)))

  pub name-read : (avp_of (avp_bytes code v ++ rest)).name ≡ base code
  name-read = name-base (avp_bytes code v ++ rest) (rw flags-read (omega arith)) ∙ ap base code_read

  value-is : (avp_of (avp_bytes code v ++ rest)).value ≡ v
  unfolding avp_of
  value-is = let q : 8 + length v - 8 ≡ length v = omega arith in rw (head_read, length-read, q) value_read

  pub own-flags : flag_byte (avp_of (avp_bytes code v ++ rest)) ≡ 64
  own-flags = flags-are (avp_bytes code v ++ rest) 0 tests-pass ∙ flags-read

  pub own_read : (walk (avp_bytes code v ++ rest)).avps ≡ avp_of (avp_bytes code v ++ rest) ∷ (walk rest).avps
  own_read = first_read (avp_bytes code v ++ rest) tests-pass ∙ ap (λ (r : List ℕ). avp_of (avp_bytes code v ++ rest) ∷ (walk r).avps) rest_read

-- PASSED OVER

module _ (inside : ℕ → List ℕ → Finding) where
  -- the walk goes on behind an AVP that passes, unless something is found in it
  on : (at : ℕ) (s : List ℕ) → avp_code s ≡ 0 → (is_group (avp_of s).name ≡ true → (inside (at + 8) (avp_of s).value).number ≡ 0)
      → fault_by inside at s ≡ fault_by inside (at + up4 (avp_length s)) (drop (up4 (avp_length s)) s)
  unfolding fault_one inside_of or_else pick
  on at s k h =
      let p : Passed s = passes s k in
      let l : eqb (length s) 0 ≡ false = ne_eqb (length s) 0 (λ z. omega (arith, p.eight, z)) in
      by-test (is_group (avp_of s).name)
      (λ g. fault-is inside at s ∙ rw (l, k, g, eq-eqb (inside (at + 8) (avp_of s).value).number 0 (h g)))
      (λ g. fault-is inside at s ∙ rw (l, k, g))

module _ (inside : ℕ → List ℕ → Finding) (f : Name → Bool) where
  -- What the two walks make of a part with other bytes behind it: nothing is found in it, and it is read as AVPs of which every name passes a test.
  pub record Goes (at : ℕ) (p rest : List ℕ) : Type 0 where
    pub found : fault_by inside at (p ++ rest) ≡ fault_by inside (at + length p) rest
    pub these : List Avp
    pub read : (walk (p ++ rest)).avps ≡ these ++ (walk rest).avps
    pub named : every (λ (a : Avp). f a.name) these ≡ true

  abbrev pub Over : List ℕ → Type 0
  Over p = (at : ℕ) (rest : List ℕ) → Goes at p rest

  pub over-nil : Over []
  unfolding every
  over-nil at rest = record { found = let z : at + 0 ≡ at = omega arith in rw z; these = []; read = refl; named = refl }

  pub over-append : (p q : List ℕ) → Over p → Over q → Over (p ++ q)
  over-append p q F G at rest =
      let a : Goes at p (q ++ rest) = F at (q ++ rest) in
      let b : Goes (at + length p) q rest = G (at + length p) rest in
      let l : at + length (p ++ q) ≡ at + length p + length q = rw (length-append p q) (omega arith) in
      record {
        found = ap (fault_by inside at) (append_assoc p q rest) ∙ a.found ∙ b.found ∙ ap (λ (i : ℕ). fault_by inside i rest) (sym l);
        these = a.these ++ b.these;
        read =
            ap (λ (s : List ℕ). (walk s).avps) (append_assoc p q rest)
            ∙ a.read
            ∙ ap (λ (xs : List Avp). a.these ++ xs) b.read
            ∙ sym (append_assoc a.these b.these (walk rest).avps);
        named = every_append (λ (x : Avp). f x.name) a.these b.these a.named b.named;
      }

  -- one AVP, of this name
  over-one : (at : ℕ) (p rest : List ℕ) (n : Name) → avp_code (p ++ rest) ≡ 0 → up4 (avp_length (p ++ rest)) ≡ length p
      → drop (up4 (avp_length (p ++ rest))) (p ++ rest) ≡ rest → (avp_of (p ++ rest)).name ≡ n → f n ≡ true
      → (is_group n ≡ true → (inside (at + 8) (avp_of (p ++ rest)).value).number ≡ 0) → Goes at p rest
  over-one at p rest n k l d e t h =
      let s : List ℕ = p ++ rest in
      record {
        found =
            on inside at s k (λ g. h (sym (ap is_group e) ∙ g))
            ∙ ap (λ (i : ℕ). fault_by inside (at + i) (drop (up4 (avp_length s)) s)) l
            ∙ ap (fault_by inside (at + length p)) d;
        these = avp_of s ∷ [];
        read = first_read s k ∙ ap (λ (r : List ℕ). avp_of s ∷ (walk r).avps) d;
        named = every_one (λ (x : Avp). f x.name) (avp_of s) (ap f e ∙ t);
      }

  pub over-avp : (code : ℕ) (v : List ℕ) → code < 65536 → length v ≤ 65000 → f (base code) ≡ true → (is_group (base code) ≡ true → (p : ℕ) → (inside p v).number ≡ 0)
      → Over (avp_bytes code v)
  over-avp code v small short t h at rest =
      over-one at (avp_bytes code v) rest (base code) (tests-pass code v rest small short)
      (rw (length-read code v rest small short, up4-8 (length v), length-avp code v)) (rest_read code v rest small short) (name-read code v rest small short) t
      (λ g. ap (λ (w : List ℕ). (inside (at + 8) w).number) (value-is code v rest small short) ∙ h g (at + 8))

  -- where all is passed over nothing is found, and every name passes
  pub over-all : (p : List ℕ) (at : ℕ) → Over p → fault_by inside at p ≡ nothing
  unfolding fault_one pick
  over-all p at F = ap (fault_by inside at) (sym (append-nil p)) ∙ (F at []).found ∙ fault-is inside (at + length p) []

  pub all_named : (p : List ℕ) → Over p → every (λ (a : Avp). f a.name) (walk p).avps ≡ true
  all_named p F =
      let g : Goes 0 p [] = F 0 [] in
      let e : (walk p).avps ≡ g.these =
      ap (λ (s : List ℕ). (walk s).avps) (sym (append-nil p))
      ∙ g.read
      ∙ ap (λ (w : Walk). g.these ++ w.avps) (walk_end avp_code (λ s e. e) [] refl)
      ∙ append-nil g.these in
      ap (every (λ (a : Avp). f a.name)) e ∙ g.named

-- a test that lets more pass
pub over-more : (inside : ℕ → List ℕ → Finding) (f g : Name → Bool) → ((n : Name) → f n ≡ true → g n ≡ true) → (p : List ℕ) → Over inside f p → Over inside g p
over-more inside f g w p F at rest =
    let a : Goes inside f at p rest = F at rest in
    record {
      found = a.found;
      these = a.these;
      read = a.read;
      named = every-imp (λ (x : Avp). f x.name) (λ (x : Avp). g x.name) (λ x e. w x.name e) a.these a.named;
    }

-- A PROXY-INFO, as it came

module _ (s rest : List ℕ) (k : avp_code s ≡ 0) where
  least : 8 ≤ up4 (avp_length s)
  least = omega (arith, (passes s k).head, head-least s, up4-least (avp_length s))

  whole : length (take (up4 (avp_length s)) s) ≡ up4 (avp_length s)
  whole = length-take-le (up4 (avp_length s)) s (passes s k).whole

  -- its first eight bytes, whatever stands behind it
  byte : (i : ℕ) → i < 8 → get_or (take (up4 (avp_length s)) s ++ rest) i 0 ≡ get_or s i 0
  byte i h =
      let t : List ℕ = take (up4 (avp_length s)) s ++ rest in
      let e : take 8 t ≡ take 8 s = take-append-le 8 (take (up4 (avp_length s)) s) rest (omega (arith, whole, least)) ∙ take-take 8 (up4 (avp_length s)) s least in
      sym (get_or-take 8 t i 0 h) ∙ ap (λ (l : List ℕ). get_or l i 0) e ∙ get_or-take 8 s i 0 h

  copied-length : avp_length (take (up4 (avp_length s)) s ++ rest) ≡ avp_length s
  unfolding net24
  copied-length = rw (byte 5 (omega arith), byte 6 (omega arith), byte 7 (omega arith))

  copied-code : net32 (take (up4 (avp_length s)) s ++ rest) 0 ≡ net32 s 0
  unfolding net32
  copied-code = rw (byte 0 (omega arith), byte 1 (omega arith), byte 2 (omega arith), byte 3 (omega arith))

  copied-size : length (take (up4 (avp_length s)) s ++ rest) ≡ up4 (avp_length s) + length rest
  copied-size = length-append (take (up4 (avp_length s)) s) rest ∙ rw whole

  copied-rest : drop (up4 (avp_length s)) (take (up4 (avp_length s)) s ++ rest) ≡ rest
  copied-rest = drop_at (take (up4 (avp_length s)) s) rest (up4 (avp_length s)) whole

  module _ (u : same_name proxy_info (avp_of s).name ≡ true) where
    no-v : get_or s 4 0 < 128
    unfolding same_name
    no-v =
        by-test (leb 128 (get_or s 4 0))
        (λ v. let z : false ≡ true = rw (name-v s (leb-true 128 (get_or s 4 0) v)) at u in let y : ◌≡◌ {A = ℕ} 0 1 = cc in absurd (omega arith))
        (λ v. leb-false 128 (get_or s 4 0) v)

    is-284 : net32 s 0 ≡ 284
    unfolding same_name
    is-284 = let e : eqb 284 (net32 s 0) ≡ true = rw (name-base s no-v) at u in sym (eqb-true 284 (net32 s 0) e)

    copied-name : (avp_of (take (up4 (avp_length s)) s ++ rest)).name ≡ base 284
    copied-name = name-base (take (up4 (avp_length s)) s ++ rest) (rw (byte 4 (omega arith)) no-v) ∙ ap base (copied-code ∙ is-284)

    copied-passes : avp_code (take (up4 (avp_length s)) s ++ rest) ≡ 0
    copied-passes =
        let t : List ℕ = take (up4 (avp_length s)) s ++ rest in
        let h : head_length t ≡ 8 = head-base t (rw (byte 4 (omega arith)) no-v) in
        let g : head_length s ≡ 8 = head-base s no-v in
        code-none t (omega (arith, copied-size, least)) (rw (byte 4 (omega arith)) (passes s k).clear) (omega (arith, h, g, copied-length, (passes s k).head))
        (rw copied-length (omega (arith, copied-size)))

over-copied : (inside : ℕ → List ℕ → Finding) (f : Name → Bool) → f proxy_info ≡ true → (s : List ℕ) → avp_code s ≡ 0 → same_name proxy_info (avp_of s).name ≡ true
    → Over inside f (take (up4 (avp_length s)) s)
unfolding is_group same_name
over-copied inside f t s k u at rest =
    let c : List ℕ = take (up4 (avp_length s)) s in
    over-one inside f at c rest proxy_info (copied-passes s rest k u) (ap up4 (copied-length s rest k) ∙ sym (whole s rest k))
    (ap (λ (i : ℕ). drop (up4 i) (c ++ rest)) (copied-length s rest k) ∙ copied-rest s rest k) (copied-name s rest k u) t
    (λ g. let z : false ≡ true = g in let y : ◌≡◌ {A = ℕ} 0 1 = cc in absurd (omega arith))

pub over-walk : (inside : ℕ → List ℕ → Finding) (f : Name → Bool) → f proxy_info ≡ true → (k : ℕ) (s : List ℕ)
    → Over inside f (all_bytes (having proxy_info (walk_up_to request_code k s).avps))
unfolding walk_up_to walk_one pick having keep all_bytes behind avp_of
over-walk inside f h zero s = over-nil inside f
over-walk inside f h (suc k) s =
    by-test (eqb (length s) 0)
    (λ z. rw z (over-nil inside f))
    (λ z.
    by-test (eqb (request_code s) 0)
    (λ t.
    let c : avp_code s ≡ 0 = request-four s (eqb-true (request_code s) 0 t) in
    let r = over-walk inside f h k (drop (up4 (avp_length s)) s) in
    by-test (same_name proxy_info (avp_of s).name)
    (λ u. rw (z, t, u) (over-append inside f (take (up4 (avp_length s)) s) _ (over-copied inside f h s c u) r))
    (λ u. rw (z, t, u) r))
    (λ t. rw (z, t) (over-nil inside f)))
