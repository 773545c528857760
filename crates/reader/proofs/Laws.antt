-- One step of the walk: a law for each way out of the tests, and that the message's walk is such steps, one after another.
use mathlib.Core.Path.{◌≡◌, sym, ap, ◌∙◌}
use mathlib.Core.Bool.{true, false}
use mathlib.Core.List.{List}
use Prim.Native.Nat.{ℕ, ◌+◌, ◌-◌, ◌%◌, ◌≤◌, ◌<◌}
use native.Mathlib.Omega.{arith}
use borrow.Author.Tests.{eqb-true, eqb-false, eq-eqb, ne_eqb, leb-true, leb-false, le-leb, lt-leb}
use lib.Dec.{eqb, leb}
use lib.ListN.{length, get_or, drop, length-drop}
use lib.Seq.{get_or-drop, drop-drop}
use Rattle.octets.specs.Choice.{pick, require, first_of}
use Rattle.octets.specs.Numbers.{net24, net32, up4}
use Rattle.octets.proofs.Lists.{by-test}
use Rattle.message.specs.ReadingAMessage.{known, head_length, avp_length, avp_code, avp_of, walk}
use Rattle.message.proofs.Walks.{Passed, passes, head-least, up4-least, walk_end, walk-bad, walk-one}
use Rattle.message.proofs.Heads.{net24-drop, net32-drop, head-v, head-base}
use Rattle.message.proofs.Gathering.{next-on}
use Rattle.reader.specs.Steps.{fault_of, seen_at, step_at, fault_code, seen_name, seen_avp, onward}
use Rattle.reader.specs.declared.Seen.{Seen}
use Rattle.reader.specs.declared.Fault.TheVariants.{Few, Bits, Short, Past}
use Rattle.reader.specs.declared.Step.TheVariants.{One, End, Bad}

-- THE TEST THAT FAILS

-- the header by the flags
pub head-12 : (m : List ℕ) (at : ℕ) → 128 ≤ get_or m (at + 4) 0 → head_length (drop at m) ≡ 12
head-12 m at v = head-v (drop at m) (rw get_or-drop v)

pub head-8 : (m : List ℕ) (at : ℕ) → get_or m (at + 4) 0 < 128 → head_length (drop at m) ≡ 8
head-8 m at v = head-base (drop at m) (rw get_or-drop v)

module _ (m : List ℕ) (at : ℕ) where
  pub fault-few : length m < at + 8 → fault_of (drop at m) ≡ Few
  unfolding fault_of pick
  fault-few h = rw (lt-leb 8 (length (drop at m)) (rw length-drop (omega arith)))

  module _ (h : at + 8 ≤ length m) where
    left : 8 ≤ length (drop at m)
    left = rw length-drop (omega arith)

    pub fault-bits : (get_or m (at + 4) 0 % 32 ≡ 0 → ⊥) → fault_of (drop at m) ≡ Bits
    unfolding fault_of pick
    fault-bits f = rw (le-leb 8 (length (drop at m)) left, ne_eqb (get_or (drop at m) 4 0 % 32) 0 (rw get_or-drop f))

    module _ (f : get_or m (at + 4) 0 % 32 ≡ 0) where
      bits : get_or (drop at m) 4 0 % 32 ≡ 0
      bits = rw get_or-drop f

      pub fault-short : net24 m (at + 5) < head_length (drop at m) → fault_of (drop at m) ≡ Short
      unfolding fault_of pick
      fault-short l =
          rw (le-leb 8 (length (drop at m)) left, eq-eqb (get_or (drop at m) 4 0 % 32) 0 bits, lt-leb (head_length (drop at m)) (avp_length (drop at m)) (rw net24-drop l))

      pub fault_past : head_length (drop at m) ≤ net24 m (at + 5) → fault_of (drop at m) ≡ Past
      unfolding fault_of pick
      fault_past l =
          rw (le-leb 8 (length (drop at m)) left, eq-eqb (get_or (drop at m) 4 0 % 32) 0 bits, le-leb (head_length (drop at m)) (avp_length (drop at m)) (rw net24-drop l))

-- THE AVP

-- one that passes lies inside the message with its header
pub inside : (m : List ℕ) (at : ℕ) → at ≤ length m → avp_code (drop at m) ≡ 0 → at + head_length (drop at m) ≤ length m
inside m at h e =
    let p : Passed (drop at m) = passes (drop at m) e in
    let w : up4 (avp_length (drop at m)) ≤ length m - at = rw length-drop at p.whole in
    omega (arith, p.head, up4-least (avp_length (drop at m)))

pub inside-8 : (m : List ℕ) (at : ℕ) → at ≤ length m → avp_code (drop at m) ≡ 0 → at + 8 ≤ length m
inside-8 m at h e = omega (arith, inside m at h e, head-least (drop at m))

pub long-enough : (m : List ℕ) (at : ℕ) → avp_code (drop at m) ≡ 0 → head_length (drop at m) ≤ net24 m (at + 5)
long-enough m at e = rw net24-drop at (passes (drop at m) e).head

module _ (m : List ℕ) (at : ℕ) where
  pub seen-v : 128 ≤ get_or m (at + 4) 0
      → seen_at m at ≡ record { code = net32 m at; flags = get_or m (at + 4) 0; vendor = net32 m (at + 8); known = known (avp_of (drop at m)).name; value = at + 12; len = net24 m (at + 5) - 12; next = at + up4 (avp_length (drop at m)) }
  unfolding seen_at pick
  seen-v v =
      let z : at + 0 ≡ at = omega arith in
      let t : leb 128 (get_or (drop at m) 4 0) ≡ true = le-leb 128 (get_or (drop at m) 4 0) (rw get_or-drop v) in
      rw (head-12 m at v, t, get_or-drop at m 4 0, net24-drop at 5 m, net32-drop at 8 m, net32-drop at 0 m, z)

  pub seen-base : get_or m (at + 4) 0 < 128
      → seen_at m at ≡ record { code = net32 m at; flags = get_or m (at + 4) 0; vendor = 0; known = known (avp_of (drop at m)).name; value = at + 8; len = net24 m (at + 5) - 8; next = at + up4 (avp_length (drop at m)) }
  unfolding seen_at pick
  seen-base v =
      let z : at + 0 ≡ at = omega arith in
      let t : leb 128 (get_or (drop at m) 4 0) ≡ false = lt-leb 128 (get_or (drop at m) 4 0) (rw get_or-drop v) in
      rw (head-8 m at v, t, get_or-drop at m 4 0, net24-drop at 5 m, net32-drop at 0 m, z)

-- THE STEP

module _ (m : List ℕ) (at : ℕ) where
  pub step_end : length m ≤ at → step_at m at ≡ End
  unfolding step_at pick
  step_end h = rw (eq-eqb (length (drop at m)) 0 (rw length-drop (omega arith)))

  module _ (h : at < length m) where
    more : length (drop at m) ≡ 0 → ⊥
    more z = let w : length m - at ≡ 0 = rw length-drop at z in omega arith

    pub step-bad : 0 < avp_code (drop at m) → step_at m at ≡ Bad (fault_of (drop at m))
    unfolding step_at pick
    step-bad k = rw (ne_eqb (length (drop at m)) 0 more, ne_eqb (avp_code (drop at m)) 0 (λ z. omega arith))

    pub step-one : avp_code (drop at m) ≡ 0 → step_at m at ≡ One (seen_at m at)
    unfolding step_at pick
    step-one k = rw (ne_eqb (length (drop at m)) 0 more, eq-eqb (avp_code (drop at m)) 0 k)

-- THE WALK

positive : (n : ℕ) → eqb n 0 ≡ false → 0 < n
positive n e = let d : n ≡ 0 → ⊥ = eqb-false n 0 e in omega arith

-- the test that fails has the code that the message's walk gives
pub fault-code : (s : List ℕ) → 0 < avp_code s → fault_code (fault_of s) ≡ avp_code s
unfolding fault_code fault_of avp_code first_of require pick
fault-code s h =
    by-test (leb 8 (length s))
    (λ e. by-test (eqb (get_or s 4 0 % 32) 0)
    (λ f. by-test (leb (head_length s) (avp_length s))
    (λ g. by-test (leb (up4 (avp_length s)) (length s)) (λ p. let z = rw (e, f, g, p) at h in absurd (omega arith)) (λ p. rw (e, f, g, p)))
    (λ g. rw (e, f, g)))
    (λ f. rw (e, f)))
    (λ e. rw e)

-- an AVP's numbers and places say its name, its value and its bytes
pub seen-is : (m : List ℕ) (at : ℕ) → seen_avp m at (seen_at m at) ≡ avp_of (drop at m)
unfolding seen_avp seen_name seen_at avp_of pick
seen-is m at =
    let back : at + up4 (avp_length (drop at m)) - at ≡ up4 (avp_length (drop at m)) = omega arith in
    by-test (leb 128 (get_or (drop at m) 4 0))
    (λ v. rw (v, back, drop-drop (head_length (drop at m)) at m))
    (λ v. rw (v, back, drop-drop (head_length (drop at m)) at m))

-- the message's walk from a place on is the step there and the walk behind it
pub walk_steps : (m : List ℕ) (at : ℕ) → walk (drop at m) ≡ onward m at (step_at m at)
unfolding onward seen_at
walk_steps m at =
    let s : List ℕ = drop at m in
    by-test (leb (length m) at)
    (λ l. let h : length m ≤ at = leb-true (length m) at l in
    walk_end avp_code (λ s e. e) s (rw length-drop (omega arith)) ∙ ap (onward m at) (sym (step_end m at h)))
    (λ l. let h : at < length m = leb-false (length m) at l in
    by-test (eqb (avp_code s) 0)
    (λ e. let k : avp_code s ≡ 0 = eqb-true (avp_code s) 0 e in
    walk-one avp_code (λ s e. e) s k ∙ rw (← seen-is m at, drop-drop (up4 (avp_length s)) at m) (ap (onward m at) (sym (step-one m at h k))))
    (λ e. let k : 0 < avp_code s = positive (avp_code s) e in
    walk-bad avp_code (λ s e. e) s (rw length-drop (omega arith)) k ∙ rw (← fault-code s k) (ap (onward m at) (sym (step-bad m at h k)))))

-- FOR CALLERS

-- an AVP lies inside the message, its value before the next one, and the next further on
pub record Placed (m : List ℕ) (at : ℕ) (a : Seen) : Type 0 where
  pub on : at + 8 ≤ a.next
  pub inside : a.next ≤ length m
  pub value : a.value + a.len ≤ a.next

pub placed : (m : List ℕ) (at : ℕ) (a : Seen) → step_at m at ≡ One a → Placed m at a
unfolding seen_at
placed m at a e =
    by-test (leb (length m) at)
    (λ l. let f : End ≡ One a = sym (step_end m at (leb-true (length m) at l)) ∙ e in let z : ◌≡◌ {A = ℕ} 0 1 = cc in absurd (omega arith))
    (λ l. let h : at < length m = leb-false (length m) at l in
    by-test (eqb (avp_code (drop at m)) 0)
    (λ t. let k : avp_code (drop at m) ≡ 0 = eqb-true (avp_code (drop at m)) 0 t in
    let f : One (seen_at m at) ≡ One a = sym (step-one m at h k) ∙ e in
    let g : seen_at m at ≡ a = cc in
    let n = next-on m at (omega arith) k in
    let p = passes (drop at m) k in
    rw (← g) (record { on = n.0; inside = n.1; value = omega (arith, p.head, up4-least (avp_length (drop at m))) }))
    (λ t. let f : Bad (fault_of (drop at m)) ≡ One a = sym (step-bad m at h (positive (avp_code (drop at m)) t)) ∙ e in let z : ◌≡◌ {A = ℕ} 0 1 = cc in absurd (omega arith)))
