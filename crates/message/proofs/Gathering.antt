-- The walk that gathers: what the slots say so far, with the AVPs that are still ahead, is what the whole message says.
use mathlib.Core.Path.{◌≡◌, refl, sym, ap, ◌∙◌}
use mathlib.Core.Bool.{Bool, true, false, ◌||◌, not}
use mathlib.Core.List.{List, [], ◌∷◌}
use Prim.Native.Nat.{ℕ, zero, suc, ◌+◌, ◌-◌, ◌≤◌, ◌<◌}
use native.Mathlib.Omega.{arith}
use borrow.Author.Tests.{eqb-true, eqb-false, eq-eqb, ne_eqb}
use lib.Dec.{eqb}
use lib.ListN.{length, get_or, drop, set, length-drop, length-set, get_or-replicate}
use lib.Seq.{drop-drop, get_or-set_same, get_or-set_other}
use Rattle.octets.specs.Choice.{pick}
use Rattle.octets.specs.Lists.{keep, every, counted}
use Rattle.octets.specs.Texts.{zeros}
use Rattle.octets.specs.Numbers.{net24, up4}
use Rattle.octets.proofs.Lists.{by-test, and_left, and_right, both}
use Rattle.octets.proofs.Texts.{length-zeros}
use Rattle.message.specs.ReadingAMessage.{Name, base, vendor, same_name, named_in01, codes_of_aa_request, codes_of_termination, known_avps, is_one_of, known, Avp, Walk, behind, request_walk, avp_length, avp_code, avp_of, supported, request_code, avps, walk_code, having}
use Rattle.message.specs.declared.Spot.{Spot}
use Rattle.std.specs.Prelude.{Result, Ok, Err}
use Rattle.message.specs.declared.Failure.{Failure}
use Rattle.message.specs.Failures.{failure_code, failed_with}
use Rattle.message.proofs.Failures.{failure-least}
use Rattle.message.specs.Positions.{names, slots, not_known, slot_in, slot_of, name_at, spot_at, HeadAt, Often, absent, once, twice, how_often, slot_says, Stands, Gathered}
use Rattle.message.proofs.Heads.{net24-drop}
use Rattle.message.proofs.Walks.{Passed, passes, head-least, up4-least, walk_end, walk-bad, walk-one, request-four, request-bad, request-passes, request-refuses}

-- HEADS

-- what a head says, as facts about the bytes
pub head-is-one : (m : List ℕ) (at : ℕ) (a : Spot) → HeadAt m at (Ok a) → (avp_code (drop at m) ≡ 0) × (a ≡ spot_at m at)
unfolding failed_with
head-is-one m at a e = (e.code, e.one a refl)

-- the next place is further on, and inside
pub next-on : (m : List ℕ) (at : ℕ) → at ≤ length m → avp_code (drop at m) ≡ 0 → (at + 8 ≤ at + up4 (avp_length (drop at m))) × (at + up4 (avp_length (drop at m)) ≤ length m)
next-on m at h e =
    let p : Passed (drop at m) = passes (drop at m) e in
    let w : up4 (avp_length (drop at m)) ≤ length m - at = rw length-drop at p.whole in
    (omega (arith, p.head, head-least (drop at m), up4-least (avp_length (drop at m))), omega arith)

pub next_place : (m : List ℕ) (at : ℕ) (a : Spot) → at ≤ length m → HeadAt m at (Ok a) → (at + 8 ≤ a.next) × (a.next ≤ length m)
unfolding spot_at
next_place m at a h e =
    let o = head-is-one m at a e in
    rw o.1 (next-on m at h o.0)

-- NAMES AND SLOTS

pub same-name-refl : (n : Name) → same_name n n ≡ true
unfolding same_name
same-name-refl (base c) = eq-eqb c c refl
same-name-refl (vendor v c) = both (eq-eqb v v refl) (eq-eqb c c refl)

pub same-name-eq : (n p : Name) → same_name n p ≡ true → n ≡ p
unfolding same_name
same-name-eq (base c) (base d) e = ap base (eqb-true c d e)
same-name-eq (base c) (vendor w d) e = cc
same-name-eq (vendor v c) (base d) e = cc
same-name-eq (vendor v c) (vendor w d) e =
    let p : v ≡ w = eqb-true v w (and_left (eqb v w) (eqb c d) e) in
    let q : c ≡ d = eqb-true c d (and_right (eqb v w) (eqb c d) e) in
    cc

slot_same : (xs : List Name) (n d : Name) → slot_in xs n < length xs → same_name (get_or xs (slot_in xs n) d) n ≡ true
unfolding slot_in pick
slot_same [] n d h = absurd (omega arith)
slot_same (x ∷ xs) n d h =
    by-test (same_name x n)
    (λ t. rw t t)
    (λ t. let g = rw t at h in rw t (slot_same xs n d (omega arith)))

slot-most : (xs : List Name) (n : Name) → slot_in xs n ≤ length xs
unfolding slot_in pick
slot-most [] n = omega arith
slot-most (x ∷ xs) n = let r = slot-most xs n in by-test (same_name x n) (λ t. rw t (omega arith)) (λ t. rw t (omega arith))

-- the slot of each name is its place
own_slot : ℕ → Bool
own_slot k = eqb (slot_of (name_at k)) k

pub counted-every : (f : ℕ → Bool) (a n : ℕ) → every f (counted a n) ≡ true → (k : ℕ) → k < n → f (a + k) ≡ true
unfolding every counted
counted-every f a zero h k l = absurd (omega arith)
counted-every f a (suc n) h zero l = let z : a + zero ≡ a = omega arith in rw z (and_left (f a) (every f (counted (suc a) n)) h)
counted-every f a (suc n) h (suc k) l =
    let z : a + suc k ≡ suc a + k = omega arith in
    rw z (counted-every f (suc a) n (and_right (f a) (every f (counted (suc a) n)) h) k (omega arith))

own-slots : every own_slot (counted 0 slots) ≡ true
unfolding every counted own_slot slot_of name_at names slot_in same_name pick known known_avps named_in01 codes_of_aa_request codes_of_termination is_one_of
own-slots = refl

pub own-slot : (k : ℕ) → k < slots → slot_of (name_at k) ≡ k
unfolding own_slot
own-slot k h = let z : 0 + k ≡ k = omega arith in eqb-true (slot_of (name_at k)) k (rw z at (counted-every own_slot 0 slots own-slots k h))

-- a slot other than that is that of a known name, and its place; no other name has one
pub slot-known : (n : Name) → (slot_of n ≡ not_known → ⊥) → known n ≡ true
unfolding slot_of pick
slot-known n h = by-test (known n) (λ t. t) (λ t. absurd (h (rw t)))

pub slot-unknown : (n : Name) → slot_of n ≡ not_known → known n ≡ false
unfolding slot_of pick names
slot-unknown n h =
    by-test (known n)
    (λ t. let e = rw t at h in absurd (omega (arith, e, slot-most names n)))
    (λ t. t)

slot-place : (n : Name) → known n ≡ true → slot_of n ≡ slot_in names n
unfolding slot_of pick
slot-place n k = rw k

pub slot-named : (n : Name) → slot_of n < slots → same_name (name_at (slot_of n)) n ≡ true
unfolding name_at names
slot-named n h =
    let p = slot-place n (slot-known n (λ z. omega arith)) in
    rw p (slot_same names n (base 263) (omega (arith, p)))

pub slot-other : (n : Name) (k : ℕ) → k < slots → (k ≡ slot_of n → ⊥) → same_name (name_at k) n ≡ false
slot-other n k h d =
    by-test (same_name (name_at k) n)
    (λ t. absurd (d (sym (own-slot k h) ∙ ap slot_of (same-name-eq (name_at k) n t))))
    (λ t. t)

pub slot-supported : (s : List ℕ) → (slot_of (avp_of s).name ≡ not_known → ⊥) → supported (avp_of s) ≡ true
unfolding supported
slot-supported s h = rw (slot-known (avp_of s).name h)

-- HOW OFTEN

-- what was seen, and what is ahead
unfoldable pub and_then : Often → List Avp → Often
and_then absent xs = how_often xs
and_then (once a) [] = once a
and_then (once a) (x ∷ xs) = twice
and_then twice xs = twice

then-nothing : (o : Often) → and_then o [] ≡ o
unfolding and_then how_often
then-nothing absent = refl
then-nothing (once a) = refl
then-nothing twice = refl

then_one : (a : Avp) (xs : List Avp) → and_then absent (a ∷ xs) ≡ and_then (once a) xs
unfolding and_then how_often
then_one a [] = refl
then_one a (x ∷ xs) = refl

then-more : (o : Often) (a : Avp) (xs : List Avp) → (o ≡ absent → ⊥) → and_then o (a ∷ xs) ≡ and_then twice xs
unfolding and_then
then-more absent a xs h = absurd (h refl)
then-more (once b) a xs h = refl
then-more twice a xs h = refl

pub says-absent : (m : List ℕ) → slot_says m 0 ≡ absent
unfolding slot_says pick
says-absent m = refl

pub says-twice : (m : List ℕ) → slot_says m 1 ≡ twice
unfolding slot_says pick
says-twice m = refl

pub says-once : (m : List ℕ) (v : ℕ) → 2 ≤ v → slot_says m v ≡ once (avp_of (drop v m))
unfolding slot_says pick
says-once m v h = rw (ne_eqb v 0 (λ z. omega arith), ne_eqb v 1 (λ z. omega arith))

says_there : (m : List ℕ) (v : ℕ) → (v ≡ 0 → ⊥) → slot_says m v ≡ absent → ⊥
unfolding slot_says pick
says_there m v h e =
    let f = rw (ne_eqb v 0 h) at e in
    by-test (eqb v 1)
    (λ t. let g = rw t at f in let z : ◌≡◌ {A = ℕ} 0 1 = cc in omega arith)
    (λ t. let g = rw t at f in let z : ◌≡◌ {A = ℕ} 0 1 = cc in omega arith)

pub having-is : (n : Name) (a : Avp) (xs : List Avp) → same_name n a.name ≡ true → having n (a ∷ xs) ≡ a ∷ having n xs
unfolding having keep pick
having-is n a xs e = rw e

pub having-not : (n : Name) (a : Avp) (xs : List Avp) → same_name n a.name ≡ false → having n (a ∷ xs) ≡ having n xs
unfolding having keep pick
having-not n a xs e = rw e

pub having-none : (n : Name) → having n [] ≡ []
unfolding having keep
having-none n = refl

-- THE INVARIANT

-- the AVPs from a place on
abbrev pub ahead : List ℕ → ℕ → Walk
ahead m at = request_walk (drop at m)

pub record Walked (m index : List ℕ) (at : ℕ) : Type 0 where
  pub from : 20 ≤ at
  pub inside : at ≤ length m
  pub size : length index ≡ slots + slots
  pub code : (ahead m at).code ≡ walk_code m
  pub says : (k : ℕ) → k < slots → and_then (slot_says m (get_or index k 0)) (having (name_at k) (ahead m at).avps) ≡ how_often (having (name_at k) (avps m))
  pub there : (k : ℕ) → k < slots → 2 ≤ get_or index k 0 → Stands m (get_or index k 0)
  pub long : (k : ℕ) → k < slots → 2 ≤ get_or index k 0 → get_or index (k + slots) 0 ≡ net24 m (get_or index k 0 + 5)

pub started : (m index : List ℕ) → 20 ≤ length m → index ≡ zeros (slots + slots) → Walked m index 20
unfolding zeros avps walk_code and_then
started m index h e =
    let at : (k : ℕ) → k < slots → get_or index k 0 ≡ 0 = λ k l. rw e (get_or-replicate (slots + slots) k 0 0 (omega arith)) in
    record {
      from = omega arith;
      inside = h;
      size = rw e (length-zeros (slots + slots));
      code = refl;
      says = λ k l. rw (at k l, says-absent m);
      there = λ k l t. absurd (omega (arith, at k l));
      long = λ k l t. absurd (omega (arith, at k l));
    }

ended : (m index : List ℕ) (at : ℕ) → Walked m index at → (ahead m at).avps ≡ [] → Gathered m index
ended m index at w e =
    record {
      size = w.size;
      says = λ k l. sym (then-nothing (slot_says m (get_or index k 0))) ∙ sym (ap (and_then (slot_says m (get_or index k 0))) (ap (having (name_at k)) e ∙ having-none (name_at k))) ∙ w.says k l;
      there = w.there;
      long = w.long;
    }

pub at-end : (m index : List ℕ) (at : ℕ) → Walked m index at → length m ≤ at → (0 ≡ walk_code m) × Gathered m index
at-end m index at w h =
    let e : ahead m at ≡ record { avps = []; code = 0 } = walk_end request_code request-four (drop at m) (rw length-drop (omega arith)) in
    (sym (ap (λ (x : Walk). x.code) e) ∙ w.code, ended m index at w (ap (λ (x : Walk). x.avps) e))

-- the walk ends at an AVP whose tests give a code
failed : (m index : List ℕ) (at c : ℕ) → Walked m index at → at < length m → request_code (drop at m) ≡ c → 0 < c → (c ≡ walk_code m) × Gathered m index
failed m index at c w h f k =
    let e : ahead m at ≡ record { avps = []; code = request_code (drop at m) } =
    walk-bad request_code request-four (drop at m) (rw length-drop (omega arith)) (omega (arith, f)) in
    (sym f ∙ sym (ap (λ (x : Walk). x.code) e) ∙ w.code, ended m index at w (ap (λ (x : Walk). x.avps) e))

pub at-bad : (m index : List ℕ) (at : ℕ) (f : Failure) → Walked m index at → at < length m → HeadAt m at (Err f) → (failure_code f ≡ walk_code m) × Gathered m index
unfolding failed_with
at-bad m index at f w h b =
    let k = failure-least f in
    failed m index at (failure_code f) w h (request-bad (drop at m) (omega (arith, b.code, k)) ∙ b.code) k

pub at-unsupported : (m index : List ℕ) (at : ℕ) (a : Spot) → Walked m index at → at < length m → HeadAt m at (Ok a)
    → supported (avp_of (drop at m)) ≡ false → (5001 ≡ walk_code m) × Gathered m index
at-unsupported m index at a w h o u =
    failed m index at 5001 w h (request-refuses (drop at m) (head-is-one m at a o).0 u) (omega arith)

pub slot_is : (m : List ℕ) (at : ℕ) (a : Spot) → HeadAt m at (Ok a) → a.slot ≡ slot_of (avp_of (drop at m)).name
unfolding spot_at
slot_is m at a o = ap (λ (x : Spot). x.slot) (head-is-one m at a o).1

pub length-is : (m : List ℕ) (at : ℕ) (a : Spot) → HeadAt m at (Ok a) → a.length ≡ net24 m (at + 5)
unfolding spot_at
length-is m at a o = ap (λ (x : Spot). x.length) (head-is-one m at a o).1 ∙ net24-drop at 5 m

-- a name has another slot than what is not known exactly where it is known
pub slot-says : (n : Name) → known n ≡ not (eqb (slot_of n) not_known)
slot-says n =
    by-test (eqb (slot_of n) not_known)
    (λ e. rw (e, slot-unknown n (eqb-true (slot_of n) not_known e)))
    (λ e. rw (e, slot-known n (eqb-false (slot_of n) not_known e)))

-- what is told of an AVP says whether it is supported
pub supported-by : (m : List ℕ) (at : ℕ) (a : Spot) → HeadAt m at (Ok a) → supported (avp_of (drop at m)) ≡ (not (eqb a.slot not_known) || not a.mandatory)
unfolding supported spot_at
supported-by m at a o = rw ((head-is-one m at a o).1, slot-says (avp_of (drop at m)).name)

-- one AVP is behind: what is ahead of it
module _ (m index : List ℕ) (at : ℕ) (a : Spot) (w : Walked m index at) (o : HeadAt m at (Ok a))
    (u : supported (avp_of (drop at m)) ≡ true) where
  ahead-is : ahead m at ≡ behind (avp_of (drop at m)) (ahead m a.next)
  unfolding spot_at
  ahead-is =
      let p = head-is-one m at a o in
      walk-one request_code request-four (drop at m) (request-passes (drop at m) p.0 u) ∙ rw (p.1, drop-drop (up4 (avp_length (drop at m))) at m)

  ahead-avps : (ahead m at).avps ≡ avp_of (drop at m) ∷ (ahead m a.next).avps
  unfolding behind
  ahead-avps = rw ahead-is

  ahead-code : (ahead m at).code ≡ (ahead m a.next).code
  unfolding behind
  ahead-code = rw ahead-is

  here : Stands m at
  here = record { behind = w.from; inside = w.inside; passes = (head-is-one m at a o).0 }

  -- a slot whose name is another's
  passed-by : (k : ℕ) → k < slots → (k ≡ a.slot → ⊥) → having (name_at k) (ahead m at).avps ≡ having (name_at k) (ahead m a.next).avps
  passed-by k l d =
      ap (having (name_at k)) ahead-avps
      ∙ having-not (name_at k) (avp_of (drop at m)) (ahead m a.next).avps (slot-other (avp_of (drop at m)).name k l (λ z. d (z ∙ sym (slot_is m at a o))))

  pub stepped-over : slots ≤ a.slot → Walked m index a.next
  stepped-over s =
      let n = next_place m at a w.inside o in
      record {
        from = omega (arith, n.0, w.from);
        inside = n.1;
        size = w.size;
        code = sym ahead-code ∙ w.code;
        says = λ k l. ap (and_then (slot_says m (get_or index k 0))) (sym (passed-by k l (λ z. omega arith))) ∙ w.says k l;
        there = w.there;
        long = w.long;
      }

  module _ (s : a.slot < slots) where
    named : having (name_at a.slot) (ahead m at).avps ≡ avp_of (drop at m) ∷ having (name_at a.slot) (ahead m a.next).avps
    named =
        let t : same_name (name_at a.slot) (avp_of (drop at m)).name ≡ true =
        rw (slot_is m at a o) (slot-named (avp_of (drop at m)).name (omega (arith, slot_is m at a o))) in
        ap (having (name_at a.slot)) ahead-avps ∙ having-is (name_at a.slot) (avp_of (drop at m)) (ahead m a.next).avps t

    -- the slots after this AVP: v in its own slot, whatever number says what was seen with it, and its length n, slots places further on
    module _ (n v : ℕ) where
      after : List ℕ
      after = set (set index (a.slot + slots) n) a.slot v

      own : get_or after a.slot 0 ≡ v
      unfolding after
      own = get_or-set_same (set index (a.slot + slots) n) a.slot v 0 (rw (length-set index (a.slot + slots) n) (omega (arith, w.size)))

      other : (k : ℕ) → k < slots → (k ≡ a.slot → ⊥) → get_or after k 0 ≡ get_or index k 0
      unfolding after
      other k l d =
          get_or-set_other (set index (a.slot + slots) n) a.slot k v 0 d ∙ get_or-set_other index (a.slot + slots) k n 0 (λ z. omega arith)

      own-long : get_or after (a.slot + slots) 0 ≡ n
      unfolding after
      own-long =
          get_or-set_other (set index (a.slot + slots) n) a.slot (a.slot + slots) v 0 (λ z. omega arith)
          ∙ get_or-set_same index (a.slot + slots) n 0 (omega (arith, w.size))

      other-long : (k : ℕ) → k < slots → (k ≡ a.slot → ⊥) → get_or after (k + slots) 0 ≡ get_or index (k + slots) 0
      unfolding after
      other-long k l d =
          get_or-set_other (set index (a.slot + slots) n) a.slot (k + slots) v 0 (λ z. omega arith)
          ∙ get_or-set_other index (a.slot + slots) (k + slots) n 0 (λ z. d (omega arith))

      noted : and_then (slot_says m v) (having (name_at a.slot) (ahead m a.next).avps)
          ≡ and_then (slot_says m (get_or index a.slot 0)) (having (name_at a.slot) (ahead m at).avps)
          → (2 ≤ v → Stands m v) → (2 ≤ v → n ≡ net24 m (v + 5)) → Walked m (set (set index (a.slot + slots) n) a.slot v) a.next
      unfolding after
      noted e st lg =
          let p = next_place m at a w.inside o in
          record {
            from = omega (arith, p.0, w.from);
            inside = p.1;
            size = length-set (set index (a.slot + slots) n) a.slot v ∙ length-set index (a.slot + slots) n ∙ w.size;
            code = sym ahead-code ∙ w.code;
            says = λ k l.
                by-test (eqb k a.slot)
                (λ t. let q : k ≡ a.slot = eqb-true k a.slot t in rw (q, own) (e ∙ w.says a.slot s))
                (λ t.
                let d = eqb-false k a.slot t in
                rw (other k l d) (ap (and_then (slot_says m (get_or index k 0))) (sym (passed-by k l d)) ∙ w.says k l));
            there = λ k l.
                by-test (eqb k a.slot)
                (λ t. let q : k ≡ a.slot = eqb-true k a.slot t in rw (q, own) st)
                (λ t. rw (other k l (eqb-false k a.slot t)) (w.there k l));
            long = λ k l.
                by-test (eqb k a.slot)
                (λ t. let q : k ≡ a.slot = eqb-true k a.slot t in rw (q, own, own-long) lg)
                (λ t.
                let d = eqb-false k a.slot t in
                rw (other k l d, other-long k l d) (w.long k l));
          }

    module _ (n : ℕ) (l : n ≡ net24 m (at + 5)) where
      pub noted-first : get_or index a.slot 0 ≡ 0 → Walked m (set (set index (a.slot + slots) n) a.slot at) a.next
      noted-first z =
          noted n at
          (rw (z, says-absent m, says-once m at (omega (arith, w.from)), named) (sym (then_one (avp_of (drop at m)) (having (name_at a.slot) (ahead m a.next).avps))))
          (λ t. here) (λ t. l)

      pub noted-again : (get_or index a.slot 0 ≡ 0 → ⊥) → Walked m (set (set index (a.slot + slots) n) a.slot 1) a.next
      noted-again z =
          noted n 1
          (rw (says-twice m, named) (sym (then-more (slot_says m (get_or index a.slot 0)) (avp_of (drop at m)) (having (name_at a.slot) (ahead m a.next).avps) (says_there m (get_or index a.slot 0) z))))
          (λ t. absurd (omega arith)) (λ t. absurd (omega arith))
