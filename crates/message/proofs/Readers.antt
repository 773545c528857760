-- A field's reader: what the number in its slot, the length of its AVP and its value say of the field.
use mathlib.Core.Path.{◌≡◌, refl, sym, ap, ◌∙◌}
use mathlib.Core.Bool.{Bool, true, false}
use mathlib.Core.List.{List, [], ◌∷◌}
use Prim.Native.Nat.{ℕ, ◌+◌, ◌-◌, ◌≤◌, ◌<◌}
use native.Mathlib.Omega.{arith}
use borrow.Author.Tests.{eqb-true, ne_eqb, le-leb, lt-leb}
use lib.Dec.{eqb, leb}
use lib.ListN.{length, get_or, drop, length-drop}
use lib.Seq.{drop-drop}
use Rattle.octets.specs.Choice.{pick, require, first_of, within}
use Rattle.octets.specs.Lists.{every, counted}
use Rattle.octets.specs.Texts.{part}
use Rattle.octets.specs.Numbers.{net24, net32, up4}
use Rattle.octets.proofs.Lists.{by-test, and_left, kept, in_within}
use Rattle.octets.proofs.Texts.{length_part}
use Rattle.message.specs.ReadingAMessage.{Name, base, vendor, same_name, Avp, Field, anything, number_in, number_field, head_length, avp_length, avp_of, avps, having, first_value, value_of, present, tested_as, field_code}
use Rattle.message.specs.declared.Span.{Span}
use Rattle.std.specs.Prelude.{Option, Some, None, Result, Ok, Err}
use Rattle.message.specs.declared.Failure.{Failure}
use Rattle.message.specs.declared.Failure.TheVariants.{InvalidAvpValue, AvpOccursTooManyTimes, InvalidAvpLength}
use Rattle.message.specs.Failures.{failure_code}
use Rattle.message.proofs.Failures.{failure-least}
use Rattle.message.specs.Positions.{names, slots, name_at, head_of, absent, once, twice, how_often, slot_says, Stands, Gathered}
use Rattle.message.specs.Spans.{bytes_field, code_of, Reads}
use Rattle.message.proofs.Walks.{Passed, passes, up4-least}
use Rattle.message.proofs.Heads.{net24-drop}
use Rattle.message.proofs.Tested.{tested-none, tested-one, tested-several}
use Rattle.message.proofs.Gathering.{same-name-eq, says-once, says-absent, says-twice, counted-every}

-- HOW OFTEN, AS LISTS

none-there : (xs : List Avp) → absent ≡ how_often xs → xs ≡ []
unfolding how_often
none-there [] e = refl
none-there (a ∷ []) e = let z : ◌≡◌ {A = ℕ} 0 1 = cc in absurd (omega arith)
none-there (a ∷ (b ∷ xs)) e = let z : ◌≡◌ {A = ℕ} 0 1 = cc in absurd (omega arith)

one-there : (a : Avp) (xs : List Avp) → once a ≡ how_often xs → xs ≡ a ∷ []
unfolding how_often
one-there a [] e = let z : ◌≡◌ {A = ℕ} 0 1 = cc in absurd (omega arith)
one-there a (b ∷ []) e = cc
one-there a (b ∷ (d ∷ xs)) e = let z : ◌≡◌ {A = ℕ} 0 1 = cc in absurd (omega arith)

tested-twice : (f : Field) (xs : List Avp) → f.most ≡ 1 → twice ≡ how_often xs → tested_as f xs ≡ 5009
unfolding how_often
tested-twice f [] o e = let z : ◌≡◌ {A = ℕ} 0 1 = cc in absurd (omega arith)
tested-twice f (a ∷ []) o e = let z : ◌≡◌ {A = ℕ} 0 1 = cc in absurd (omega arith)
tested-twice f (a ∷ (b ∷ xs)) o e = tested-several f a b xs o

-- HEADERS BY SLOT

is_base : Name → Bool
is_base (base c) = true
is_base (vendor v c) = false

right_head : ℕ → Bool
unfolding is_base
right_head k = eqb (head_of k) (pick (is_base (name_at k)) 8 12)

right-heads : every right_head (counted 0 slots) ≡ true
unfolding every counted right_head is_base head_of name_at names pick
right-heads = refl

head-name : (s : List ℕ) → head_length s ≡ pick (is_base (avp_of s).name) 8 12
unfolding is_base head_length avp_of pick
head-name s = by-test (leb 128 (get_or s 4 0)) (λ t. rw t) (λ t. rw t)

-- an AVP with the name of a slot has the slot's header
pub slot-head : (k : ℕ) (s : List ℕ) → k < slots → same_name (name_at k) (avp_of s).name ≡ true → head_length s ≡ head_of k
unfolding right_head
slot-head k s h t =
    let z : 0 + k ≡ k = omega arith in
    let q : name_at k ≡ (avp_of s).name = same-name-eq (name_at k) (avp_of s).name t in
    let r : head_of k ≡ pick (is_base (name_at k)) 8 12 = eqb-true (head_of k) (pick (is_base (name_at k)) 8 12) (rw z at (counted-every right_head 0 slots right-heads k h)) in
    head-name s ∙ rw (← q) (sym r)

-- ONE FIELD

module _ (m index : List ℕ) (k : ℕ) (h : k < slots) (g : Gathered m index) where
  there : List Avp
  there = having (name_at k) (avps m)

  module _ (b : Bool) (low high : ℕ) where
    pub reads-absent : get_or index k 0 ≡ 0 → Reads m (bytes_field (name_at k) b low high) (Ok None)
    unfolding bytes_field field_code tested_as code_of present there
    reads-absent z =
        let e : having (name_at k) (avps m) ≡ [] = none-there (having (name_at k) (avps m)) (sym (says-absent m) ∙ ap (slot_says m) (sym z) ∙ g.says k h) in
        record {
          code = rw e;
          found = λ s w. let z : ◌≡◌ {A = ℕ} 0 1 = cc in absurd (omega arith);
          sized = λ s w. let z : ◌≡◌ {A = ℕ} 0 1 = cc in absurd (omega arith);
          there = λ s w. let z : ◌≡◌ {A = ℕ} 0 1 = cc in absurd (omega arith);
          absent = λ w. rw e;
        }

    -- where the reader gives a code, that of the failing test, nothing is claimed of a value
    coded : (f : Failure) → field_code (avps m) (bytes_field (name_at k) b low high) ≡ failure_code f → Reads m (bytes_field (name_at k) b low high) (Err f)
    unfolding code_of
    coded f e =
        record {
          code = e;
          found = λ s w. let z : ◌≡◌ {A = ℕ} 0 1 = cc in absurd (omega arith);
          sized = λ s w. let z : ◌≡◌ {A = ℕ} 0 1 = cc in absurd (omega arith);
          there = λ s w. let z : ◌≡◌ {A = ℕ} 0 1 = cc in absurd (omega arith);
          absent = λ w. let z : ◌≡◌ {A = ℕ} 0 1 = cc in absurd (omega arith);
        }

    pub reads-twice : get_or index k 0 ≡ 1 → Reads m (bytes_field (name_at k) b low high) (Err AvpOccursTooManyTimes)
    unfolding field_code bytes_field failure_code
    reads-twice z =
        coded AvpOccursTooManyTimes
        (tested-twice (bytes_field (name_at k) b low high) (having (name_at k) (avps m)) refl (sym (says-twice m) ∙ ap (slot_says m) (sym z) ∙ g.says k h))

  module _ (at : ℕ) (i : get_or index k 0 ≡ at) (t : 2 ≤ at) where
    pub stands : Stands m at
    stands = rw i at (g.there k h (rw i t))

    pub room : at + 8 ≤ length m
    room =
        let p : Passed (drop at m) = passes (drop at m) stands.passes in
        let w : 8 ≤ length m - at = rw length-drop at p.eight in
        omega (arith, stands.inside)

    pub one : having (name_at k) (avps m) ≡ avp_of (drop at m) ∷ []
    one = one-there (avp_of (drop at m)) (having (name_at k) (avps m)) (sym (says-once m at t) ∙ ap (slot_says m) (sym i) ∙ g.says k h)

    pub head-is : head_length (drop at m) ≡ head_of k
    unfolding having every
    head-is =
        let e : every (λ (a : Avp). same_name (name_at k) a.name) (having (name_at k) (avps m)) ≡ true = kept (λ (a : Avp). same_name (name_at k) a.name) (avps m) in
        let f = rw one at e in
        slot-head k (drop at m) h (and_left (same_name (name_at k) (avp_of (drop at m)).name) true f)

    pub length-least : head_of k ≤ net24 m (at + 5)
    length-least =
        let p : Passed (drop at m) = passes (drop at m) stands.passes in
        omega (arith, head-is, p.head, net24-drop at 5 m)

    pub length_most : at + net24 m (at + 5) ≤ length m
    length_most =
        let p : Passed (drop at m) = passes (drop at m) stands.passes in
        let w : up4 (avp_length (drop at m)) ≤ length m - at = rw length-drop at p.whole in
        omega (arith, stands.inside, net24-drop at 5 m, up4-least (avp_length (drop at m)))

    value-is : (avp_of (drop at m)).value ≡ part m (at + head_of k) (net24 m (at + 5) - head_of k)
    unfolding avp_of
    value-is = rw (head-is, net24-drop at 5 m, drop-drop (head_of k) at m)

    value-length : length (avp_of (drop at m)).value ≡ net24 m (at + 5) - head_of k
    value-length = ap length value-is ∙ length_part m (at + head_of k) (net24 m (at + 5) - head_of k) (omega (arith, length-least, length_most))

    tested : (b : Bool) (low high : ℕ) → field_code (avps m) (bytes_field (name_at k) b low high) ≡ require (within low high (net24 m (at + 5) - head_of k)) 5014
    unfolding field_code bytes_field first_of pick require anything
    tested b low high =
        let f = bytes_field (name_at k) b low high in
        ap (tested_as f) one ∙ tested-one f (avp_of (drop at m)) (omega arith)
        ∙ rw value-length (by-test (within low high (net24 m (at + 5) - head_of k)) (λ e. rw e) (λ e. rw e))

    module _ (b : Bool) (low high : ℕ) where
      pub reads_short : net24 m (at + 5) - head_of k < low → Reads m (bytes_field (name_at k) b low high) (Err InvalidAvpLength)
      unfolding within require failure_code
      reads_short s = coded b low high InvalidAvpLength (tested b low high ∙ rw (lt-leb low (net24 m (at + 5) - head_of k) s))

      pub reads-long : low ≤ net24 m (at + 5) - head_of k → high < net24 m (at + 5) - head_of k → Reads m (bytes_field (name_at k) b low high) (Err InvalidAvpLength)
      unfolding within require failure_code
      reads-long s l =
          coded b low high InvalidAvpLength
          (tested b low high ∙ rw (le-leb low (net24 m (at + 5) - head_of k) s, lt-leb (net24 m (at + 5) - head_of k) high l))

      pub reads-found : low ≤ net24 m (at + 5) - head_of k → net24 m (at + 5) - head_of k ≤ high
          → Reads m (bytes_field (name_at k) b low high) (Ok (Some (record { at = at + head_of k; len = net24 m (at + 5) - head_of k })))
      unfolding bytes_field code_of value_of first_value present require
      reads-found s l =
          record {
            code = tested b low high ∙ rw (in_within low high (net24 m (at + 5) - head_of k) s l);
            found = λ p w.
                let q : p ≡ record { at = at + head_of k; len = net24 m (at + 5) - head_of k } = cc in
                rw q (record { inside = omega (arith, length-least, length_most); value = rw one (sym value-is) });
            sized = λ p w.
                let q : p ≡ record { at = at + head_of k; len = net24 m (at + 5) - head_of k } = cc in
                rw q (s, l);
            there = λ p w. rw one;
            absent = λ w. let z : ◌≡◌ {A = ℕ} 0 1 = cc in absurd (omega arith);
          }

-- A NUMBER

tested-number : (n : Name) (low high : ℕ) (xs : List Avp)
    → tested_as (number_field n low high) xs
    ≡ pick (eqb (tested_as (bytes_field n true 4 4) xs) 0) (require (number_in low high (first_value xs)) 5004) (tested_as (bytes_field n true 4 4) xs)
unfolding number_field bytes_field first_of require pick first_value anything
tested-number n low high [] = rw (tested-none (number_field n low high), tested-none (bytes_field n true 4 4))
tested-number n low high (a ∷ []) =
    rw (tested-one (number_field n low high) a (omega arith), tested-one (bytes_field n true 4 4) a (omega arith))
    (by-test (within 4 4 (length a.value))
    (λ e. rw e (by-test (number_in low high a.value) (λ d. rw d) (λ d. rw d)))
    (λ e. rw e))
tested-number n low high (a ∷ (b ∷ xs)) =
    rw (tested-several (number_field n low high) a b xs refl, tested-several (bytes_field n true 4 4) a b xs refl)

module _ (m : List ℕ) (n : Name) (low high : ℕ) (g : Result (Option Span) Failure) (r : Reads m (bytes_field n true 4 4) g) where
  -- four bytes that are there: the code goes by the number in them
  number-code : (s : Span) → g ≡ Ok (Some s) → field_code (avps m) (number_field n low high) ≡ require (within low high (net32 (part m s.at s.len) 0)) 5004
  unfolding field_code bytes_field code_of pick number_in number_field value_of
  number-code s e =
      let c : tested_as (bytes_field n true 4 4) (having n (avps m)) ≡ 0 = r.code ∙ ap (code_of true) e in
      tested-number n low high (having n (avps m)) ∙ rw (c, (r.found s e).value)

  pub number-absent : g ≡ Ok None → Reads m (number_field n low high) (Ok None)
  unfolding field_code bytes_field code_of pick number_field require
  number-absent e =
      record {
        code = tested-number n low high (having n (avps m)) ∙ rw (rw e at r.code);
        found = λ s w. let z : ◌≡◌ {A = ℕ} 0 1 = cc in absurd (omega arith);
        sized = λ s w. let z : ◌≡◌ {A = ℕ} 0 1 = cc in absurd (omega arith);
        there = λ s w. let z : ◌≡◌ {A = ℕ} 0 1 = cc in absurd (omega arith);
        absent = λ w. r.absent e;
      }

  pub number-failed : (f : Failure) → g ≡ Err f → Reads m (number_field n low high) (Err f)
  unfolding field_code bytes_field code_of pick number_field require
  number-failed f e =
      let h : 1 ≤ failure_code f = failure-least f in
      record {
        code = tested-number n low high (having n (avps m)) ∙ rw (rw e at r.code, ne_eqb (failure_code f) 0 (λ z. omega arith));
        found = λ s w. let z : ◌≡◌ {A = ℕ} 0 1 = cc in absurd (omega arith);
        sized = λ s w. let z : ◌≡◌ {A = ℕ} 0 1 = cc in absurd (omega arith);
        there = λ s w. let z : ◌≡◌ {A = ℕ} 0 1 = cc in absurd (omega arith);
        absent = λ w. let z : ◌≡◌ {A = ℕ} 0 1 = cc in absurd (omega arith);
      }

  pub number-wrong : (s : Span) → g ≡ Ok (Some s) → within low high (net32 (part m s.at s.len) 0) ≡ false → Reads m (number_field n low high) (Err InvalidAvpValue)
  unfolding code_of require failure_code
  number-wrong s e w =
      record {
        code = number-code s e ∙ rw w;
        found = λ s w. let z : ◌≡◌ {A = ℕ} 0 1 = cc in absurd (omega arith);
        sized = λ s w. let z : ◌≡◌ {A = ℕ} 0 1 = cc in absurd (omega arith);
        there = λ s w. let z : ◌≡◌ {A = ℕ} 0 1 = cc in absurd (omega arith);
        absent = λ w. let z : ◌≡◌ {A = ℕ} 0 1 = cc in absurd (omega arith);
      }

  pub number-right : (s : Span) → g ≡ Ok (Some s) → within low high (net32 (part m s.at s.len) 0) ≡ true → Reads m (number_field n low high) (Ok (Some s))
  unfolding code_of require number_field bytes_field
  number-right s e w =
      record {
        code = number-code s e ∙ rw w;
        found = λ p v. r.found p (e ∙ v);
        sized = λ p v. r.sized p (e ∙ v);
        there = λ p v. r.there p (e ∙ v);
        absent = λ v. r.absent (e ∙ v);
      }
