-- The first check of reading that fails: header, walk and lists, with a law for each way out of the code.
use mathlib.Core.Path.{◌≡◌, refl, sym, ap, ◌∙◌}
use mathlib.Core.Bool.{Bool, true, false, ◌&&◌, ◌||◌, not}
use mathlib.Core.List.{List, [], ◌∷◌, ◌++◌, append_assoc, flat_map}
use Prim.Native.Nat.{ℕ, ◌+◌, ◌/◌, ◌%◌, ◌≤◌, ◌<◌}
use native.Mathlib.Omega.{arith}
use borrow.Author.Tests.{eqb-true, eqb-false, eq-eqb, ne_eqb, leb-true, leb-false, le-leb}
use lib.Dec.{eqb, leb}
use lib.ListN.{length, get_or, drop, length-drop}
use lib.Seq.{drop-drop}
use Rattle.octets.specs.Choice.{pick, require, first_of, within}
use Rattle.octets.specs.Numbers.{up4}
use Rattle.octets.proofs.Lists.{by-test, no_length}
use Rattle.std.specs.Prelude.{Option, Some, None, Result, Ok, Err}
use Rattle.message.specs.Codes.{plain}
use Rattle.message.specs.declared.Failure.{Failure}
use Rattle.message.specs.declared.Failure.TheVariants.{CommandUnsupported, ApplicationUnsupported, InvalidHeaderBits, InvalidAvpBits, AvpUnsupported, UnknownSessionId, InvalidAvpValue, MissingAvp, AvpOccursTooManyTimes, InvalidBitInHeader, InvalidAvpLength}
use Rattle.message.specs.Failures.{failure_code, failed_with}
use Rattle.message.proofs.Failures.{failure-least}
use Rattle.std.specs.Result.{is_err}
use Rattle.message.specs.Spans.{code_of}
use Rattle.message.specs.ReadingAMessage.{Name, Avp, Field, flags, command, application, header_code, head_length, avp_length, avp_code, avp_of, supported, request_code, avps, walk_code, session_id, having, starts_with, each_code, tested_as, field_code, for_both, for265, for275, fields}
use Rattle.message.proofs.Walks.{Passed, passes as passed, request-four, request-passes, request-refuses}
use Rattle.message.proofs.Listing.{above_zero, first_one}
use Rattle.reader.specs.Steps.{fault_of, seen_at, step_at}
use Rattle.reader.specs.declared.Seen.{Seen}
use Rattle.reader.specs.declared.Fault.{Fault}
use Rattle.reader.specs.declared.Fault.TheVariants.{Few, Bits, Short, Past}
use Rattle.reader.specs.declared.Step.TheVariants.{One, End, Bad}
use Rattle.reader.proofs.Laws.{step_end, step-bad, step-one}
use Rattle.order.specs.ChecksInOrder.{Check, pass, fail, reserved_bits, error_bit, unknown_command, wrong_application, few_bytes_left, reserved_avp_bits, short_length, past_the_end, unsupported, session_id_not_first, absent, too_often, wrong_length, wrong_value, check, first_failed, header_checks, avp_checks, walk_from, walk_checks, value_checks, field_checks, list_checks, reading_checks}
use Rattle.order.proofs.Read.{first-of, Gives, passes, fails, header-gives, avp-gives, walk-next, walk-gives, there-is, field-gives}
use Rattle.reasons.specs.Parts.{first_of_fields}

-- THE HEADER

-- each code of the header tests is that of one check
unfoldable pub header_entry : ℕ → Check
header_entry n =
    pick (eqb n 0) pass
    (pick (eqb n 5013) (fail reserved_bits (plain 5013))
    (pick (eqb n 3008) (fail error_bit (plain 3008))
    (pick (eqb n 3001) (fail unknown_command (plain 3001))
    (fail wrong_application (plain 3007)))))

pub header-entry : (m : List ℕ) → header_entry (header_code m) ≡ first_failed (header_checks m)
unfolding header_entry header_code header_checks first_of require check first_failed pick
header-entry m =
    by-test (eqb (flags m % 16) 0)
    (λ a. by-test (eqb (flags m / 32 % 2) 0)
    (λ b. by-test (eqb (command m) 265 || eqb (command m) 275)
    (λ c. by-test (eqb (application m) 1 || (eqb (command m) 275 && eqb (application m) 0))
    (λ d. rw (a, b, c, d))
    (λ d. rw (a, b, c, d)))
    (λ c. rw (a, b, c)))
    (λ b. rw (a, b)))
    (λ a. rw a)

pub header-last : (f : Failure) → (f ≡ InvalidBitInHeader → ⊥) → (f ≡ InvalidHeaderBits → ⊥) → (f ≡ CommandUnsupported → ⊥) → header_entry (failure_code f) ≡ fail wrong_application (plain 3007)
unfolding header_entry failure_code pick
header-last CommandUnsupported a b d = absurd (d refl)
header-last ApplicationUnsupported a b d = refl
header-last InvalidHeaderBits a b d = absurd (b refl)
header-last InvalidAvpBits a b d = refl
header-last AvpUnsupported a b d = refl
header-last UnknownSessionId a b d = refl
header-last InvalidAvpValue a b d = refl
header-last MissingAvp a b d = refl
header-last AvpOccursTooManyTimes a b d = refl
header-last InvalidBitInHeader a b d = absurd (a refl)
header-last InvalidAvpLength a b d = refl

-- THE WALK

-- the test that an AVP fails is a check of it
unfoldable pub fault_at : ℕ → Fault → Check
fault_at at Few = fail (few_bytes_left at) (plain 5014)
fault_at at Bits = fail (reserved_avp_bits at) (plain 3009)
fault_at at Short = fail (short_length at) (plain 5014)
fault_at at Past = fail (past_the_end at) (plain 5014)

pub fault-entry : (at : ℕ) (s : List ℕ) → (avp_code s ≡ 0 → ⊥) → fault_at at (fault_of s) ≡ first_failed (avp_checks at s)
unfolding fault_at fault_of avp_code avp_checks head_length first_of require check first_failed pick
fault-entry at s bad =
    by-test (leb 8 (length s))
    (λ a. by-test (eqb (get_or s 4 0 % 32) 0)
    (λ b. by-test (leb (head_length s) (avp_length s))
    (λ c. by-test (leb (up4 (avp_length s)) (length s))
    (λ d. absurd (bad (rw (a, b, c, d))))
    (λ d. rw (a, b, c, d)))
    (λ c. rw (a, b, c)))
    (λ b. rw (a, b)))
    (λ a. rw a)

-- one that passes the four tests fails the last one if it is not supported
unsupported-entry : (at : ℕ) (s : List ℕ) → avp_code s ≡ 0 → supported (avp_of s) ≡ false → fail (unsupported at) (plain 5001) ≡ first_failed (avp_checks at s)
unfolding avp_checks head_length check first_failed
unsupported-entry at s h u =
    let p : Passed s = passed s h in
    rw (le-leb 8 (length s) p.eight, eq-eqb (get_or s 4 0 % 32) 0 p.clear, le-leb (head_length s) (avp_length s) p.head, le-leb (up4 (avp_length s)) (length s) p.whole, u)

-- checks of which none fails leave it to those behind them; a failing one is the first
past : (cs ds : List Check) → first_failed cs ≡ pass → first_failed (cs ++ ds) ≡ first_failed ds
unfolding first_failed
past cs ds p = first-of cs ds ∙ rw p

gives_none : (n : ℕ) (cs : List Check) → n ≡ 0 → Gives n cs → first_failed cs ≡ pass
gives_none n cs z (passes e p) = p
gives_none n cs z (fails what e o p) = absurd (eqb-false n 0 e z)

pub gives-first : (n : ℕ) (cs ds : List Check) → (n ≡ 0 → ⊥) → Gives n cs → first_failed cs ≡ first_failed (cs ++ ds)
unfolding first_failed
gives-first n cs ds z (passes e p) = absurd (z e)
gives-first n cs ds z (fails what e o p) = p ∙ sym (first-of cs ds ∙ rw p)

pub gives-past : (n : ℕ) (cs ds : List Check) → n ≡ 0 → Gives n cs → first_failed ds ≡ first_failed (cs ++ ds)
gives-past n cs ds z g = sym (past cs ds (gives_none n cs z g))

-- checks of bytes of which there are some begin with those of an AVP
some_first : (at : ℕ) (s : List ℕ) → 0 < length s → (request_code s ≡ 0 → ⊥) → first_failed (avp_checks at s) ≡ first_failed (walk_from at 0 s)
unfolding walk_from
some_first at [] l bad = absurd (omega arith)
some_first at (b ∷ s) l bad = gives-first (request_code (b ∷ s)) (avp_checks at (b ∷ s)) _ bad (avp-gives at (b ∷ s))

module _ (m : List ℕ) (at : ℕ) where
  -- the step at a byte: the end, an AVP that passes, or one that fails
  by-step : {P : Type 0}
      → (length m ≤ at → step_at m at ≡ End → P)
      → (avp_code (drop at m) ≡ 0 → step_at m at ≡ One (seen_at m at) → P)
      → (at < length m → (avp_code (drop at m) ≡ 0 → ⊥) → step_at m at ≡ Bad (fault_of (drop at m)) → P)
      → P
  by-step end one bad =
      by-test (leb (length m) at)
      (λ l. let h : length m ≤ at = leb-true (length m) at l in end h (step_end m at h))
      (λ l. let h : at < length m = leb-false (length m) at l in
      by-test (eqb (avp_code (drop at m)) 0)
      (λ t. let k : avp_code (drop at m) ≡ 0 = eqb-true (avp_code (drop at m)) 0 t in one k (step-one m at h k))
      (λ t. let k : avp_code (drop at m) ≡ 0 → ⊥ = eqb-false (avp_code (drop at m)) 0 t in bad h k (step-bad m at h (above_zero (avp_code (drop at m)) k))))

  pub walk_ends : step_at m at ≡ End → pass ≡ first_failed (walk_from at 0 (drop at m))
  unfolding walk_from first_failed
  walk_ends e =
      by-step
      (λ h f. rw (no_length (drop at m) (rw length-drop (omega arith))))
      (λ h f. let g : One (seen_at m at) ≡ End = sym f ∙ e in let z : ◌≡◌ {A = ℕ} 0 1 = cc in absurd (omega arith))
      (λ l h f. let g : Bad (fault_of (drop at m)) ≡ End = sym f ∙ e in let z : ◌≡◌ {A = ℕ} 0 1 = cc in absurd (omega arith))

  -- an AVP that fails is the first to fail
  pub record Stops (fault : Fault) : Type 0 where
    pub bad : avp_code (drop at m) ≡ 0 → ⊥
    pub which : fault_of (drop at m) ≡ fault
    pub first : first_failed (avp_checks at (drop at m)) ≡ first_failed (walk_from at 0 (drop at m))

  pub walk-stops : (fault : Fault) → step_at m at ≡ Bad fault → Stops fault
  walk-stops fault e =
      by-step
      (λ h f. let g : End ≡ Bad fault = sym f ∙ e in let z : ◌≡◌ {A = ℕ} 0 1 = cc in absurd (omega arith))
      (λ h f. let g : One (seen_at m at) ≡ Bad fault = sym f ∙ e in let z : ◌≡◌ {A = ℕ} 0 1 = cc in absurd (omega arith))
      (λ l h f. let g : Bad (fault_of (drop at m)) ≡ Bad fault = sym f ∙ e in
      let w : fault_of (drop at m) ≡ fault = cc in
      record { bad = h; which = w; first = some_first at (drop at m) (rw length-drop (omega arith)) (λ z. h (request-four (drop at m) z)) })

  -- an AVP that passes the four tests, as it was seen
  seen : (a : Seen) → step_at m at ≡ One a → (avp_code (drop at m) ≡ 0) × (seen_at m at ≡ a)
  seen a e =
      by-step
      (λ h f. let g : End ≡ One a = sym f ∙ e in let z : ◌≡◌ {A = ℕ} 0 1 = cc in absurd (omega arith))
      (λ h f. let g : One (seen_at m at) ≡ One a = sym f ∙ e in let w : seen_at m at ≡ a = cc in (h, w))
      (λ l h f. let g : Bad (fault_of (drop at m)) ≡ One a = sym f ∙ e in let z : ◌≡◌ {A = ℕ} 0 1 = cc in absurd (omega arith))

  module _ (a : Seen) (e : step_at m at ≡ One a) where
    seen-supported : supported (avp_of (drop at m)) ≡ (a.known || not (eqb (a.flags / 64 % 2) 1))
    unfolding seen_at avp_of supported
    seen-supported = ap (λ (x : Seen). x.known || not (eqb (x.flags / 64 % 2) 1)) (seen a e).1

    -- one that is not supported is the first to fail
    pub walk-refuses : (a.known || not (eqb (a.flags / 64 % 2) 1)) ≡ false → fail (unsupported at) (plain 5001) ≡ first_failed (walk_from at 0 (drop at m))
    walk-refuses u =
        let s : List ℕ = drop at m in
        let h : avp_code s ≡ 0 = (seen a e).0 in
        let v : supported (avp_of s) ≡ false = seen-supported ∙ u in
        unsupported-entry at s h v
        ∙ some_first at s (omega (arith, (passed s h).eight)) (λ z. let w : ◌≡◌ {A = ℕ} 0 5001 = sym z ∙ request-refuses s h v in absurd (omega arith))

    -- behind one that is, the first to fail is the same
    pub walk-goes : (a.known || not (eqb (a.flags / 64 % 2) 1)) ≡ true → first_failed (walk_from a.next 0 (drop a.next m)) ≡ first_failed (walk_from at 0 (drop at m))
    unfolding seen_at
    walk-goes u =
        let s : List ℕ = drop at m in
        let h : avp_code s ≡ 0 = (seen a e).0 in
        let w : seen_at m at ≡ a = (seen a e).1 in
        let d : drop (at + up4 (avp_length s)) m ≡ drop (up4 (avp_length s)) s = sym (drop-drop (up4 (avp_length s)) at m) in
        rw (← w, walk-next at s h) (rw d (gives-past (request_code s) (avp_checks at s) _ (request-passes s h (seen-supported ∙ u)) (avp-gives at s)))

-- ONE FIELD

-- each code of a field is that of one check
unfoldable pub field_entry : Name → ℕ → Check
field_entry name n =
    pick (eqb n 0) pass
    (pick (eqb n 5005) (fail (absent name) (plain 5005))
    (pick (eqb n 5009) (fail (too_often name) (plain 5009))
    (pick (eqb n 5014) (fail (wrong_length name) (plain 5014))
    (fail (wrong_value name) (plain 5004)))))

-- AVP by AVP
each-entry : (f : Field) (there : List Avp) → field_entry f.name (each_code f there) ≡ first_failed (flat_map (value_checks f) there)
unfolding field_entry each_code value_checks first_of require check first_failed flat_map pick
each-entry f [] = refl
each-entry f (a ∷ xs) =
    by-test (within f.low f.high (length a.value))
    (λ e. by-test (f.allowed a.value)
    (λ d. rw (e, d) (ap (field_entry f.name) (first_one (each_code f xs)) ∙ each-entry f xs))
    (λ d. rw (e, d)))
    (λ e. rw e)

pub field-entry : (f : Field) (there : List Avp) → field_entry f.name (tested_as f there) ≡ first_failed (field_checks f there)
unfolding field_entry tested_as field_checks first_of require check first_failed flat_map pick
field-entry f [] =
    let few : leb (length {A = Avp} []) f.most ≡ true = le-leb 0 f.most (omega arith) in
    by-test f.required (λ e. rw e) (λ e. rw (e, few))
field-entry f (a ∷ xs) =
    let some : leb 1 (length (a ∷ xs)) ≡ true = le-leb 1 (length (a ∷ xs)) (omega arith) in
    by-test (leb (length (a ∷ xs)) f.most)
    (λ e. rw (some, there-is f.required, e) (ap (field_entry f.name) (first_one (each_code f (a ∷ xs))) ∙ each-entry f (a ∷ xs)))
    (λ e. rw (some, there-is f.required, e))

pub field-last : (name : Name) (f : Failure) → (f ≡ MissingAvp → ⊥) → (f ≡ AvpOccursTooManyTimes → ⊥) → (f ≡ InvalidAvpLength → ⊥) → field_entry name (failure_code f) ≡ fail (wrong_value name) (plain 5004)
unfolding field_entry failure_code pick
field-last name CommandUnsupported a b d = refl
field-last name ApplicationUnsupported a b d = refl
field-last name InvalidHeaderBits a b d = refl
field-last name InvalidAvpBits a b d = refl
field-last name AvpUnsupported a b d = refl
field-last name UnknownSessionId a b d = refl
field-last name InvalidAvpValue a b d = refl
field-last name MissingAvp a b d = absurd (a refl)
field-last name AvpOccursTooManyTimes a b d = absurd (b refl)
field-last name InvalidBitInHeader a b d = refl
field-last name InvalidAvpLength a b d = absurd (d refl)

-- what fails has a code
pub code-err : {T : Type 0} (r : Result T Failure) → is_err r ≡ true → failed_with r ≡ 0 → ⊥
unfolding failed_with
code-err (Ok x) e z = absurd cc
code-err (Err f) e z = omega (arith, failure-least f)

pub code-ok : {T : Type 0} (r : Result T Failure) → is_err r ≡ false → failed_with r ≡ 0
unfolding failed_with
code-ok (Ok x) e = refl
code-ok (Err f) e = absurd cc

-- the code of a field by what its reader answers
module _ {T : Type 0} (b : Bool) (g : Result (Option T) Failure) where
  pub code-some : (o : Option T) (x : T) → g ≡ Ok o → o ≡ Some x → code_of b g ≡ 0
  unfolding code_of
  code-some o x e h = rw (e, h)

  pub code-none : (o : Option T) → g ≡ Ok o → o ≡ None → code_of b g ≡ require (not b) 5005
  unfolding code_of
  code-none o e h = rw (e, h)

  pub code-failed : (f : Failure) → g ≡ Err f → code_of b g ≡ failure_code f
  unfolding code_of
  code-failed f e = rw e

-- FIELDS IN ORDER

pub only : (x : Check) → first_failed (x ∷ []) ≡ x
unfolding first_failed
only pass = refl
only (fail what code) = refl

then-first : (x : Check) (ds : List Check) → first_failed (x ∷ first_failed ds ∷ []) ≡ first_failed (x ∷ ds)
unfolding first_failed
then-first pass ds = only (first_failed ds)
then-first (fail what code) ds = refl

pub joined : (cs ds : List Check) → first_failed (first_failed cs ∷ first_failed ds ∷ []) ≡ first_failed (cs ++ ds)
joined cs ds = then-first (first_failed cs) ds ∙ sym (first-of cs ds)

flat_append : (h : Field → List Check) (fs gs : List Field) → flat_map h (fs ++ gs) ≡ flat_map h fs ++ flat_map h gs
unfolding flat_map
flat_append h [] gs = refl
flat_append h (f ∷ fs) gs = ap (λ cs. h f ++ cs) (flat_append h fs gs) ∙ sym (append_assoc (h f) (flat_map h fs) (flat_map h gs))

module _ (m : List ℕ) where
  pub field-one : (f : Field) → first_failed (field_checks f (having f.name (avps m))) ≡ first_of_fields m (f ∷ [])
  unfolding first_of_fields flat_map
  field-one f = sym (first-of (field_checks f (having f.name (avps m))) [] ∙ only (first_failed (field_checks f (having f.name (avps m)))))

  -- the first to fail of some fields and of those behind them
  pub fields-joined : (fs gs : List Field) (r a b : Check) → r ≡ first_failed (a ∷ b ∷ []) → a ≡ first_of_fields m fs → b ≡ first_of_fields m gs → r ≡ first_of_fields m (fs ++ gs)
  unfolding first_of_fields
  fields-joined fs gs r a b e ea eb =
      let h : Field → List Check = λ f. field_checks f (having f.name (avps m)) in
      e ∙ (rw (ea, eb) (joined (flat_map h fs) (flat_map h gs) ∙ ap first_failed (sym (flat_append h fs gs))))

  module _ (f : Field) (fs : List Field) where
    -- a field that fails is the first, one that passes leaves it to those behind it
    pub field-stops : (field_code (avps m) f ≡ 0 → ⊥) → first_of_fields m (f ∷ []) ≡ first_of_fields m (f ∷ fs)
    unfolding first_of_fields flat_map field_code
    field-stops z =
        sym (field-one f) ∙ gives-first _ (field_checks f (having f.name (avps m))) _ z (field-gives f (having f.name (avps m)))

    pub field-passes : field_code (avps m) f ≡ 0 → first_of_fields m fs ≡ first_of_fields m (f ∷ fs)
    unfolding first_of_fields flat_map field_code
    field-passes z = gives-past _ (field_checks f (having f.name (avps m))) _ z (field-gives f (having f.name (avps m)))

  -- THE LISTS

  pub not_first : (most : ℕ) → starts_with session_id (avps m) ≡ false → fail session_id_not_first (plain 5005) ≡ first_failed (list_checks most m)
  unfolding list_checks check first_failed
  not_first most e = rw e

  module _ (most : ℕ) (s : starts_with session_id (avps m) ≡ true) where
    pub list-265 : command m ≡ 265 → first_of_fields m (for_both ++ for265 most (avps m)) ≡ first_failed (list_checks most m)
    unfolding list_checks check first_failed first_of_fields fields pick
    list-265 e = rw (s, eq-eqb (command m) 265 e)

    pub list-275 : (command m ≡ 265 → ⊥) → first_of_fields m (for_both ++ for275) ≡ first_failed (list_checks most m)
    unfolding list_checks check first_failed first_of_fields fields pick
    list-275 e = rw (s, ne_eqb (command m) 265 e)

  -- THE WHOLE MESSAGE

  pub header-first : (most : ℕ) → (header_code m ≡ 0 → ⊥) → first_failed (header_checks m) ≡ first_failed (reading_checks most m)
  unfolding reading_checks
  header-first most z = gives-first _ (header_checks m) _ z (header-gives m)

  module _ (most : ℕ) (h : header_code m ≡ 0) where
    pub walk_first : (walk_code m ≡ 0 → ⊥) → first_failed (walk_checks m) ≡ first_failed (reading_checks most m)
    unfolding reading_checks
    walk_first z = gives-first _ (walk_checks m) (list_checks most m) z (walk-gives m) ∙ gives-past _ (header_checks m) _ h (header-gives m)

    pub lists-last : walk_code m ≡ 0 → first_failed (list_checks most m) ≡ first_failed (reading_checks most m)
    unfolding reading_checks
    lists-last z = gives-past _ (walk_checks m) (list_checks most m) z (walk-gives m) ∙ gives-past _ (header_checks m) _ h (header-gives m)
