-- What was read: the checks of reading, one by one, give the code that the message is refused with; and a request brings
-- texts that fit a row.
use mathlib.Core.Path.{◌≡◌, refl, ap, ◌∙◌}
use mathlib.Core.Bool.{Bool, true, false, ◌&&◌, ◌||◌, not}
use mathlib.Core.List.{List, [], ◌∷◌, ◌++◌, map, flat_map}
use Prim.Native.Nat.{ℕ, zero, suc, ◌+◌, ◌-◌, ◌/◌, ◌%◌, ◌<◌}
use native.Mathlib.Omega.{arith}
use borrow.Author.Tests.{eq-eqb, eqb-false, le-leb}
use lib.Dec.{eqb, leb}
use lib.ListN.{length, get_or, drop}
use Rattle.octets.specs.Choice.{pick, require, first_of, within}
use Rattle.octets.specs.Lists.{every}
use Rattle.octets.specs.Numbers.{net24, net32, up4}
use Rattle.octets.proofs.Lists.{and_left, and_right, both, by-test}
use Rattle.message.specs.Codes.{plain}
use Rattle.message.specs.CallsThatGetNoAnswer.{message_number}
use Rattle.message.specs.ReadingAMessage.{Avp, Field, flags, command, application, header_code, same_name, named_in01, codes_of_aa_request, codes_of_termination, known_avps, is_one_of, known, head_length, avp_length, avp_code, avp_of, supported, request_code, behind, request_walk, body, avps, walk_code, session_id, having, starts_with, each_code, tested_as, field_code, fields, list_code, reading_code, request_of, request, read}
use Rattle.message.proofs.Walks.{rest-shorter, walk_end, walk-bad, walk-one, request-four}
use Rattle.message.proofs.Gathering.{next-on}
use Rattle.table.specs.TheTable.{Table, is_form, table_number}
use Rattle.rules.specs.Calls.{Call, call_number, most_policies}
use Rattle.decision.proofs.Answered.{request-fits}
use Rattle.plans.specs.Plans.{fitting}
use Rattle.order.specs.ChecksInOrder.{Failure, session_id_not_first, wrong_length, wrong_value, Check, pass, fail, check, first_failed, none_fails, header_checks, avp_checks, walk_from, walk_checks, value_checks, field_checks, list_checks, reading_checks, short_second, TellsTheByte, unknown_second, TellsTheUnknown}

-- CHECKS BEFORE OTHERS

-- of checks that stand before others only the first that fails matters
pub first-of : (cs ds : List Check) → first_failed (cs ++ ds) ≡ first_failed (first_failed cs ∷ ds)
unfolding first_failed
first-of [] ds = refl
first-of (pass ∷ cs) ds = first-of cs ds
first-of (fail what code ∷ cs) ds = refl

pub none_of : (cs ds : List Check) → none_fails (cs ++ ds) ≡ none_fails (first_failed cs ∷ ds)
unfolding first_failed none_fails
none_of [] ds = refl
none_of (pass ∷ cs) ds = none_of cs ds
none_of (fail what code ∷ cs) ds = refl

-- A CODE AND THE CHECKS THAT GIVE IT

-- the first of the checks that fails has this Result-Code, and it is not 2001; or the code is 0, and none fails
pub data Gives (n : ℕ) (cs : List Check) : Type 0 where
  passes : n ≡ 0 → first_failed cs ≡ pass → Gives n cs
  fails : (what : Failure) → eqb n 0 ≡ false → eqb n 2001 ≡ false → first_failed cs ≡ fail what (plain n) → Gives n cs

nothing : Gives (first_of []) []
unfolding first_of first_failed
nothing = passes refl refl

-- checks behind some of which none fails; and the checks of a part, before those of others
past : (n : ℕ) (cs ds : List Check) → first_failed cs ≡ pass → Gives n ds → Gives n (cs ++ ds)
unfolding first_failed
past n cs ds p (passes z q) = passes z (first-of cs ds ∙ rw p q)
past n cs ds p (fails what z o q) = fails what z o (first-of cs ds ∙ rw p q)

part : (n : ℕ) (ns : List ℕ) (cs ds : List Check) → Gives n cs → Gives (first_of ns) ds → Gives (first_of (n ∷ ns)) (cs ++ ds)
unfolding first_of first_failed pick
part n ns cs ds (passes z p) g = rw z (past (first_of ns) cs ds p g)
part n ns cs ds (fails what z o p) g = rw z (fails what z o (first-of cs ds ∙ rw p))

last : (n : ℕ) (cs : List Check) → Gives n cs → Gives (first_of (n ∷ [])) cs
unfolding first_of pick
last n cs (passes z p) = rw z (passes refl p)
last n cs (fails what z o p) = rw z (fails what z o p)

-- HEADER AND WALK

pub header-gives : (m : List ℕ) → Gives (header_code m) (header_checks m)
unfolding header_code header_checks first_of require check first_failed pick
header-gives m =
    by-test (eqb (flags m % 16) 0)
    (λ a. by-test (eqb (flags m / 32 % 2) 0)
    (λ b. by-test (eqb (command m) 265 || eqb (command m) 275)
    (λ c. by-test (eqb (application m) 1 || (eqb (command m) 275 && eqb (application m) 0))
    (λ d. rw (a, b, c, d) (passes refl refl))
    (λ d. rw (a, b, c, d) (fails _ refl refl refl)))
    (λ c. rw (a, b, c) (fails _ refl refl refl)))
    (λ b. rw (a, b) (fails _ refl refl refl)))
    (λ a. rw a (fails _ refl refl refl))

pub avp-gives : (at : ℕ) (s : List ℕ) → Gives (request_code s) (avp_checks at s)
unfolding request_code avp_code avp_checks head_length first_of require check first_failed pick
avp-gives at s =
    by-test (leb 8 (length s))
    (λ a. by-test (eqb (get_or s 4 0 % 32) 0)
    (λ b. by-test (leb (head_length s) (avp_length s))
    (λ c. by-test (leb (up4 (avp_length s)) (length s))
    (λ d. by-test (supported (avp_of s))
    (λ e. rw (a, b, c, d, e) (passes refl refl))
    (λ e. rw (a, b, c, d, e) (fails _ refl refl refl)))
    (λ d. rw (a, b, c, d) (fails _ refl refl refl)))
    (λ c. rw (a, b, c) (fails _ refl refl refl)))
    (λ b. rw (a, b) (fails _ refl refl refl)))
    (λ a. rw a (fails _ refl refl refl))

-- the AVP before is stepped over
walk-skips : (at k : ℕ) (s : List ℕ) → walk_from at k s ≡ walk_from (at + k) 0 (drop k s)
unfolding walk_from
walk-skips at zero s = let z : at + 0 ≡ at = omega arith in rw z
walk-skips at (suc k) [] = refl
walk-skips at (suc k) (b ∷ s) = let z : at + suc k ≡ suc at + k = omega arith in rw z (walk-skips (suc at) k s)

-- an AVP that passes, and what follows its padding
pub walk-next : (at : ℕ) (s : List ℕ) → avp_code s ≡ 0 → walk_from at 0 s ≡ avp_checks at s ++ walk_from (at + up4 (avp_length s)) 0 (drop (up4 (avp_length s)) s)
unfolding walk_from
walk-next at [] h = let o = next-on [] 0 (omega arith) h in absurd (omega (arith, o.0, o.1))
walk-next at (b ∷ s) h =
    let e : up4 (avp_length (b ∷ s)) ≡ suc (up4 (avp_length (b ∷ s)) - 1) = omega (arith, (next-on (b ∷ s) 0 (omega arith) h).0) in
    let z : at + up4 (avp_length (b ∷ s)) ≡ suc at + (up4 (avp_length (b ∷ s)) - 1) = omega arith in
    let d : drop (up4 (avp_length (b ∷ s))) (b ∷ s) ≡ drop (up4 (avp_length (b ∷ s)) - 1) s = ap (λ k. drop k (b ∷ s)) e in
    rw (z, d) (ap (λ (cs : List Check). avp_checks at (b ∷ s) ++ cs) (walk-skips (suc at) (up4 (avp_length (b ∷ s)) - 1) s))

walked_one : (at b : ℕ) (s : List ℕ)
    → (request_code (b ∷ s) ≡ 0 → Gives (request_walk (drop (up4 (avp_length (b ∷ s))) (b ∷ s))).code (walk_from (at + up4 (avp_length (b ∷ s))) 0 (drop (up4 (avp_length (b ∷ s))) (b ∷ s))))
    → Gives (request_code (b ∷ s)) (avp_checks at (b ∷ s)) → Gives (request_walk (b ∷ s)).code (walk_from at 0 (b ∷ s))
unfolding walk_from first_failed behind
walked_one at b s onward (passes z p) = rw (walk-one request_code request-four (b ∷ s) z, walk-next at (b ∷ s) (request-four (b ∷ s) z)) (past _ (avp_checks at (b ∷ s)) _ p (onward z))
walked_one at b s onward (fails what z o p) =
    rw (walk-bad request_code request-four (b ∷ s) (omega arith) (omega (arith, eqb-false (request_code (b ∷ s)) 0 z))) (fails what z o (first-of (avp_checks at (b ∷ s)) _ ∙ rw p))

walked : (n at : ℕ) (s : List ℕ) → length s < n → Gives (request_walk s).code (walk_from at 0 s)
unfolding walk_from first_failed
walked zero at s h = absurd (omega arith)
walked (suc n) at [] h = rw (walk_end request_code request-four [] refl) (passes refl refl)
walked (suc n) at (b ∷ s) h = walked_one at b s (λ z. walked n _ _ (omega (arith, rest-shorter (b ∷ s) (request-four (b ∷ s) z)))) (avp-gives at (b ∷ s))

pub walk-gives : (m : List ℕ) → Gives (walk_code m) (walk_checks m)
unfolding walk_code walk_checks
walk-gives m = walked (suc (length (body m))) _ (body m) (omega arith)

-- THE LISTS

-- a field that is there is not absent, required or not
pub there-is : (required : Bool) → not required || true ≡ true
there-is true = refl
there-is false = refl

-- one test
one-gives : (what : Failure) (b : Bool) (n : ℕ) → eqb n 0 ≡ false → eqb n 2001 ≡ false → Gives (require b n) (check what b (plain n) ∷ [])
unfolding require check first_failed
one-gives what true n z o = passes refl refl
one-gives what false n z o = fails what z o refl

-- AVP by AVP
pub each-gives : (f : Field) (there : List Avp) → Gives (each_code f there) (flat_map (value_checks f) there)
unfolding each_code value_checks first_failed flat_map
each-gives f [] = passes refl refl
each-gives f (a ∷ xs) =
    part _ _ (check (wrong_length f.name) (within f.low f.high (length a.value)) (plain 5014) ∷ []) _ (one-gives _ _ 5014 refl refl)
    (part _ _ (check (wrong_value f.name) (f.allowed a.value) (plain 5004) ∷ []) _ (one-gives _ _ 5004 refl refl)
    (last _ _ (each-gives f xs)))

-- one is there, so that none is absent; they are too many, or as many as may be
module _ (f : Field) (a : Avp) (xs : List Avp) where
  some : leb 1 (length (a ∷ xs)) ≡ true
  some = le-leb 1 (length (a ∷ xs)) (omega arith)

  too_many : leb (length (a ∷ xs)) f.most ≡ false → Gives (tested_as f (a ∷ xs)) (field_checks f (a ∷ xs))
  unfolding tested_as field_checks first_of require check first_failed pick
  too_many e = rw (some, there-is f.required, e) (fails _ refl refl refl)

  not-many : leb (length (a ∷ xs)) f.most ≡ true → Gives (tested_as f (a ∷ xs)) (field_checks f (a ∷ xs))
  unfolding tested_as field_checks first_of require check first_failed pick
  not-many e = rw (some, there-is f.required, e) (past _ (pass ∷ pass ∷ []) _ refl (last _ _ (each-gives f (a ∷ xs))))

pub field-gives : (f : Field) (there : List Avp) → Gives (tested_as f there) (field_checks f there)
unfolding tested_as field_checks require check first_failed flat_map
field-gives f [] =
    let few : leb (length {A = Avp} []) f.most ≡ true = le-leb 0 f.most (omega arith) in
    by-test f.required (λ e. rw e (fails _ refl refl refl)) (λ e. rw (e, few) (passes refl refl))
field-gives f (a ∷ xs) = by-test (leb (length (a ∷ xs)) f.most) (λ e. not-many f a xs e) (λ e. too_many f a xs e)

fields_give : (xs : List Avp) (fs : List Field) → Gives (first_of (map (field_code xs) fs)) (flat_map (λ (f : Field). field_checks f (having f.name xs)) fs)
unfolding field_code flat_map
fields_give xs [] = nothing
fields_give xs (f ∷ fs) = part _ _ (field_checks f (having f.name xs)) _ (field-gives f (having f.name xs)) (fields_give xs fs)

first-is : (m : List ℕ) → Gives (require (starts_with session_id (avps m)) 5005) (check session_id_not_first (starts_with session_id (avps m)) (plain 5005) ∷ [])
unfolding require check first_failed
first-is m = by-test (starts_with session_id (avps m)) (λ e. rw e (passes refl refl)) (λ e. rw e (fails _ refl refl refl))

list-gives : (most : ℕ) (m : List ℕ) → Gives (list_code most (command m) (avps m)) (list_checks most m)
unfolding list_code list_checks
list-gives most m =
    part _ _ (check session_id_not_first (starts_with session_id (avps m)) (plain 5005) ∷ []) _ (first-is m) (fields_give (avps m) (fields most (command m) (avps m)))

pub reading-gives : (most : ℕ) (m : List ℕ) → Gives (reading_code most m) (reading_checks most m)
unfolding reading_code reading_checks
reading-gives most m =
    part _ _ (header_checks m) _ (header-gives m) (part _ _ (walk_checks m) (list_checks most m) (walk-gives m) (last _ _ (list-gives most m)))

-- the byte where an AVP starts that fails, in a case
pub tells-the-byte : TellsTheByte
unfolding reading_checks header_checks walk_checks walk_from avp_checks check first_failed short_second pick net24 net32 up4 avp_of supported known is_one_of known_avps named_in01 codes_of_aa_request codes_of_termination same_name
tells-the-byte most = refl

pub tells-the-unknown : TellsTheUnknown
unfolding reading_checks header_checks walk_checks walk_from avp_checks check first_failed unknown_second pick net24 net32 up4 avp_of supported known is_one_of known_avps named_in01 codes_of_aa_request codes_of_termination same_name
tells-the-unknown most = refl

-- NO NUMBER IS 2001

unfoldable pub other : ℕ → Bool
other c = not (eqb c 2001)

first-other : (cs : List ℕ) → every other cs ≡ true → other (first_of cs) ≡ true
unfolding first_of every other pick
first-other [] h = refl
first-other (c ∷ cs) h = by-test (eqb c 0) (λ e. rw e (first-other cs (and_right (other c) _ h))) (λ e. rw e (and_left (other c) _ h))

require-other : (b : Bool) (c : ℕ) → other c ≡ true → other (require b c) ≡ true
unfolding require other
require-other true c h = refl
require-other false c h = h

message-other : (m : List ℕ) → other (message_number m) ≡ true
unfolding message_number every other
message-other m =
    first-other _ (both (require-other _ 5 refl) (both (require-other _ 6 refl) (both (require-other _ 7 refl) (both (require-other _ 8 refl) refl))))

pub call-other : (t : Table) (c : Call) → other (call_number t c) ≡ true
unfolding call_number table_number every other
call-other t c =
    first-other _ (both (require-other _ 1 refl) (both (require-other _ 33 refl) (both (require-other _ 2 refl) (both (require-other _ 3 refl) (both (require-other _ 4 refl) (both (message-other c.message) refl))))))

-- THE TEXTS OF A REQUEST FIT A ROW

pub read_is : (most : ℕ) (m : List ℕ) → reading_code most m ≡ 0 → read most m ≡ request (request_of (command m) (avps m))
unfolding read pick
read_is most m h = rw (eq-eqb (reading_code most m) 0 h)

pub ask-fits : (fm : ℕ) → is_form fm ≡ true → (m : List ℕ) → reading_code (most_policies fm) m ≡ 0 → fitting fm (request_of (command m) (avps m)).ask ≡ true
ask-fits fm f m h = request-fits fm f m (request_of (command m) (avps m)) (read_is (most_policies fm) m h)
