-- What a caller of `read` and of `answer` asks: the lengths that the message's number promises, and that a message is never
-- refused with 2001, nor with a code that two bytes do not hold.
use mathlib.Core.Path.{◌≡◌, refl, sym, ap, ◌∙◌}
use mathlib.Core.Bool.{Bool, true, false, not, ◌&&◌}
use mathlib.Core.List.{List, [], ◌∷◌, map}
use Prim.Native.Nat.{ℕ, zero, suc, ◌≤◌, ◌<◌}
use native.Mathlib.Omega.{arith}
use borrow.Author.Tests.{ltb-true, eqb-false, not-true}
use lib.Dec.{eqb, leb, ltb}
use lib.ListN.{length, drop}
use Rattle.octets.specs.Choice.{pick, require, first_of, within}
use Rattle.octets.specs.Lists.{every}
use Rattle.octets.specs.Numbers.{up4}
use Rattle.octets.proofs.Lists.{by-test, and_left, and_right, both, within_low, within-high, every_map, every_of}
use Rattle.octets.proofs.Choice.{first_passes, passed}
use Rattle.message.specs.CallsThatGetNoAnswer.{message_most, message_number}
use Rattle.message.specs.ReadingAMessage.{header_code, Avp, Field, behind, walk_one, walk_up_to, walk_by, avp_length, avp_code, request_code, avps, walk_code, having, each_code, tested_as, field_code, starts_with, fields, list_code, reading_code, session_id, command, refused, read}

-- THE MESSAGE

-- a message with no number of its own has 20 to 4,096 bytes
pub message-length : (m : List ℕ) → message_number m ≡ 0 → (20 ≤ length m) × (length m ≤ message_most)
unfolding message_number
message-length m e =
    let w : within 20 message_most (length m) ≡ true = passed (within 20 message_most (length m)) 5 (omega arith) (first_passes (require (within 20 message_most (length m)) 5) _ e) in
    (within_low 20 message_most (length m) w, within-high 20 message_most (length m) w)

-- REFUSALS

-- a code that is not 2001, and that two bytes hold
other : ℕ → Bool
other n = not (eqb n 2001) && ltb n 65536

first-other : (cs : List ℕ) → every other cs ≡ true → other (first_of cs) ≡ true
unfolding first_of pick every other
first-other [] e = refl
first-other (c ∷ cs) e =
    by-test (eqb c 0)
    (λ t. rw t (first-other cs (and_right (other c) (every other cs) e)))
    (λ t. rw t (and_left (other c) (every other cs) e))

require-other : (b : Bool) (c : ℕ) → other c ≡ true → other (require b c) ≡ true
unfolding require other
require-other true c e = refl
require-other false c e = e

each-other : (f : Field) (xs : List Avp) → other (each_code f xs) ≡ true
unfolding each_code every other
each-other f [] = refl
each-other f (a ∷ xs) =
    first-other _
    (both (require-other (within f.low f.high (length a.value)) 5014 refl)
    (both (require-other (f.allowed a.value) 5004 refl) (both (each-other f xs) refl)))

tested-other : (f : Field) (xs : List Avp) → other (tested_as f xs) ≡ true
unfolding tested_as every other
tested-other f [] = require-other (not f.required) 5005 refl
tested-other f (a ∷ xs) =
    first-other _ (both (require-other (leb (length (a ∷ xs)) f.most) 5009 refl) (both (each-other f (a ∷ xs)) refl))

field-other : (xs : List Avp) (f : Field) → other (field_code xs f) ≡ true
unfolding field_code
field-other xs f = tested-other f (having f.name xs)

header-other : (m : List ℕ) → other (header_code m) ≡ true
unfolding header_code every other
header-other m =
    first-other _ (both (require-other _ 5013 refl) (both (require-other _ 3008 refl) (both (require-other _ 3001 refl) (both (require-other _ 3007 refl) refl))))

avp-other : (s : List ℕ) → other (avp_code s) ≡ true
unfolding avp_code every other
avp-other s =
    first-other _ (both (require-other _ 5014 refl) (both (require-other _ 3009 refl) (both (require-other _ 5014 refl) (both (require-other _ 5014 refl) refl))))

request-other : (s : List ℕ) → other (request_code s) ≡ true
unfolding request_code every other
request-other s = first-other _ (both (avp-other s) (both (require-other _ 5001 refl) refl))

walk-other : (k : ℕ) (s : List ℕ) → other (walk_up_to request_code k s).code ≡ true
unfolding walk_up_to walk_one pick behind other
walk-other zero s = refl
walk-other (suc k) s =
    by-test (eqb (length s) 0)
    (λ z. rw z)
    (λ z.
    by-test (eqb (request_code s) 0)
    (λ t. rw (z, t) (walk-other k (drop (up4 (avp_length s)) s)))
    (λ t. rw (z, t) (request-other s)))

module _ (most : ℕ) where
  list-other : (c : ℕ) (xs : List Avp) → other (list_code most c xs) ≡ true
  unfolding list_code every other
  list-other c xs =
      first-other (require (starts_with session_id xs) 5005 ∷ map (field_code xs) (fields most c xs))
      (both (require-other (starts_with session_id xs) 5005 refl) (rw (every_map {B = ℕ} other (field_code xs) (fields most c xs)) (every_of (λ f. other (field_code xs f)) (λ f. field-other xs f) (fields most c xs))))

  reading-other : (m : List ℕ) → other (reading_code most m) ≡ true
  unfolding reading_code every walk_code walk_by other
  reading-other m =
      first-other (header_code m ∷ walk_code m ∷ list_code most (command m) (avps m) ∷ [])
      (both (header-other m) (both (walk-other (suc (length (drop 20 m))) (drop 20 m)) (both (list-other (command m) (avps m)) refl)))

  refused-other : (m : List ℕ) (n : ℕ) → read most m ≡ refused n → other n ≡ true
  unfolding read pick
  refused-other m n e =
      by-test (eqb (reading_code most m) 0)
      (λ t. let f = rw t at e in let q : ◌≡◌ {A = ℕ} 0 1 = cc in absurd (omega arith))
      (λ t.
      let f = rw t at e in
      let q : reading_code most m ≡ n = cc in
      ap other (sym q) ∙ reading-other m)

  pub never-2001 : (m : List ℕ) (n : ℕ) → read most m ≡ refused n → n ≡ 2001 → ⊥
  unfolding other
  never-2001 m n e = eqb-false n 2001 (not-true (eqb n 2001) (and_left _ (ltb n 65536) (refused-other m n e)))

  pub refused-small : (m : List ℕ) (n : ℕ) → read most m ≡ refused n → n < 65536
  unfolding other
  refused-small m n e = ltb-true n 65536 (and_right (not (eqb n 2001)) _ (refused-other m n e))
