-- The paper's checks, one by one and in its order, each with the code that its failure gives.
use Rattle.std.specs.Prelude.{◌≡◌, Bool, true, false, ◌&&◌, ◌||◌, not, ℕ, zero, suc, ◌-◌, ◌/◌, ◌%◌, eqb, leb, length, get_or}
use mathlib.Core.List.{List, [], ◌∷◌, ◌++◌, flat_map}
use Rattle.octets.specs.Choice.{pick, within}
use Rattle.octets.specs.Numbers.{up4}
use Rattle.message.specs.Codes.{Code, plain, no_subscription, roaming_not_allowed, unused_by_user}
use Rattle.message.specs.ReadingAMessage.{Name, Avp, Field, Ask, tunnel, policy, termination, flags, command, application, has_v, avp_length, avp_of, supported, body, avps, session_id, having, starts_with, fields}
use Rattle.table.specs.TheTable.{Subscriber, barred, may_roam}
use Rattle.table.specs.Soundness.{on_entry}
use Rattle.rules.specs.Deciding.{entry_named, entry_at, with_session, none, stands_on}

-- CHECKS

-- Which check it is, by what is wrong where it fails.
pub data Failure : Type 0 where
  -- the header
  reserved_bits : Failure
  error_bit : Failure
  unknown_command : Failure
  wrong_application : Failure
  -- the AVP that starts at this byte of the message
  few_bytes_left : (at : ℕ) → Failure
  reserved_avp_bits : (at : ℕ) → Failure
  short_length : (at : ℕ) → Failure
  past_the_end : (at : ℕ) → Failure
  unsupported : (at : ℕ) → Failure
  -- the lists: Session-Id is not the first AVP; an AVP of this name, or that there is none
  session_id_not_first : Failure
  absent : Name → Failure
  too_often : Name → Failure
  wrong_length : Name → Failure
  wrong_value : Name → Failure
  -- any request
  no_row : Failure
  unsound_row : Failure
  -- type 0
  not_entered : Failure
  entry_barred : Failure
  may_not_roam : Failure
  session_held : Failure
  -- type 1
  no_access : Failure
  gateway_says_no : Failure
  -- termination
  unused : Failure

pub data Check : Type 0 where
  pass : Check
  fail : Failure → Code → Check

-- A check: what its failure is, the test that has to hold, and the code that its failure gives.
unfoldable pub check : Failure → Bool → Code → Check
check what true code = pass
check what false code = fail what code

-- The first that fails; `pass` where none does.
unfoldable pub first_failed : List Check → Check
first_failed [] = pass
first_failed (pass ∷ cs) = first_failed cs
first_failed (fail what code ∷ cs) = fail what code

-- The code that a check gives; 2001 where it passes.
unfoldable pub code_given : Check → Code
code_given pass = plain 2001
code_given (fail what code) = code

-- The code of the first that fails; 2001 where none does.
unfoldable pub first_failing : List Check → Code
first_failing cs = code_given (first_failed cs)

unfoldable pub none_fails : List Check → Bool
none_fails [] = true
none_fails (pass ∷ cs) = none_fails cs
none_fails (fail what code ∷ cs) = false

-- READING A MESSAGE

-- The header: none of the low four flag bits; E is clear; the command is 265 or 275; the Application-Id is 1, or for 275 it
-- may be 0.
unfoldable pub header_checks : List ℕ → List Check
header_checks m =
    check reserved_bits (eqb (flags m % 16) 0) (plain 5013)
    ∷ check error_bit (eqb (flags m / 32 % 2) 0) (plain 3008)
    ∷ check unknown_command (eqb (command m) 265 || eqb (command m) 275) (plain 3001)
    ∷ check wrong_application (eqb (application m) 1 || (eqb (command m) 275 && eqb (application m) 0)) (plain 3007)
    ∷ []

-- An AVP that starts at a byte of the message, by the bytes that are left from there on: 8 or more are left; none of the low
-- five flag bits; the length is 8 or more, 12 or more with V; its end, padded to 4, is not past the message; it is known, or its M
-- bit is clear (W1).
unfoldable pub avp_checks : (at : ℕ) → List ℕ → List Check
avp_checks at s =
    check (few_bytes_left at) (leb 8 (length s)) (plain 5014)
    ∷ check (reserved_avp_bits at) (eqb (get_or s 4 0 % 32) 0) (plain 3009)
    ∷ check (short_length at) (leb (pick (has_v s) 12 8) (avp_length s)) (plain 5014)
    ∷ check (past_the_end at) (leb (up4 (avp_length s)) (length s)) (plain 5014)
    ∷ check (unsupported at) (supported (avp_of s)) (plain 5001)
    ∷ []

-- One AVP after another, byte by byte from a byte of the message on: `left` bytes still belong to the AVP before, with its
-- padding; the next starts behind them. (What follows an AVP that fails no longer matters.)
unfoldable pub walk_from : (at left : ℕ) → List ℕ → List Check
walk_from at left [] = []
walk_from at (suc left) (b ∷ s) = walk_from (suc at) left s
walk_from at zero (b ∷ s) = avp_checks at (b ∷ s) ++ walk_from (suc at) (up4 (avp_length (b ∷ s)) - 1) s

-- The walk: the tests of each AVP behind the 20-byte header.
unfoldable pub walk_checks : List ℕ → List Check
walk_checks m = walk_from 20 0 (body m)

-- An AVP of a field: the length is right; the value is right.
unfoldable pub value_checks : Field → Avp → List Check
value_checks f a =
    check (wrong_length f.name) (within f.low f.high (length a.value)) (plain 5014)
    ∷ check (wrong_value f.name) (f.allowed a.value) (plain 5004)
    ∷ []

-- A field of a list, by the AVPs of its name: one is there, if it is required; no more are there than may be; then AVP by AVP. Only
-- Routing-Policy may be there more than once, and only where the table is of form 2 (W5).
unfoldable pub field_checks : Field → (there : List Avp) → List Check
field_checks f there =
    check (absent f.name) (not f.required || leb 1 (length there)) (plain 5005)
    ∷ check (too_often f.name) (leb (length there) f.most) (plain 5009)
    ∷ flat_map (value_checks f) there

-- The lists: Session-Id is there, as the first AVP; then field by field, those of both requests before those of the one. `most` is how many
-- policies a request may bring.
unfoldable pub list_checks : (most : ℕ) → List ℕ → List Check
list_checks most m =
    check session_id_not_first (starts_with session_id (avps m)) (plain 5005)
    ∷ flat_map (λ (f : Field). field_checks f (having f.name (avps m))) (fields most (command m) (avps m))

unfoldable pub reading_checks : (most : ℕ) → List ℕ → List Check
reading_checks most m = header_checks m ++ (walk_checks m ++ list_checks most m)

-- DECIDING

-- Type 0: the label is entered; the entry is not barred; no visited network is named, or the entry may roam; the
-- Session-Id is not in the row, or it is on this very entry (W11). Type 1: an access has the Session-Id; the WAG says yes. Termination: an access has the
-- Session-Id on this W-APN.
unfoldable pub deciding_checks : Ask → (wag : Bool) → Subscriber → List Check
deciding_checks (tunnel session host realm label visited) wag s =
    check not_entered (not (eqb (entry_named label s) 0)) no_subscription
    ∷ check entry_barred (not (barred (entry_at (entry_named label s) s))) (plain 5003)
    ∷ check may_not_roam (not (visited && not (may_roam (entry_at (entry_named label s) s)))) roaming_not_allowed
    ∷ check session_held (none (with_session session s.accesses) || stands_on (entry_named label s) session s) (plain 5012)
    ∷ []
deciding_checks (policy session first second third) wag s =
    check no_access (not (none (with_session session s.accesses))) (plain 5012) ∷ check gateway_says_no wag (plain 5012) ∷ []
deciding_checks (termination session label) wag s =
    check unused (not (none (with_session session (on_entry (entry_named label s) s.accesses)))) unused_by_user ∷ []

-- A CASE, of a table of either form: a request 265 with two AVPs, of which the second, at byte 32, gives its length as 4.
unfoldable pub short_second : List ℕ
short_second =
    (1 ∷ 0 ∷ 0 ∷ 40 ∷ 128 ∷ 0 ∷ 1 ∷ 9 ∷ 0 ∷ 0 ∷ 0 ∷ 1 ∷ 0 ∷ 0 ∷ 0 ∷ 1 ∷ 0 ∷ 0 ∷ 0 ∷ 1 ∷ [])
    ++ ((0 ∷ 0 ∷ 1 ∷ 7 ∷ 64 ∷ 0 ∷ 0 ∷ 9 ∷ 97 ∷ 0 ∷ 0 ∷ 0 ∷ [])
    ++ (0 ∷ 0 ∷ 1 ∷ 2 ∷ 64 ∷ 0 ∷ 0 ∷ 4 ∷ []))

abbrev pub TellsTheByte : Type 0
TellsTheByte = (most : ℕ) → first_failed (reading_checks most short_second) ≡ fail (short_length 32) (plain 5014)

-- Another: the second of three AVPs is not known and has M set; the third gives its length as 4.
unfoldable pub unknown_second : List ℕ
unknown_second =
    (1 ∷ 0 ∷ 0 ∷ 48 ∷ 128 ∷ 0 ∷ 1 ∷ 9 ∷ 0 ∷ 0 ∷ 0 ∷ 1 ∷ 0 ∷ 0 ∷ 0 ∷ 1 ∷ 0 ∷ 0 ∷ 0 ∷ 1 ∷ [])
    ++ ((0 ∷ 0 ∷ 1 ∷ 7 ∷ 64 ∷ 0 ∷ 0 ∷ 9 ∷ 97 ∷ 0 ∷ 0 ∷ 0 ∷ [])
    ++ ((0 ∷ 0 ∷ 0 ∷ 33 ∷ 64 ∷ 0 ∷ 0 ∷ 8 ∷ []) ++ (0 ∷ 0 ∷ 1 ∷ 2 ∷ 64 ∷ 0 ∷ 0 ∷ 4 ∷ [])))

abbrev pub TellsTheUnknown : Type 0
TellsTheUnknown = (most : ℕ) → first_failed (reading_checks most unknown_second) ≡ fail (unsupported 32) (plain 5001)
