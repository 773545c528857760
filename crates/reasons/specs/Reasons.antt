-- Why a call is answered as it is: what each reason of the code means in the paper's list of checks.
use Rattle.std.specs.Prelude.{◌≡◌, Bool, true, false, ℕ, eqb}
use Rattle.octets.specs.Choice.{pick}
use Rattle.message.specs.Codes.{Code, none, plain, user_unknown, no_subscription, roaming_not_allowed, unused_by_user}
use Rattle.message.specs.Positions.{name_at}
use Rattle.table.specs.TheTable.{Table}
use Rattle.rules.specs.Calls.{Call, call_number, handle}
use Rattle.order.specs.ChecksInOrder.{Check, pass, fail, reserved_bits, error_bit, unknown_command, wrong_application, few_bytes_left, reserved_avp_bits, short_length, past_the_end, unsupported, session_id_not_first, absent, too_often, wrong_length, wrong_value, no_row, unsound_row, not_entered, entry_barred, may_not_roam, session_held, no_access, gateway_says_no, unused, first_failed, code_given}
use Rattle.order.specs.Demand2.{checks, CodeOf}
use Rattle.reasons.specs.declared.Reason.{Reason}
use Rattle.reasons.specs.declared.Reason.TheVariants.{Passes, ReservedBits, ErrorBit, UnknownCommand, WrongApplication, FewBytesLeft, ReservedAvpBits, ShortLength, PastTheEnd, UnsupportedAvp, SessionIdNotFirst, Absent, Twice, WrongLength, WrongValue, NoRow, UnsoundRow, NotEntered, EntryBarred, MayNotRoam, SessionHeld, NoAccess, GatewaySaysNo, Unused}
use Rattle.reasons.specs.declared.Why.{Why}
use Rattle.reasons.specs.declared.Why.TheVariants.{Unanswered, Answered}

-- The check that each reason names, with the code that its failure gives. An AVP of the walk is named by the byte of the message
-- at which it starts, one of the lists by the slot of its name: of policies, of which
-- a request may bring several, the first that is wrong decides, and `Twice` is that there are more than may be (W5).
unfoldable pub check_named : Reason → Check
check_named Passes = pass
check_named ReservedBits = fail reserved_bits (plain 5013)
check_named ErrorBit = fail error_bit (plain 3008)
check_named UnknownCommand = fail unknown_command (plain 3001)
check_named WrongApplication = fail wrong_application (plain 3007)
check_named (FewBytesLeft at) = fail (few_bytes_left at) (plain 5014)
check_named (ReservedAvpBits at) = fail (reserved_avp_bits at) (plain 3009)
check_named (ShortLength at) = fail (short_length at) (plain 5014)
check_named (PastTheEnd at) = fail (past_the_end at) (plain 5014)
check_named (UnsupportedAvp at) = fail (unsupported at) (plain 5001)
check_named SessionIdNotFirst = fail session_id_not_first (plain 5005)
check_named (Absent slot) = fail (absent (name_at slot)) (plain 5005)
check_named (Twice slot) = fail (too_often (name_at slot)) (plain 5009)
check_named (WrongLength slot) = fail (wrong_length (name_at slot)) (plain 5014)
check_named (WrongValue slot) = fail (wrong_value (name_at slot)) (plain 5004)
check_named NoRow = fail no_row user_unknown
check_named UnsoundRow = fail unsound_row (plain 5012)
check_named NotEntered = fail not_entered no_subscription
check_named EntryBarred = fail entry_barred (plain 5003)
check_named MayNotRoam = fail may_not_roam roaming_not_allowed
check_named SessionHeld = fail session_held (plain 5012)
check_named NoAccess = fail no_access (plain 5012)
check_named GatewaySaysNo = fail gateway_says_no (plain 5012)
check_named Unused = fail unused unused_by_user

-- A call gets no answer, by the number of the test that fails; or it is answered, by the first of its checks that fails.
pub data Ground : Type 0 where
  numbered : ℕ → Ground
  checked : Check → Ground

unfoldable pub ground_named : Why → Ground
ground_named (Unanswered n) = numbered n
ground_named (Answered r) = checked (check_named r)

-- The ground of a call: its number where it has one, else the first entry of the list of its checks that fails, `pass` where
-- none does.
unfoldable pub ground_of : Table → Call → Ground
ground_of t c = pick (eqb (call_number t c) 0) (checked (first_failed (checks t c))) (numbered (call_number t c))

-- THE STATEMENTS, for any table of any form and any call: the ground explains what `handle` answers.

-- The code of a ground: a call that gets no answer has its number; else that of the check, 2001 where none fails.
unfoldable pub code_for : Ground → Code
code_for (numbered n) = none n
code_for (checked c) = code_given c

abbrev pub GroundGivesTheCode : Type 0
GroundGivesTheCode = (t : Table) (c : Call) → CodeOf (code_for (ground_of t c)) (handle t c)

-- No check fails exactly on success.
unfoldable pub nothing_fails : Ground → Bool
nothing_fails (numbered n) = false
nothing_fails (checked pass) = true
nothing_fails (checked (fail what code)) = false

abbrev pub NothingFailsOnSuccess : Type 0
NothingFailsOnSuccess = (t : Table) (c : Call) → eqb (handle t c).reply.result.code 2001 ≡ nothing_fails (ground_of t c)
