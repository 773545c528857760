-- Why a message is refused: the Result-Code of each failure, and of what a test answers, 0 where it passes.
use Rattle.std.specs.Prelude.{ℕ, Result, Ok, Err}
use Rattle.message.specs.declared.Failure.{Failure}
use Rattle.message.specs.declared.Failure.TheVariants.{CommandUnsupported, ApplicationUnsupported, InvalidHeaderBits, InvalidAvpBits, AvpUnsupported, UnknownSessionId, InvalidAvpValue, MissingAvp, AvpOccursTooManyTimes, InvalidBitInHeader, InvalidAvpLength}

unfoldable pub failure_code : Failure → ℕ
failure_code CommandUnsupported = 3001
failure_code ApplicationUnsupported = 3007
failure_code InvalidHeaderBits = 3008
failure_code InvalidAvpBits = 3009
failure_code AvpUnsupported = 5001
failure_code UnknownSessionId = 5002
failure_code InvalidAvpValue = 5004
failure_code MissingAvp = 5005
failure_code AvpOccursTooManyTimes = 5009
failure_code InvalidBitInHeader = 5013
failure_code InvalidAvpLength = 5014

unfoldable pub failed_with : {T : Type 0} → Result T Failure → ℕ
failed_with (Ok x) = 0
failed_with (Err f) = failure_code f
