-- Each failure has a code, and so none is taken for passing.
use Prim.Native.Nat.{◌≤◌}
use native.Mathlib.Omega.{arith}
use Rattle.message.specs.declared.Failure.{Failure}
use Rattle.message.specs.declared.Failure.TheVariants.{CommandUnsupported, ApplicationUnsupported, InvalidHeaderBits, InvalidAvpBits, AvpUnsupported, UnknownSessionId, InvalidAvpValue, MissingAvp, AvpOccursTooManyTimes, InvalidBitInHeader, InvalidAvpLength}
use Rattle.message.specs.Failures.{failure_code}

pub failure-least : (f : Failure) → 1 ≤ failure_code f
unfolding failure_code
failure-least CommandUnsupported = omega arith
failure-least ApplicationUnsupported = omega arith
failure-least InvalidHeaderBits = omega arith
failure-least InvalidAvpBits = omega arith
failure-least AvpUnsupported = omega arith
failure-least UnknownSessionId = omega arith
failure-least InvalidAvpValue = omega arith
failure-least MissingAvp = omega arith
failure-least AvpOccursTooManyTimes = omega arith
failure-least InvalidBitInHeader = omega arith
failure-least InvalidAvpLength = omega arith
