-- The numbers of a cut: none is 0 with no lengths.
use mathlib.Core.Path.{◌≡◌, refl}
use Prim.Native.Nat.{ℕ}
use Rattle.std.specs.Prelude.{Option, Some, None, is_some, unwrap_or}
use Rattle.std.specs.Int.{from_bool}
use Rattle.effects.specs.declared.Cut.{Cut}
use Rattle.decision.specs.Outcomes.{cut_made, cut_session, cut_host, cut_realm}

pub made : (x : Option Cut) → from_bool (is_some x) ≡ cut_made x
unfolding cut_made
made None = refl
made (Some c) = refl

pub session : (x : Option Cut) → (unwrap_or x (record { session = 0; host = 0; realm = 0 })).session ≡ cut_session x
unfolding cut_session
session None = refl
session (Some c) = refl

pub host : (x : Option Cut) → (unwrap_or x (record { session = 0; host = 0; realm = 0 })).host ≡ cut_host x
unfolding cut_host
host None = refl
host (Some c) = refl

pub realm : (x : Option Cut) → (unwrap_or x (record { session = 0; host = 0; realm = 0 })).realm ≡ cut_realm x
unfolding cut_realm
realm None = refl
realm (Some c) = refl
