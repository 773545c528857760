-- By the first of the two.
use borrow.Enum.Refused.{opened}
use mathlib.Core.Path.{◌≡◌, refl, sym}
use mathlib.Core.List.{[], ◌∷◌}
use types.Run.{OneOf, miss}
use denote.Enum.Declared.{tag_of}
use Rattle.order.specs.ChecksInOrder.{Check, first_failed}
use Rattle.reasons.specs.declared.Reason.{Reason}
use Rattle.reasons.specs.declared.Reason.TheVariants.{Passes, ReservedBits, ErrorBit, UnknownCommand, WrongApplication, FewBytesLeft, ReservedAvpBits, ShortLength, PastTheEnd, UnsupportedAvp, SessionIdNotFirst, Absent, Twice, WrongLength, WrongValue, NoRow, UnsoundRow, NotEntered, EntryBarred, MayNotRoam, SessionHeld, NoAccess, GatewaySaysNo, Unused}
use Rattle.reasons.specs.Reasons.{check_named}
use Rattle.reasons.specs.contracts.Reason.{the_type}
use Rattle.reasons.proofs.Laws.{only}
use Rattle.reasons.proofs.first_of.Goals as goal

-- every reason but the first names a check that fails
fails-first : (r : Reason) (x : Check) → OneOf (1 ∷ 2 ∷ 3 ∷ 4 ∷ 5 ∷ 6 ∷ 7 ∷ 8 ∷ 9 ∷ 10 ∷ 11 ∷ 12 ∷ 13 ∷ 14 ∷ 15 ∷ 16 ∷ 17 ∷ 18 ∷ 19 ∷ 20 ∷ 21 ∷ 22 ∷ 23 ∷ []) (tag_of the_type r) → check_named r ≡ first_failed (check_named r ∷ x ∷ [])
unfolding check_named first_failed
fails-first Passes x o = absurd (miss (1 ∷ 2 ∷ 3 ∷ 4 ∷ 5 ∷ 6 ∷ 7 ∷ 8 ∷ 9 ∷ 10 ∷ 11 ∷ 12 ∷ 13 ∷ 14 ∷ 15 ∷ 16 ∷ 17 ∷ 18 ∷ 19 ∷ 20 ∷ 21 ∷ 22 ∷ 23 ∷ []) 0 tt o)
fails-first ReservedBits x o = refl
fails-first ErrorBit x o = refl
fails-first UnknownCommand x o = refl
fails-first WrongApplication x o = refl
fails-first (FewBytesLeft n) x o = refl
fails-first (ReservedAvpBits n) x o = refl
fails-first (ShortLength n) x o = refl
fails-first (PastTheEnd n) x o = refl
fails-first (UnsupportedAvp n) x o = refl
fails-first SessionIdNotFirst x o = refl
fails-first (Absent n) x o = refl
fails-first (Twice n) x o = refl
fails-first (WrongLength n) x o = refl
fails-first (WrongValue n) x o = refl
fails-first NoRow x o = refl
fails-first UnsoundRow x o = refl
fails-first NotEntered x o = refl
fails-first EntryBarred x o = refl
fails-first MayNotRoam x o = refl
fails-first SessionHeld x o = refl
fails-first NoAccess x o = refl
fails-first GatewaySaysNo x o = refl
fails-first Unused x o = refl

pub returns-in-Passes : goal.returns-in-Passes
unfolding check_named first_failed
returns-in-Passes c =
    let b = check_named c.args.b in
    rw c.in-Passes.is (sym (only b))

pub returns-in_default : goal.returns-in_default
returns-in_default c = fails-first c.args.a (check_named c.args.b) (opened c.in_default.in_default-own.keys2)
