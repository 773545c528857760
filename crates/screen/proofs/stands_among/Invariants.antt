-- None of the entries before this one is of the Session-Id.
use Rattle.std.proofs.Common.{◌≡◌, true, take}
use mathlib.Core.Bool.{not}
use Rattle.octets.specs.Lists.{every}
use Rattle.screen.specs.TheBoard.{is_of}
use Rattle.screen.proofs.stands_among.Given as goal

abbrev pub invariant-loop-e : goal.invariant-loop-e
invariant-loop-e l = every (λ s. not (is_of l.session s)) (take l.e-index l.screens) ≡ true
