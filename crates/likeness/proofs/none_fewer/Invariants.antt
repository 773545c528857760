-- What holds of every AVP from a place on decides: `all-step`.
use mathlib.Core.Path.{◌≡◌}
use Prim.Native.Nat.{◌-◌}
use lib.Dec.{leb}
use lib.ListN.{length}
use Rattle.likeness.specs.Code.{avps_from, next_at}
use Rattle.likeness.specs.TheSameAnswer.{complete}
use Rattle.message.specs.ReadingAMessage.{having, Avp}
use Rattle.octets.specs.Lists.{every}
use Rattle.likeness.proofs.none_fewer.Given as goal

abbrev pub invariant-loop-next : goal.invariant-loop-next
invariant-loop-next l = (l.next ≡ next_at l.ours l.at) × (every (λ (a : Avp). leb (length (having a.name (avps_from l.ours 20))) (length (having a.name (avps_from l.theirs 20)))) (avps_from l.ours l.at) ≡ complete (avps_from l.ours 20) (avps_from l.theirs 20))

abbrev pub decreases-loop-next : goal.decreases-loop-next
decreases-loop-next l = length l.ours - l.at
