-- The one looked for among those from a place on is the one looked for from the start: `met-on`; a law of Named for each way out.
use mathlib.Core.Path.{◌≡◌}
use Prim.Native.Nat.{◌-◌}
use lib.ListN.{length, drop}
use Rattle.likeness.specs.Code.{avp_at, avps_from, next_at}
use Rattle.message.specs.ReadingAMessage.{having}
use Rattle.likeness.specs.TheSameAnswer.{first_is}
use Rattle.likeness.proofs.met_by.Given as goal

abbrev pub invariant-loop-next : goal.invariant-loop-next
invariant-loop-next l = (l.next ≡ next_at l.ours l.p) × (first_is (drop l.left (having (avp_at l.theirs l.at).name (avps_from l.ours l.p))) (avp_at l.theirs l.at) ≡ first_is (drop l.k (having (avp_at l.theirs l.at).name (avps_from l.ours 20))) (avp_at l.theirs l.at))

abbrev pub decreases-loop-next : goal.decreases-loop-next
decreases-loop-next l = length l.ours - l.p
