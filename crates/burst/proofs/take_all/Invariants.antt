-- The loop keeps what `Going` says: the laws of Loop, each at the values of the code. That stands before the bounds: of a wrong program the first need that fails is shown.
use Prim.Native.Nat.{◌-◌}
use lib.ListN.{length}
use Rattle.burst.proofs.Loop.{Going}
use Rattle.burst.proofs.take_all.Given as goal

abbrev pub invariant-loop-next : goal.invariant-loop-next
invariant-loop-next l =
    Going l.form l.op l.host l.realm l.messages l.wags l.initial.table l.initial.answers l.initial.notices l.initial.results l.table l.answers l.notices l.results l.taken l.at l.used l.cuts l.from l.next

abbrev pub decreases-loop-next : goal.decreases-loop-next
decreases-loop-next l =
    length l.messages - l.at
