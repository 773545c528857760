-- The rooms are as long after the call as before it.
use native.Mathlib.Omega.{arith}
use Rattle.replay_calls.proofs.ask.Goals as goal

pub judged-requires : goal.judged-requires
judged-requires c =
    let pre-was = c.requires in
    (omega arith, pre-was.4, omega arith, omega arith)
