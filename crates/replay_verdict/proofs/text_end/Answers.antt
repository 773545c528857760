-- The length is cut off, or the text ends so many bytes behind it.
use native.Mathlib.Omega.{arith}
use Prim.Native.Nat.{◌+◌}
use lib.ListN.{length}
use borrow.Author.Tests.{lt-ltb, le-ltb}
use Rattle.octets.specs.Choice.{pick}
use Rattle.replay_verdict.specs.Verdicts.{text_end}
use Rattle.replay_verdict.proofs.text_end.Goals as goal

pub returns-then-r-start : goal.returns-then-r-start
unfolding text_end pick
returns-then-r-start c =
    let a = c.args in
    (rw (lt-ltb (length a.r.now) (a.at + 4) c.if-r-start.true), omega arith, omega arith)

pub returns : goal.returns
unfolding text_end pick
returns c =
    let a = c.args in
    (rw (le-ltb (length a.r.now) (a.at + 4) (omega arith), c.number.ensures.0), omega arith, omega arith)
