-- Without a cut none, with one a whole notice.
use mathlib.Core.Path.{◌≡◌, ap}
use native.Mathlib.Omega.{arith}
use Rattle.decision.specs.Outcomes.{cut_made}
use Rattle.judge.proofs.notice_told.Goals as goal

pub returns-in-None : goal.returns-in-None
unfolding cut_made
returns-in-None c =
    let given = c.args in
    let e : cut_made given.cut ≡ 0 = ap cut_made c.in-None.is in
    rw e (omega arith)

pub returns-in-Some : goal.returns-in-Some
unfolding cut_made
returns-in-Some c =
    let given = c.args in
    let notice-length-was = c.notice_length in
    let e : cut_made given.cut ≡ 1 = ap cut_made c.in-Some.is in
    rw e (omega (arith, notice-length-was.ensures))
