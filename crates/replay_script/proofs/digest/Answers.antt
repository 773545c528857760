use Rattle.replay_script.specs.TheScript.{digest_of}
use Rattle.replay_script.proofs.Steps.{digest-step, digest-end}
use mathlib.Core.Path.{◌≡◌, sym, ◌∙◌}
use Prim.Native.Nat.{◌+◌}
use native.Mathlib.Omega.{arith}
use lib.ListN.{drop}
use Rattle.replay_script.proofs.digest.Goals as goal

pub loop-x-preserved : goal.loop-x-preserved
loop-x-preserved c =
    let s = c.args.s.now in
    let k = c.args.k in
    let step : digest_of k c.digested-h.result (drop (c.loop-x.x-index + 1) s) ≡ digest_of k c.loop-x.h (drop c.loop-x.x-index s) =
    rw c.digested-h.ensures.0 (digest-step k c.loop-x.h s c.loop-x.x-index (omega arith)) in
    (omega arith, step ∙ c.loop-x.invariant.1)

pub returns : goal.returns
returns c =
    let s = c.args.s.now in
    (sym (digest-end c.args.k c.loop-x.h s c.loop-x.x-index (omega arith)) ∙ c.loop-x.invariant.1, omega arith)
