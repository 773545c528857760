-- The digest of all but the last four bytes is compared with the number in them.
use mathlib.Core.Path.{◌≡◌}
use Prim.Native.Nat.{◌-◌}
use native.Mathlib.Omega.{arith}
use lib.ListN.{length}
use Rattle.replay_script.proofs.is_checked.Goals as goal

pub returns : goal.returns
returns c =
    let w = c.args.whole.now in
    let from-0 : length w - 4 - 0 ≡ length w - 4 = omega arith in
    rw (c.digest.ensures.0, c.from-expected.ensures, c.read32.ensures, from-0)
