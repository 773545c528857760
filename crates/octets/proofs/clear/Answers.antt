use mathlib.Core.List.{append-nil}
use lib.Seq.{drop-length}
use borrow.Author.Fill.{fill_more}
use Rattle.octets.specs.Texts.{zeros}
use mathlib.Core.Path.{◌≡◌, refl, ◌∙◌}
use mathlib.Core.List.{◌++◌}
use Prim.Native.Nat.{◌+◌, ◌-◌, ◌≤◌}
use native.Mathlib.Omega.{arith}
use lib.ListN.{length, drop, length-set}
use borrow.Author.Rules.{rules}
use Rattle.octets.proofs.clear.Goals as goal

pub loop-i-init : goal.loop-i-init
unfolding zeros
loop-i-init c = (search rules, search rules, refl)

pub loop-i-preserved : goal.loop-i-preserved
unfolding zeros
loop-i-preserved c = (
  omega arith,
  simp length-set c.loop-i.invariant.1,
  rw c.loop-i.invariant.2 (fill_more c.loop-i.i 0 c.args.s.now (omega arith)),
)

pub returns : goal.returns
returns c =
    let e : c.loop-i.i ≡ length c.args.s.now = omega arith in
    c.loop-i.invariant.2 ∙ rw (e, drop-length, append-nil)
