use native.Mathlib.Omega.{arith}
use borrow.Author.Rules.{rules}
use Rattle.changes.proofs.Blocks.{closing-none, closing-kept, closing-left, closing_end}
use Rattle.changes.proofs.line_without.Goals as goal
use Rattle.changes.proofs.line_without.Goals.{then-p-k, else-p-k}

pub loop-i-init : goal.loop-i-init
loop-i-init c = (search rules, search rules, closing-none c.args.line.now c.args.k)

pub loop-i-preserved : goal.loop-i-preserved
loop-i-preserved c =
    let line = c.args.line.now in
    let k = c.args.k in
    let i = c.loop-i.i in
    elim c.if-p-k.branch [
      | then-p-k w ↦ (omega arith, omega (arith, w.n-is), rw (w.out-is, w.n-is) (closing-kept line k c.loop-i.out c.loop-i.n i (omega arith) (omega arith) w.if-p-k.true c.loop-i.invariant.2))
      | else-p-k w ↦ (omega arith, omega (arith, w.n-is), rw (w.out-is, w.n-is) (closing-left line k c.loop-i.out c.loop-i.n i (omega arith) w.if-p-k.false c.loop-i.invariant.2))
    ]

pub returns : goal.returns
returns c = closing_end c.args.line.now c.args.k c.loop-i.out c.loop-i.n c.loop-i.i (omega arith) c.loop-i.invariant.2
