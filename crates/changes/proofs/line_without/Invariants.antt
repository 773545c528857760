-- Of the places passed those that are not k stand in front, zeros behind them: `Closing` of Blocks.
use Prim.Native.Nat.{◌-◌, ◌≤◌}
use Rattle.changes.proofs.Blocks.{Closing}
use Rattle.changes.proofs.line_without.Given as goal

abbrev pub invariant-loop-i : goal.invariant-loop-i
invariant-loop-i l = (l.i ≤ 8) × (l.n ≤ l.i) × Closing l.line l.k l.out l.n l.i

abbrev pub decreases-loop-i : goal.decreases-loop-i
decreases-loop-i l = 8 - l.i
