-- No second answer, of the operation itself: `Learnt` is what `move_table` ensures, as its callers learn it, of the arguments `a`, of the number that is
-- returned, and of the arguments `x` or `y` as they stand afterwards. What proves it is the statement of specs/ at these arguments.
use mathlib.Core.Path.{◌≡◌}
use Prim.Native.Nat.{ℕ}
use contract.Lifetimes.{Lfts}
use denote.Triple.Clauses.{AtExit}
use borrow.Fn.Kinds.{Dens, ended_of}
use Rattle.moving.proofs.move_table.Kinds as Move
use Rattle.moving.proofs.move_table.Reads as Moving
use Rattle.moving.proofs.ThereAndBack.{one-move}

-- table, target, form
pub move-gives-one : (κs : Lfts 2) (a : Dens κs Move.ps) (n m : ℕ) (x y : AtExit (ended_of 2 Move.ps Move.r) κs)
    → Moving.Learnt κs a n x → Moving.Learnt κs a m y → (n ≡ m) × (x.1.0.now ≡ y.1.0.now)
move-gives-one κs a n m x y = one-move a.1.1.0 a.0.now a.1.0.now n m x.1.0.now y.1.0.now
