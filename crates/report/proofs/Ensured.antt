-- No second answer, of the operations themselves. `Learnt` is what an operation ensures, as its callers learn it: of the arguments `a`, of what is
-- returned, and of the arguments `x` or `y` as they stand afterwards. What proves a theorem is the statement of specs/ at these arguments, so that its
-- equation is held to the operation's own.
use mathlib.Core.Path.{◌≡◌}
use Prim.Native.Nat.{ℕ}
use contract.Lifetimes.{Lfts}
use denote.Triple.Clauses.{AtExit}
use borrow.Fn.Kinds.{Dens, ended_of}
use Rattle.report.specs.Code.{told_by}
use Rattle.report.specs.declared.Ratio.{Ratio}
use Rattle.report.proofs.count.Kinds as Count
use Rattle.report.proofs.count.Reads as Counting
use Rattle.report.proofs.add.Kinds as Add
use Rattle.report.proofs.add.Reads as Adding
use Rattle.report.proofs.rate.Kinds as Rate
use Rattle.report.proofs.rate.Reads as Rating
use Rattle.report.proofs.TheYear.{one-count, one-add, one-rate}

-- report, told
pub count-gives-one : (κs : Lfts 2) (a : Dens κs Count.ps) (n m : ℕ) (x y : AtExit (ended_of 2 Count.ps Count.r) κs)
    → Counting.Learnt κs a n x → Counting.Learnt κs a m y → (n ≡ m) × (x.0.now ≡ y.0.now)
count-gives-one κs a n m x y = one-count a.0.now (told_by a.1.0.now) n m x.0.now y.0.now

-- report, more
pub add-gives-one : (κs : Lfts 2) (a : Dens κs Add.ps) (n m : ℕ) (x y : AtExit (ended_of 2 Add.ps Add.r) κs)
    → Adding.Learnt κs a n x → Adding.Learnt κs a m y → (n ≡ m) × (x.0.now ≡ y.0.now)
add-gives-one κs a n m x y = one-add a.0.now a.1.0.now n m x.0.now y.0.now

-- report
pub rate-gives-one : (κs : Lfts 1) (a : Dens κs Rate.ps) (r s : Ratio) (x y : AtExit (ended_of 1 Rate.ps Rate.r) κs)
    → Rating.Learnt κs a r x → Rating.Learnt κs a s y → r ≡ s
rate-gives-one κs a r s x y = one-rate a.0.now r s
