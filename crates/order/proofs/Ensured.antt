-- No second answer, of the operations themselves. `Learnt` is what an operation ensures, as its callers learn it: of the arguments `a`, of what is
-- returned, and of the arguments `x` or `y` as they stand afterwards, each in the order that is given above the theorem. What proves a theorem is
-- the statement of specs/ at these arguments, so that its equation is held to the operation's own.
use mathlib.Core.Path.{◌≡◌}
use Prim.Native.Nat.{ℕ}
use contract.Lifetimes.{Lfts}
use denote.Triple.Clauses.{AtExit}
use borrow.Fn.Kinds.{Dens, ended_of}
use Rattle.setup.proofs.clear.Kinds as Clear
use Rattle.setup.proofs.clear.Reads as Clearing
use Rattle.setup.proofs.enter.Kinds as Enter
use Rattle.setup.proofs.enter.Reads as Entering
use Rattle.setup.proofs.add.Kinds as Add
use Rattle.setup.proofs.add.Reads as Adding
use Rattle.decision.specs.declared.Outcome.{Outcome}
use Rattle.decision.proofs.handle.Kinds as Handle
use Rattle.decision.proofs.handle.Reads as Handling
use Rattle.order.specs.NoSecondAnswer.{Given}
use Rattle.order.proofs.NoSecondAnswer.{one_answer, one-clearing, one-entering, one-adding}

-- table, form, operator, host, realm, message, wag, answer, notice
module _ (κs : Lfts 6) (a : Dens κs Handle.ps) where
  abbrev After : Type 0
  After = AtExit (ended_of 6 Handle.ps Handle.r) κs

  abbrev given : Outcome → After → Given
  given o x = record { outcome = o; table = x.0.now; answer = x.1.1.1.1.1.1.1.0.now; notice = x.1.1.1.1.1.1.1.1.0.now }

  pub handle-gives-one : (o p : Outcome) (x y : After) → Handling.Learnt κs a o x → Handling.Learnt κs a p y → given o x ≡ given p y
  handle-gives-one o p x y =
      one_answer a.1.0 a.0.now a.1.1.0 a.1.1.1.0.now a.1.1.1.1.0.now a.1.1.1.1.1.0.now a.1.1.1.1.1.1.0
      a.1.1.1.1.1.1.1.0.now a.1.1.1.1.1.1.1.1.0.now
      (given o x) (given p y)

-- table, form
pub clear-gives-one : (κs : Lfts 1) (a : Dens κs Clear.ps) (n m : ℕ) (x y : AtExit (ended_of 1 Clear.ps Clear.r) κs)
    → Clearing.Learnt κs a n x → Clearing.Learnt κs a m y → (n ≡ m) × (x.0.now ≡ y.0.now)
clear-gives-one κs a n m x y = one-clearing a.1.0 a.0.now n m x.0.now y.0.now

-- table, form, operator, shares, name
pub enter-gives-one : (κs : Lfts 3) (a : Dens κs Enter.ps) (n m : ℕ) (x y : AtExit (ended_of 3 Enter.ps Enter.r) κs)
    → Entering.Learnt κs a n x → Entering.Learnt κs a m y → (n ≡ m) × (x.0.now ≡ y.0.now)
enter-gives-one κs a n m x y =
    one-entering a.1.0 a.0.now a.1.1.1.0.now (record { operator = a.1.1.0; name = a.1.1.1.1.0.now }) n m x.0.now y.0.now

-- table, form, operator, name, label, limit, flags
pub add-gives-one : (κs : Lfts 3) (a : Dens κs Add.ps) (n m : ℕ) (x y : AtExit (ended_of 3 Add.ps Add.r) κs)
    → Adding.Learnt κs a n x → Adding.Learnt κs a m y → (n ≡ m) × (x.0.now ≡ y.0.now)
add-gives-one κs a n m x y =
    one-adding a.1.0 a.0.now (record { operator = a.1.1.0; name = a.1.1.1.0.now }) a.1.1.1.1.0.now a.1.1.1.1.1.0 a.1.1.1.1.1.1.0 n m x.0.now y.0.now
