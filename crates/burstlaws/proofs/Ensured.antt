-- No second answer, of the operation itself. `Learnt` is what it ensures, as its callers learn it: of the arguments `a`, of what is returned, and of the
-- arguments `x` or `y` as they stand afterwards. What proves the theorem is the statement of specs/ at these arguments, so that its equation is held to
-- the operation's own.
use mathlib.Core.Path.{◌≡◌}
use mathlib.Core.Bool.{true}
use contract.Lifetimes.{Lfts}
use denote.Triple.Clauses.{AtExit}
use borrow.Fn.Kinds.{Dens, ended_of}
use Rattle.burst.specs.declared.Taken.{Taken}
use Rattle.burst.proofs.burst.Kinds as Burst
use Rattle.burst.proofs.burst.Reads as Bursting
use Rattle.burstlaws.specs.NoSecondAnswer.{Given, are_eight}
use Rattle.burstlaws.proofs.NoSecondAnswer.{one-burst}

-- table, form, operator, host, realm, messages, wags, answers, notices, results
module _ (κs : Lfts 8) (a : Dens κs Burst.ps) where
  abbrev After : Type 0
  After = AtExit (ended_of 8 Burst.ps Burst.r) κs

  abbrev given : Taken → After → Given
  given r x =
      record {
        taken = r;
        table = x.0.now;
        answers = x.1.1.1.1.1.1.1.0.now;
        notices = x.1.1.1.1.1.1.1.1.0.now;
        results = x.1.1.1.1.1.1.1.1.1.0.now;
      }

  pub burst-gives-one : (r s : Taken) (x y : After) → are_eight (given r x).results ≡ true → are_eight (given s y).results ≡ true
      → Bursting.Learnt κs a r x → Bursting.Learnt κs a s y → given r x ≡ given s y
  burst-gives-one r s x y =
      one-burst a.1.0 a.0.now a.1.1.0 a.1.1.1.0.now a.1.1.1.1.0.now a.1.1.1.1.1.0.now a.1.1.1.1.1.1.0.now
      a.1.1.1.1.1.1.1.0.now a.1.1.1.1.1.1.1.1.0.now a.1.1.1.1.1.1.1.1.1.0.now
      (given r x) (given s y)
