-- What `wm_burst` ensures, held to the statements: `Learnt` is what an operation ensures, as its callers learn it: of the arguments `a`, of what is
-- returned, and of the arguments `x` or `y` as they stand afterwards.
use mathlib.Core.Path.{◌≡◌}
use mathlib.Core.Bool.{true}
use contract.Lifetimes.{Lfts}
use denote.Triple.Clauses.{AtExit}
use borrow.Fn.Kinds.{Dens, ended_of}
use Rattle.burst.specs.declared.Taken.{Taken}
use Rattle.burst.proofs.burst.Reads as Bursting
use Rattle.wm_burst.specs.NoSecondAnswer.{GivenInC, eight_each}
use Rattle.wm_burst.proofs.wm_burst.Kinds as Burst
use Rattle.wm_burst.proofs.wm_burst.Reads as WmBurst
use Rattle.wm_burst.proofs.NoSecondAnswer.{one-burst-in-c}

-- It is what `burst` ensures, word for word: what crate `burstlaws` says of bursts is said of it.
pub burst-as-burst : (κs : Lfts 8) (a : Dens κs Burst.ps) (n : Taken) (x : AtExit (ended_of 8 Burst.ps Burst.r) κs) → WmBurst.Learnt κs a n x → Bursting.Learnt κs a n x
burst-as-burst κs a n x e = e

-- table, form, operator, host, realm, messages, wags, answers, notices, results
module _ (κs : Lfts 8) (a : Dens κs Burst.ps) where
  abbrev After : Type 0
  After = AtExit (ended_of 8 Burst.ps Burst.r) κs

  abbrev given : Taken → After → GivenInC
  given n x =
      record {
        taken = n;
        table = x.0.now;
        answers = x.1.1.1.1.1.1.1.0.now;
        notices = x.1.1.1.1.1.1.1.1.0.now;
        results = x.1.1.1.1.1.1.1.1.1.0.now;
      }

  -- No second answer: the places have eight numbers each, which is their type.
  pub burst-gives-one : (m n : Taken) (x y : After) → eight_each (given m x).results ≡ true → eight_each (given n y).results ≡ true
      → WmBurst.Learnt κs a m x → WmBurst.Learnt κs a n y → given m x ≡ given n y
  burst-gives-one m n x y =
      one-burst-in-c a.1.0 a.0.now a.1.1.0 a.1.1.1.0.now a.1.1.1.1.0.now a.1.1.1.1.1.0.now a.1.1.1.1.1.1.0.now
      a.1.1.1.1.1.1.1.0.now a.1.1.1.1.1.1.1.1.0.now a.1.1.1.1.1.1.1.1.1.0.now (given m x) (given n y)
