-- No second judgement, of the operation itself. `Learnt` is what it ensures, as its callers learn it: of the arguments `a`, of what is returned, and of the arguments
-- `x` or `y` as they stand afterwards. What proves the theorem is the statement of specs/ at these arguments, so that its equation is held to the operation's own.
use mathlib.Core.Path.{◌≡◌}
use contract.Lifetimes.{Lfts}
use denote.Triple.Clauses.{AtExit}
use borrow.Fn.Kinds.{Dens, ended_of}
use Rattle.decision.specs.Outcomes.{call_of}
use Rattle.judge.specs.Code.{case_of}
use Rattle.wm_judge.specs.declared.WmJudged.{WmJudged}
use Rattle.wm_judge.specs.NoSecondAnswer.{GivenInC}
use Rattle.wm_judge.proofs.wm_judge.Kinds as Judge
use Rattle.wm_judge.proofs.wm_judge.Reads as Judging
use Rattle.wm_judge.proofs.NoSecondAnswer.{one-judgement-in-c}

-- row, after, form, operator, host, realm, message, wag, their answer, their notice, answer, notice
module _ (κs : Lfts 9) (a : Dens κs Judge.ps) where
  abbrev After : Type 0
  After = AtExit (ended_of 9 Judge.ps Judge.r) κs

  abbrev given : WmJudged → After → GivenInC
  given r x =
      record {
        numbers = r;
        row = x.0.now;
        answer = x.1.1.1.1.1.1.1.1.1.1.0.now;
        notice = x.1.1.1.1.1.1.1.1.1.1.1.0.now;
      }

  pub judge-gives-one : (r s : WmJudged) (x y : After) → Judging.Learnt κs a r x → Judging.Learnt κs a s y → given r x ≡ given s y
  judge-gives-one r s x y =
      one-judgement-in-c
      (case_of a.1.1.0 a.0.now a.1.0.now
      (call_of a.1.1.1.0 a.1.1.1.1.1.1.0.now a.1.1.1.1.0.now a.1.1.1.1.1.0.now a.1.1.1.1.1.1.1.1.1.1.0.now
      a.1.1.1.1.1.1.1.1.1.1.1.0.now a.1.1.1.1.1.1.1.0)
      a.1.1.1.1.1.1.1.1.0.now a.1.1.1.1.1.1.1.1.1.0.now)
      (given r x) (given s y)
