-- No second answer, of the operations themselves: `Learnt` is what an operation ensures, as its callers learn it, of the arguments `a`, of what is
-- returned, and of the arguments `x` or `y` as they stand afterwards. What proves a theorem is the statement of specs/ at these arguments.
use mathlib.Core.Path.{◌≡◌}
use mathlib.Core.Bool.{Bool}
use contract.Lifetimes.{Lfts}
use denote.Triple.Clauses.{AtExit}
use borrow.Fn.Kinds.{Dens, ended_of}
use Rattle.abort.specs.Code.{cut_of}
use Rattle.abort.specs.declared.Written.{Written}
use Rattle.abort.proofs.write.Kinds as Write
use Rattle.abort.proofs.write.Reads as Writing
use Rattle.abort.proofs.answered.Kinds as Answered
use Rattle.abort.proofs.answered.Reads as Answering
use Rattle.abort.proofs.TheDisconnectionsRules.{one-writing, one-verdict}

-- host, realm, notice, the three lengths, the two identifiers, room
module _ (κs : Lfts 4) (a : Dens κs Write.ps) where
  abbrev After : Type 0
  After = AtExit (ended_of 4 Write.ps Write.r) κs

  pub write-gives-one : (w v : Written) (x y : After) → Writing.Learnt κs a w x → Writing.Learnt κs a v y
      → (w ≡ v) × (x.1.1.1.1.1.1.1.1.0.now ≡ y.1.1.1.1.1.1.1.1.0.now)
  write-gives-one w v x y =
      one-writing a.0.now a.1.0.now
      (cut_of a.1.1.0.now a.1.1.1.0 a.1.1.1.1.0 a.1.1.1.1.1.0)
      a.1.1.1.1.1.1.0 a.1.1.1.1.1.1.1.0 a.1.1.1.1.1.1.1.1.0.now
      w v x.1.1.1.1.1.1.1.1.0.now y.1.1.1.1.1.1.1.1.0.now

-- answer, session, the two identifiers
pub answered-gives-one : (κs : Lfts 2) (a : Dens κs Answered.ps) (b d : Bool) (x y : AtExit (ended_of 2 Answered.ps Answered.r) κs)
    → Answering.Learnt κs a b x → Answering.Learnt κs a d y → b ≡ d
answered-gives-one κs a b d x y = one-verdict a.0.now a.1.0.now a.1.1.0 a.1.1.1.0 b d
