-- No second answer, of the operation itself. `Learnt` is what it ensures, as its callers learn it: of the arguments `a`, of what is returned, and of the arguments
-- `x` or `y` as they stand afterwards. What proves the theorem is the statement of specs/ at these arguments, so that its equation is held to the operation's own.
use mathlib.Core.Path.{◌≡◌}
use contract.Lifetimes.{Lfts}
use denote.Triple.Clauses.{AtExit}
use borrow.Fn.Kinds.{Dens, ended_of}
use Rattle.gateway.specs.Code.{call_of}
use Rattle.wm_gateway.specs.declared.WmReauthorized.{WmReauthorized}
use Rattle.wm_gateway.specs.NoSecondAnswer.{GivenAtGateway}
use Rattle.wm_gateway.proofs.wm_reauth.Kinds as Reauth
use Rattle.wm_gateway.proofs.wm_reauth.Reads as Reauthorizing
use Rattle.wm_gateway.proofs.NoSecondAnswer.{one-answer-at-gateway}

-- host, realm, session, user, label, visited, message, the two identifiers, answer, request
module _ (κs : Lfts 9) (a : Dens κs Reauth.ps) where
  abbrev After : Type 0
  After = AtExit (ended_of 9 Reauth.ps Reauth.r) κs

  abbrev given : WmReauthorized → After → GivenAtGateway
  given r x = record { numbers = r; answer = x.1.1.1.1.1.1.1.1.1.0.now; request = x.1.1.1.1.1.1.1.1.1.1.0.now }

  pub reauth-gives-one : (r s : WmReauthorized) (x y : After) → Reauthorizing.Learnt κs a r x → Reauthorizing.Learnt κs a s y → given r x ≡ given s y
  reauth-gives-one r s x y =
      one-answer-at-gateway
      (call_of a.0.now a.1.0.now a.1.1.0.now a.1.1.1.0.now a.1.1.1.1.0.now a.1.1.1.1.1.0.now a.1.1.1.1.1.1.0.now
      a.1.1.1.1.1.1.1.0 a.1.1.1.1.1.1.1.1.0 a.1.1.1.1.1.1.1.1.1.0.now a.1.1.1.1.1.1.1.1.1.1.0.now)
      (given r x) (given s y)
