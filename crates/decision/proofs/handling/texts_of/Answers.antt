-- Case by case of the request.
use mathlib.Core.Path.{refl}
use Rattle.decision.specs.Outcomes.{no_text, texts_of}
use Rattle.decision.proofs.handling.texts_of.Goals as goal

pub returns-in-Tunnel : goal.returns-in-Tunnel
unfolding texts_of no_text
returns-in-Tunnel c = rw c.in-Tunnel.is refl

pub returns-in-Policy : goal.returns-in-Policy
unfolding texts_of no_text
returns-in-Policy c = rw c.in-Policy.is refl

pub returns-in-Termination : goal.returns-in-Termination
unfolding texts_of no_text
returns-in-Termination c = rw c.in-Termination.is refl
