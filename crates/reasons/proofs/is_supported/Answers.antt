-- One that is known; else the bit decides.
use Rattle.reasons.proofs.is_supported.Goals as goal

pub returns-then-known : goal.returns-then-known
returns-then-known c = rw c.if-known.true

pub returns : goal.returns
returns c = rw c.if-known.false
