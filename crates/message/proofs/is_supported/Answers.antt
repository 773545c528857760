-- By the slot alone where the AVP is known, by M where it is not.
use borrow.Author.Tests.{eq-eqb, ne_eqb}
use Rattle.message.proofs.is_supported.Goals as goal

pub returns-then-slot-ne-NOT_KNOWN : goal.returns-then-slot-ne-NOT_KNOWN
returns-then-slot-ne-NOT_KNOWN c = rw (ne_eqb _ _ c.if-slot-ne-NOT_KNOWN.true)

pub returns : goal.returns
returns c = rw (eq-eqb _ _ c.if-slot-ne-NOT_KNOWN.false)
