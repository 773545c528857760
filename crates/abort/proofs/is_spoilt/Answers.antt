-- The code's tests stand as the definition's do.
use borrow.Author.Tests.{eq-eqb, ne_eqb}
use Rattle.abort.specs.Code.{spoilt}
use Rattle.abort.proofs.is_spoilt.Goals as goal

pub returns-then-code-eq263 : goal.returns-then-code-eq263
unfolding spoilt
returns-then-code-eq263 c = rw (eq-eqb c.args.code 263 c.if-code-eq263.true)

pub returns-then-found : goal.returns-then-found
unfolding spoilt
returns-then-found c = rw (ne_eqb c.args.code 263 c.if-code-eq263.false, eq-eqb c.args.code 268 c.if-code-eq268.true, c.if-found.true)

pub returns-else-found : goal.returns-else-found
unfolding spoilt
returns-else-found c = rw (ne_eqb c.args.code 263 c.if-code-eq263.false, eq-eqb c.args.code 268 c.if-code-eq268.true, c.if-found.false)

pub returns-else-code-eq268 : goal.returns-else-code-eq268
unfolding spoilt
returns-else-code-eq268 c = rw (ne_eqb c.args.code 263 c.if-code-eq263.false, ne_eqb c.args.code 268 c.if-code-eq268.false)
