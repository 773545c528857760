-- One byte more in a digest: the product stays below 2^62, so no sum wraps.
use Rattle.replay_script.specs.TheScript.{digest_step}
use Rattle.replay_script.proofs.Steps.{product}
use native.Mathlib.Omega.{arith}
use borrow.Author.Rules.{rules}
use Rattle.replay_script.proofs.digested.Goals as goal

pub overflow_mul-result : goal.overflow_mul-result
overflow_mul-result c = omega (arith, product c.args.h c.args.k (omega arith) (omega arith))

pub overflow_add-result : goal.overflow_add-result
overflow_add-result c = omega (arith, product c.args.h c.args.k (omega arith) (omega arith))

pub overflow_add-result-2 : goal.overflow_add-result-2
overflow_add-result-2 c = omega (arith, product c.args.h c.args.k (omega arith) (omega arith))

pub returns : goal.returns
unfolding digest_step
returns c = search rules
