-- The mark is the test as a number.
use mathlib.Core.Path.{◌≡◌, refl, ap, ◌∙◌}
use mathlib.Core.Bool.{Bool, true, false}
use lib.Dec.{eqb, leb}
use Rattle.std.specs.Int.{from_bool}
use Rattle.octets.specs.Choice.{pick}
use Rattle.blocks.proofs.policy_marked.Goals as goal

as-number : (b : Bool) → from_bool b ≡ pick b 1 0
unfolding pick
as-number true = refl
as-number false = refl

pub returns : goal.returns
returns c = ap (eqb c.args.mark) (c.from.ensures ∙ as-number (leb 1 c.args.size))
