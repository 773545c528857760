-- 1 where there is a cut.
use mathlib.Core.Path.{ap, ◌∙◌}
use Rattle.std.specs.Int.{from_bool}
use Rattle.numbers.proofs.Cuts.{made}
use Rattle.numbers.proofs.cut_number.Goals as goal

pub returns : goal.returns
returns c = c.from.ensures ∙ ap from_bool c.is_some.ensures ∙ made c.args.cut
