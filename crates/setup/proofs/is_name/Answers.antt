-- The length decides first, then the digits: `name-rest` of SetUps.
use mathlib.Core.Path.{◌∙◌}
use Rattle.setup.proofs.SetUps.{name-long, name-rest, name-short}
use Rattle.setup.proofs.is_name.Goals as goal

pub returns-then-name-lt1 : goal.returns-then-name-lt1
returns-then-name-lt1 c = name-short c.args.name.now c.if-name-lt1.true

pub returns-then-name-gt-NAME_MOST : goal.returns-then-name-gt-NAME_MOST
returns-then-name-gt-NAME_MOST c = name-long c.args.name.now c.if-name-gt-NAME_MOST.true

pub returns : goal.returns
returns c = c.digits.ensures ∙ name-rest c.args.name.now c.if-name-lt1.false c.if-name-gt-NAME_MOST.false
