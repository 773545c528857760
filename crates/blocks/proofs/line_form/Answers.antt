-- The line's length is what `line_length` says.
use lib.ListN.{length}
use Rattle.octets.specs.Lists.{up_to0}
use Rattle.table.proofs.Tests.{behind-said}
use Rattle.blocks.proofs.line_form.Goals as goal

pub returns : goal.returns
returns c =
    let given = c.args in
    let line-length-was = c.line_length in
    let zero-behind-was = c.zero_behind in
    behind-said given.l.now line-length-was.result (length (up_to0 given.l.now)) line-length-was.ensures.0 zero-behind-was.ensures
