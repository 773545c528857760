-- What is behind the first n bytes is the rest of the room.
use mathlib.Core.Path.{◌∙◌}
use Rattle.table.proofs.Tests.{behind}
use Rattle.blocks.proofs.zero_behind.Goals as goal

pub returns : goal.returns
returns c =
    let all-zero-was = c.all_zero in
    let given = c.args in
    let pre-was = c.requires in
    all-zero-was.ensures ∙ behind given.room.now given.n pre-was
