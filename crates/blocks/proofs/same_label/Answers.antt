-- Equal bytes, different lengths, and the rest byte by byte: `label-bytes-same` and `label-lengths` of Labels.
use mathlib.Core.Path.{◌≡◌, sym, ◌∙◌}
use mathlib.Core.Bool.{true}
use Rattle.octets.specs.Texts.{same}
use Rattle.table.proofs.Labels.{label-bytes-same, label-lengths}
use Rattle.blocks.proofs.same_label.Goals as goal

pub returns-then-same_bytes : goal.returns-then-same_bytes
returns-then-same_bytes c =
    let given = c.args in
    let equal : same given.a.now given.b.now ≡ true = sym c.same_bytes.ensures ∙ c.if-same_bytes.true in
    sym (label-bytes-same given.a.now given.b.now equal)

pub returns-then-a-b : goal.returns-then-a-b
returns-then-a-b c =
    let given = c.args in
    sym (label-lengths given.a.now given.b.now c.if-a-b.true)

pub returns : goal.returns
returns c = c.same_letters.ensures
