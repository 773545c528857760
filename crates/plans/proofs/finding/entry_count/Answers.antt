-- The number of entries, four at most in a sound row.
use mathlib.Core.Path.{◌≡◌, sym, ◌∙◌}
use native.Mathlib.Omega.{arith}
use lib.ListN.{length}
use Rattle.table.specs.TheTable.{read_row}
use Rattle.row.proofs.Entries.{count-is, most-four, least-of}
use Rattle.plans.proofs.finding.entry_count.Goals as goal

pub entry_count-requires : goal.entry_count-requires
entry_count-requires c =
    let given = c.args in
    let pre-was = c.requires in
    least-of given.row.now pre-was

pub returns : goal.returns
returns c =
    let from-was = c.from in
    let given = c.args in
    let entry-count-was = c.entry_count in
    let pre-was = c.requires in
    let e : from-was.result ≡ length (read_row given.row.now).entries = from-was.ensures ∙ entry-count-was.ensures ∙ sym (count-is given.row.now) in
    (e, omega (arith, e, most-four given.row.now pre-was))
