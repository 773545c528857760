-- A block has 512 bytes.
use mathlib.Core.Path.{ap}
use native.Mathlib.Omega.{arith}
use lib.ListN.{length}
use Rattle.table.proofs.Form.{length-first-of, sized}
use borrow.Author.Rules.{rules}
use Rattle.tool_faults.proofs.is_mark_wrong.Goals as goal

pub bounds-block-4 : goal.bounds-block-4
bounds-block-4 c =
    let first-was = c.first-block in
    let given = c.args in
    let pre-was = c.requires in
    omega (arith, ap length first-was.ensures, length-first-of given.row.now given.k (sized given.row.now pre-was.0) pre-was.2 pre-was.3)

pub bounds-block-5 : goal.bounds-block-5
bounds-block-5 c =
    let first-was = c.first-block in
    let given = c.args in
    let pre-was = c.requires in
    omega (arith, ap length first-was.ensures, length-first-of given.row.now given.k (sized given.row.now pre-was.0) pre-was.2 pre-was.3)
