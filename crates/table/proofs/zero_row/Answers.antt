-- A first byte that is not zero decides; else the whole row is looked at.
use native.Mathlib.Omega.{arith}
use Rattle.table.proofs.Rows.{not-zero}
use Rattle.table.proofs.zero_row.Goals as goal

pub returns-then-r-ne0 : goal.returns-then-r-ne0
returns-then-r-ne0 c =
    let given = c.args in
    let test1 = c.if-r-ne0 in
    not-zero given.r.now (omega arith) test1.true
