-- Sixteen of them, and their sum.
use native.Mathlib.Omega.{arith}
use Rattle.table.specs.Answers.{lent}
use Rattle.table.proofs.Rows.{width-least}
use Rattle.setup.proofs.SetUps.{shares-few, shares-sum-said}
use Rattle.setup.proofs.shares_fit.Goals as goal

pub returns-then-shares-ne-OPERATORS : goal.returns-then-shares-ne-OPERATORS
returns-then-shares-ne-OPERATORS c =
    let given = c.args in
    let test1 = c.if-shares-ne-OPERATORS in
    shares-few (lent given.form given.table.now) given.shares.now test1.true

pub nonzero_div-count : goal.nonzero_div-count
nonzero_div-count c = omega (arith, c.row_length.ensures, width-least c.args.form)

pub returns : goal.returns
returns c =
    let given = c.args in
    let shares-sum-was = c.shares_sum in
    let row-length-was = c.row_length in
    let test1 = c.if-shares-ne-OPERATORS in
    shares-sum-said (lent given.form given.table.now) given.shares.now shares-sum-was.result row-length-was.result row-length-was.ensures test1.false shares-sum-was.ensures
