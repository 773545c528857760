-- At most 1,024 rows of at most 8,704 bytes.
use native.Mathlib.Omega.{arith}
use native.Mathlib.Nat.{mul-le-mul}
use borrow.Author.Rules.{rules}
use Rattle.tool_form.proofs.length_of.Goals as goal

pub overflow_mul-result : goal.overflow_mul-result
overflow_mul-result c =
    let row-length-was = c.row_length in
    let pre-was = c.requires in
    omega (arith, mul-le-mul row-length-was.ensures.1 pre-was)

pub returns : goal.returns
returns c =
    let row-length-was = c.row_length in
    let pre-was = c.requires in
    omega (arith, mul-le-mul row-length-was.ensures.1 pre-was)
