-- Each way out refutes one part of the test; the last one is what is left of it.
use mathlib.Core.Path.{◌∙◌}
use native.Mathlib.Omega.{arith}
use Rattle.table.proofs.Rows.{not-row, row-by-name}
use Rattle.table.proofs.has_name.Goals as goal

pub returns-then-r-ne1 : goal.returns-then-r-ne1
returns-then-r-ne1 c =
    let given = c.args in
    let test1 = c.if-r-ne1 in
    not-row given.name.now given.r.now (λ a b d e. test1.true a)

pub returns-then-n-lt1 : goal.returns-then-n-lt1
returns-then-n-lt1 c =
    let given = c.args in
    let from-was = c.from-n in
    not-row given.name.now given.r.now (λ a b d e. omega (arith, from-was.ensures))

pub returns-then-n-gt-NAME_MOST : goal.returns-then-n-gt-NAME_MOST
returns-then-n-gt-NAME_MOST c =
    let given = c.args in
    let from-was = c.from-n in
    not-row given.name.now given.r.now (λ a b d e. omega (arith, from-was.ensures))

pub returns-then-n-name : goal.returns-then-n-name
returns-then-n-name c =
    let given = c.args in
    let test4 = c.if-n-name in
    let from-was = c.from-n in
    not-row given.name.now given.r.now (λ a b d e. test4.true (from-was.ensures ∙ e))

pub returns : goal.returns
returns c =
    let same-bytes-was = c.same_bytes in
    let given = c.args in
    let from-was = c.from-n in
    let test1 = c.if-r-ne1 in
    let test4 = c.if-n-name in
    same-bytes-was.ensures ∙ row-by-name given.name.now given.r.now from-was.result test1.false from-was.ensures (omega arith) (omega arith) test4.false
