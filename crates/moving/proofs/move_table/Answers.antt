-- The number is known before anything is written: `refused` and `moved` of Steps.
use mathlib.Core.Path.{◌≡◌, sym, ◌∙◌}
use native.Mathlib.Omega.{arith}
use Rattle.moving.proofs.Steps.{moved, refused}
use Rattle.moving.proofs.move_table.Goals as goal

pub move_rows-requires : goal.move_rows-requires
move_rows-requires c =
    let move-number-was = c.move_number-number in
    let test1 = c.if-number-ne0 in
    let none : move-number-was.result ≡ 0 = omega (arith, test1.false) in
    sym move-number-was.ensures ∙ none

pub returns-then-number-ne0 : goal.returns-then-number-ne0
returns-then-number-ne0 c =
    let given = c.args in
    let move-number-was = c.move_number-number in
    let test1 = c.if-number-ne0 in
    refused given.form given.table.now given.target.now move-number-was.result move-number-was.ensures (λ e. omega (arith, test1.true, e))

pub returns : goal.returns
returns c =
    let given = c.args in
    let move-rows-was = c.move_rows in
    let move-number-was = c.move_number-number in
    let test1 = c.if-number-ne0 in
    moved given.form given.table.now given.target.now move-rows-was.new.target (sym move-number-was.ensures ∙ test1.false) move-rows-was.ensures
