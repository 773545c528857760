-- Refused by number 1, or every byte zero: `clear-refused` and `clear-done` of SetUps.
use Rattle.table.specs.Answers.{lent}
use Rattle.setup.proofs.SetUps.{clear-done, clear-refused}
use Rattle.setup.proofs.clear.Goals as goal

pub returns-then-number-ne0 : goal.returns-then-number-ne0
returns-then-number-ne0 c = let number = c.table_number-number in
    clear-refused (lent c.args.form c.args.table.now) number.result number.ensures c.if-number-ne0.true

pub returns : goal.returns
returns c = let number = c.table_number-number in
    clear-done (lent c.args.form c.args.table.now) number.result c.clear.new.s number.ensures c.if-number-ne0.false c.clear.ensures
