-- One law of SetUps for each number, in order.
use mathlib.Core.Path.{◌≡◌, refl, sym, ◌∙◌}
use mathlib.Core.Bool.{true, false}
use Rattle.std.specs.Prelude.{ℕ, Option, Some, None, is_some, unwrap_or}
use native.Mathlib.Omega.{arith}
use borrow.Author.Tests.{leb-true}
use Rattle.table.specs.Answers.{found, lent}
use Rattle.table.specs.TheTable.{row, nothing}
use Rattle.setup.specs.SetUp.{share}
use Rattle.table.proofs.Tests.{fails, passes_on}
use Rattle.table.proofs.Rows.{first-operator, first-table, form-top}
use Rattle.setup.proofs.SetUps.{share-0, share-10, share-26, share-27, share-9, share-first, shares-sixteen}
use Rattle.setup.proofs.enter_number.Goals as goal

found-some : (o : Option ℕ) → is_some o ≡ true → found o ≡ row (unwrap_or o 0)
found-some (Some i) e = refl
found-some None e = cc

found-none : (o : Option ℕ) → is_some o ≡ false → found o ≡ nothing
found-none (Some i) e = cc
found-none None e = refl

pub returns-then-n-ne0 : goal.returns-then-n-ne0
returns-then-n-ne0 c =
    let given = c.args in
    let number-for-was = c.number_for-n in
    let test1 = c.if-n-ne0 in
    share-first (lent given.form given.table.now) given.shares.now (record { operator = given.op; name = given.name.now }) number-for-was.result number-for-was.ensures test1.true

pub shares_fit-requires : goal.shares_fit-requires
shares_fit-requires c =
    let given = c.args in
    let number-for-was = c.number_for-n in
    let test1 = c.if-n-ne0 in
    form-top (lent given.form given.table.now) (first-table (lent given.form given.table.now) given.op (sym number-for-was.ensures ∙ test1.false))

pub returns-then-not-shares_fit : goal.returns-then-not-shares_fit
returns-then-not-shares_fit c =
    let given = c.args in
    let number-for-was = c.number_for-n in
    let test1 = c.if-n-ne0 in
    let shares-fit-was = c.shares_fit in
    let test2 = c.if-not-shares_fit in
    share-26 (lent given.form given.table.now) given.shares.now (record { operator = given.op; name = given.name.now }) (sym number-for-was.ensures ∙ test1.false) (fails shares-fit-was.ensures test2.true)

pub returns-then-not-is_name : goal.returns-then-not-is_name
returns-then-not-is_name c =
    let given = c.args in
    let number-for-was = c.number_for-n in
    let test1 = c.if-n-ne0 in
    let shares-fit-was = c.shares_fit in
    let test2 = c.if-not-shares_fit in
    let is-name-was = c.is_name in
    let test3 = c.if-not-is_name in
    share-9 (lent given.form given.table.now) given.shares.now (record { operator = given.op; name = given.name.now }) (sym number-for-was.ensures ∙ test1.false) (passes_on shares-fit-was.ensures test2.false) (fails is-name-was.ensures test3.true)

pub lookup-requires : goal.lookup-requires
lookup-requires c =
    let given = c.args in
    let number-for-was = c.number_for-n in
    let test1 = c.if-n-ne0 in
    first-table (lent given.form given.table.now) given.op (sym number-for-was.ensures ∙ test1.false)

pub returns-then-is_some : goal.returns-then-is_some
returns-then-is_some c =
    let given = c.args in
    let number-for-was = c.number_for-n in
    let test1 = c.if-n-ne0 in
    let shares-fit-was = c.shares_fit in
    let test2 = c.if-not-shares_fit in
    let is-name-was = c.is_name in
    let test3 = c.if-not-is_name in
    let lookup-was = c.lookup in
    share-10 (lent given.form given.table.now) given.shares.now (record { operator = given.op; name = given.name.now }) (unwrap_or lookup-was.result 0) (sym number-for-was.ensures ∙ test1.false) (passes_on shares-fit-was.ensures test2.false) (passes_on is-name-was.ensures test3.false) (sym lookup-was.ensures.0 ∙ found-some lookup-was.result (sym c.is_some.ensures ∙ c.if-is_some.true))

pub bounds-shares-op : goal.bounds-shares-op
bounds-shares-op c =
    let given = c.args in
    let number-for-was = c.number_for-n in
    let test1 = c.if-n-ne0 in
    let shares-fit-was = c.shares_fit in
    let test2 = c.if-not-shares_fit in
    omega (arith, leb-true given.op 15 (first-operator (lent given.form given.table.now) given.op (sym number-for-was.ensures ∙ test1.false)), shares-sixteen (lent given.form given.table.now) given.shares.now (passes_on shares-fit-was.ensures test2.false))

pub own_rows-requires : goal.own_rows-requires
own_rows-requires c =
    let given = c.args in
    let number-for-was = c.number_for-n in
    let test1 = c.if-n-ne0 in
    first-table (lent given.form given.table.now) given.op (sym number-for-was.ensures ∙ test1.false)

pub returns-then-shares-op : goal.returns-then-shares-op
unfolding share
returns-then-shares-op c =
    let given = c.args in
    let number-for-was = c.number_for-n in
    let test1 = c.if-n-ne0 in
    let shares-fit-was = c.shares_fit in
    let test2 = c.if-not-shares_fit in
    let is-name-was = c.is_name in
    let test3 = c.if-not-is_name in
    let lookup-was = c.lookup in
    let own-rows-was = c.own_rows in
    share-27 (lent given.form given.table.now) given.shares.now (record { operator = given.op; name = given.name.now }) (sym number-for-was.ensures ∙ test1.false) (passes_on shares-fit-was.ensures test2.false) (passes_on is-name-was.ensures test3.false) (sym lookup-was.ensures.0 ∙ found-none lookup-was.result (sym c.is_some.ensures ∙ c.if-is_some.false)) (omega (arith, own-rows-was.ensures))

pub returns : goal.returns
unfolding share
returns c =
    let given = c.args in
    let number-for-was = c.number_for-n in
    let test1 = c.if-n-ne0 in
    let shares-fit-was = c.shares_fit in
    let test2 = c.if-not-shares_fit in
    let is-name-was = c.is_name in
    let test3 = c.if-not-is_name in
    let lookup-was = c.lookup in
    let own-rows-was = c.own_rows in
    share-0 (lent given.form given.table.now) given.shares.now (record { operator = given.op; name = given.name.now }) (sym number-for-was.ensures ∙ test1.false) (passes_on shares-fit-was.ensures test2.false) (passes_on is-name-was.ensures test3.false) (sym lookup-was.ensures.0 ∙ found-none lookup-was.result (sym c.is_some.ensures ∙ c.if-is_some.false)) (omega (arith, own-rows-was.ensures))
