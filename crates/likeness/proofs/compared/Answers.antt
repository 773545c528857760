-- The two are the same, or the first byte that differs is told.
use mathlib.Core.Path.{◌≡◌, sym, ◌∙◌}
use mathlib.Core.Bool.{true, false}
use Rattle.octets.specs.Choice.{pick}
use Rattle.octets.specs.Texts.{same}
use Rattle.likeness.specs.TheSameAnswer.{unless, compared}
use Rattle.likeness.specs.Code.{mismatch_number, said}
use Rattle.likeness.proofs.compared.Goals as goal

pub returns-then-same_throughout : goal.returns-then-same_throughout
unfolding said compared unless pick
returns-then-same_throughout c =
    let given = c.args in
    let same-throughout-was = c.same_throughout in
    let test1 = c.if-same_throughout in
    let e : same given.a.now given.b.now ≡ true = sym same-throughout-was.ensures ∙ test1.true in
    rw e

pub returns : goal.returns
unfolding said compared unless pick
returns c =
    let given = c.args in
    let same-throughout-was = c.same_throughout in
    let test1 = c.if-same_throughout in
    let agreeing-was = c.agreeing in
    let e : same given.a.now given.b.now ≡ false = sym same-throughout-was.ensures ∙ test1.false in
    rw (e, agreeing-was.ensures)
