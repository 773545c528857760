-- Byte 0, then byte 19.
use mathlib.Core.Path.{sym, ap, ◌∙◌}
use Prim.Native.Nat.{ℕ}
use lib.Dec.{eqb}
use lib.ListN.{get_or}
use borrow.Author.Tests.{eq-eqb, ne_eqb}
use Rattle.table.specs.TheTable.{is_own}
use Rattle.table.proofs.is_own.Goals as goal

pub returns-then-r-ne1 : goal.returns-then-r-ne1
unfolding is_own
returns-then-r-ne1 c =
    let given = c.args in
    let test1 = c.if-r-ne1 in
    sym (rw (ne_eqb (get_or given.r.now 0 0) 1 test1.true))

pub returns : goal.returns
unfolding is_own
returns c =
    let given = c.args in
    let from-was = c.from in
    let test1 = c.if-r-ne1 in
    ap (λ (x : ℕ). eqb x given.op) from-was.ensures ∙ sym (rw (eq-eqb (get_or given.r.now 0 0) 1 test1.false))
