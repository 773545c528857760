-- With V it has another name; without V the code decides: `is-base-code`.
use mathlib.Core.Path.{sym, ap, ◌∙◌}
use Prim.Native.Nat.{◌+◌}
use lib.Dec.{eqb}
use lib.ListN.{get_or}
use borrow.Author.Tests.{leb-true, leb-false}
use Rattle.likeness.proofs.Places.{is-base-v, is-base-code}
use Rattle.likeness.proofs.is_base.Goals as goal

pub returns-then-has_v : goal.returns-then-has_v
returns-then-has_v c =
    let given = c.args in
    let has-v-was = c.has_v in
    let test1 = c.if-has_v in
    sym (is-base-v given.m.now given.at given.code (leb-true 128 (get_or given.m.now (given.at + 4) 0) (sym has-v-was.ensures ∙ test1.true)))

pub returns : goal.returns
returns c =
    let given = c.args in
    let read32-was = c.read32 in
    let has-v-was = c.has_v in
    let test1 = c.if-has_v in
    ap (eqb given.code) read32-was.ensures ∙ sym (is-base-code given.m.now given.at given.code (leb-false 128 (get_or given.m.now (given.at + 4) 0) (sym has-v-was.ensures ∙ test1.false)))
