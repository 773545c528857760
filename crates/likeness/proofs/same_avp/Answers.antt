-- The flag byte stands four bytes on (`flags-are`), and the values are compared as they are lent.
use mathlib.Core.Path.{sym, ◌∙◌}
use Rattle.likeness.proofs.Places.{flags-differ, flags-agree}
use Rattle.likeness.proofs.same_avp.Goals as goal

pub returns-then-a-p : goal.returns-then-a-p
returns-then-a-p c =
    let given = c.args in
    let pre-was = c.requires in
    let test1 = c.if-a-p in
    sym (flags-differ given.a.now given.p given.b.now given.q pre-was.0.passes pre-was.1.passes test1.true)

pub returns : goal.returns
returns c =
    let same-bytes-was = c.same_bytes in
    let value-of-was = c.value_of in
    let value-of2-was = c.value_of-2 in
    let given = c.args in
    let pre-was = c.requires in
    let test1 = c.if-a-p in
    same-bytes-was.ensures ∙ rw (value-of-was.ensures, value-of2-was.ensures) (sym (flags-agree given.a.now given.p given.b.now given.q pre-was.0.passes pre-was.1.passes test1.false))
