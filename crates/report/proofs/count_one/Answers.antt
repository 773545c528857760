-- An ending or another result gains in one column, an opening in one or in two.
use mathlib.Core.Path.{ap, ◌∙◌}
use Prim.Native.Nat.{◌+◌, ◌*◌}
use native.Mathlib.Omega.{arith}
use lib.ListN.{length, get_or}
use Rattle.report.specs.Code.{told_of, one_more}
use Rattle.report.proofs.Writing.{more-length, ends-in, opens_in, cuts-in, ends-fits, opens-fits, cuts-fits}
use Rattle.report.proofs.count_one.Goals as goal

pub overflow_add-at : goal.overflow_add-at
overflow_add-at c = omega (arith, c.ending_column.ensures.1, c.requires.1)

pub add_one-requires : goal.add_one-requires
unfolding told_of
add_one-requires c =
    let a = c.args in
    let p = c.requires in
    let e = c.ending_column in
    (omega (arith, p.0, p.1, e.ensures.1), ends-fits a.report.now (told_of a.t) p.1 p.0 p.2 e.result e.ensures.0 (omega (arith, e.ensures.1)) c.if-t-eq0.true)

pub returns-then-t-eq0 : goal.returns-then-t-eq0
unfolding told_of
returns-then-t-eq0 c =
    let a = c.args in
    let e = c.ending_column in
    c.add_one.ensures ∙ ends-in a.report.now (told_of a.t) c.requires.1 c.requires.0 e.result e.ensures.0 c.if-t-eq0.true

pub add_one-requires-2 : goal.add_one-requires-2
unfolding told_of
add_one-requires-2 c =
    let a = c.args in
    let p = c.requires in
    (omega (arith, p.0, p.1), opens-fits a.report.now (told_of a.t) p.1 p.0 p.2 c.if-t-eq0.false)

pub returns-then-t-eq0-2 : goal.returns-then-t-eq0-2
unfolding told_of
returns-then-t-eq0-2 c =
    let a = c.args in
    c.add_one-2.ensures ∙ opens_in a.report.now (told_of a.t) c.requires.1 c.requires.0 c.if-t-eq0.false c.if-t-eq0-2.true

pub overflow_add-at-2 : goal.overflow_add-at-2
overflow_add-at-2 c = omega (arith, c.requires.1)

pub add_one-requires-3 : goal.add_one-requires-3
unfolding told_of
add_one-requires-3 c =
    let a = c.args in
    let p = c.requires in
    let was = c.add_one-2.ensures in (
      omega (arith, p.0, p.1, ap length was, more-length a.report.now (4 * get_or a.t 0 0)),
      rw was (cuts-fits a.report.now (told_of a.t) p.1 p.0 p.2 c.if-t-eq0.false c.if-t-eq0-2.false),
    )

pub returns : goal.returns
unfolding told_of
returns c =
    let a = c.args in
    let p = c.requires in
    c.add_one-3.ensures
    ∙ ap (one_more (4 * get_or a.t 0 0 + 1)) c.add_one-2.ensures
    ∙ cuts-in a.report.now (told_of a.t) p.1 p.0 c.if-t-eq0.false c.if-t-eq0-2.false
