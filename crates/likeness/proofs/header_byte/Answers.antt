-- Bytes 1 to 3 are the length, each other is ours: the laws of Headers.
use mathlib.Core.Path.{sym, ◌∙◌}
use Rattle.likeness.proofs.Headers.{due-1, due-2, due-3, due-other}
use Rattle.likeness.proofs.header_byte.Goals as goal

pub returns-then-i-eq1 : goal.returns-then-i-eq1
returns-then-i-eq1 c =
    let given = c.args in
    let pre-was = c.requires in
    let test1 = c.if-i-eq1 in
    sym (due-1 given.ours.now given.n pre-was.0 given.i test1.true)

pub returns-then-i-eq2 : goal.returns-then-i-eq2
returns-then-i-eq2 c =
    let given = c.args in
    let pre-was = c.requires in
    let test2 = c.if-i-eq2 in
    sym (due-2 given.ours.now given.n pre-was.0 given.i test2.true)

pub returns-then-i-eq3 : goal.returns-then-i-eq3
returns-then-i-eq3 c =
    let given = c.args in
    let pre-was = c.requires in
    let test3 = c.if-i-eq3 in
    sym (due-3 given.ours.now given.n pre-was.0 given.i test3.true)

pub returns : goal.returns
returns c =
    let long-was = c.long in
    let given = c.args in
    let pre-was = c.requires in
    let test1 = c.if-i-eq1 in
    let test2 = c.if-i-eq2 in
    let test3 = c.if-i-eq3 in
    long-was.ensures.0 ∙ sym (due-other given.ours.now given.n pre-was.0 given.i pre-was.1 test1.false test2.false test3.false)
