-- The form in four parts: `second_parts` of Tests.
use lib.ListN.{get_or}
use borrow.Author.Tests.{eq-eqb, ne_eqb}
use Rattle.table.proofs.Tests.{fails, passes_on, second-lengths, second_parts}
use Rattle.blocks.proofs.second_form.Goals as goal

pub returns-then-not-second_lengths : goal.returns-then-not-second_lengths
returns-then-not-second_lengths c =
    let given = c.args in
    let second-lengths-was = c.second_lengths in
    let test1 = c.if-not-second_lengths in
    rw (second_parts given.c.now, fails second-lengths-was.ensures test1.true)

pub returns-then-c-ne0 : goal.returns-then-c-ne0
returns-then-c-ne0 c =
    let given = c.args in
    let second-lengths-was = c.second_lengths in
    let test1 = c.if-not-second_lengths in
    let test2 = c.if-c-ne0 in
    rw (second_parts given.c.now, passes_on second-lengths-was.ensures test1.false, ne_eqb (get_or given.c.now 2 0) 0 test2.true)

pub returns-then-not-all_zero : goal.returns-then-not-all_zero
returns-then-not-all_zero c =
    let given = c.args in
    let second-lengths-was = c.second_lengths in
    let test1 = c.if-not-second_lengths in
    let test2 = c.if-c-ne0 in
    let all-zero-was = c.all_zero in
    let test3 = c.if-not-all_zero in
    rw (second_parts given.c.now, passes_on second-lengths-was.ensures test1.false, eq-eqb (get_or given.c.now 2 0) 0 test2.false, fails all-zero-was.ensures test3.true)

pub text_rooms-requires : goal.text_rooms-requires
text_rooms-requires c =
    let given = c.args in
    let second-lengths-was = c.second_lengths in
    let test1 = c.if-not-second_lengths in
    let pre-was = c.requires in
    let fit = second-lengths given.c.now (passes_on second-lengths-was.ensures test1.false) in
    (pre-was, fit.0, fit.1, fit.2)

pub returns : goal.returns
returns c =
    let given = c.args in
    let second-lengths-was = c.second_lengths in
    let test1 = c.if-not-second_lengths in
    let test2 = c.if-c-ne0 in
    let all-zero-was = c.all_zero in
    let test3 = c.if-not-all_zero in
    let second-rooms-was = c.text_rooms in
    rw (second_parts given.c.now, passes_on second-lengths-was.ensures test1.false, eq-eqb (get_or given.c.now 2 0) 0 test2.false, passes_on all-zero-was.ensures test3.false) second-rooms-was.ensures
