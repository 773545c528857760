-- The form in four parts: `access-parts` of Tests.
use lib.ListN.{get_or}
use borrow.Author.Tests.{le-leb, lt-leb}
use Rattle.table.proofs.Tests.{access-parts, fails, lengths-fit, passes_on}
use Rattle.blocks.proofs.access_form.Goals as goal

pub returns-then-not-access_lengths : goal.returns-then-not-access_lengths
returns-then-not-access_lengths c =
    let given = c.args in
    let access-lengths-was = c.access_lengths in
    let test1 = c.if-not-access_lengths in
    rw (access-parts given.b.now, fails access-lengths-was.ensures test1.true)

pub returns-then-b-gt1 : goal.returns-then-b-gt1
returns-then-b-gt1 c =
    let given = c.args in
    let access-lengths-was = c.access_lengths in
    let test1 = c.if-not-access_lengths in
    let test2 = c.if-b-gt1 in
    rw (access-parts given.b.now, passes_on access-lengths-was.ensures test1.false, lt-leb (get_or given.b.now 4 0) 1 test2.true)

pub returns-then-not-all_zero : goal.returns-then-not-all_zero
returns-then-not-all_zero c =
    let given = c.args in
    let access-lengths-was = c.access_lengths in
    let test1 = c.if-not-access_lengths in
    let test2 = c.if-b-gt1 in
    let all-zero-was = c.all_zero in
    let test3 = c.if-not-all_zero in
    rw (access-parts given.b.now, passes_on access-lengths-was.ensures test1.false, le-leb (get_or given.b.now 4 0) 1 test2.false, fails all-zero-was.ensures test3.true)

pub text_rooms-requires : goal.text_rooms-requires
text_rooms-requires c =
    let given = c.args in
    let access-lengths-was = c.access_lengths in
    let test1 = c.if-not-access_lengths in
    let pre-was = c.requires in
    let fit = lengths-fit given.b.now (passes_on access-lengths-was.ensures test1.false) in
    (pre-was, fit.0, fit.1, fit.2)

pub returns : goal.returns
returns c =
    let given = c.args in
    let access-lengths-was = c.access_lengths in
    let test1 = c.if-not-access_lengths in
    let test2 = c.if-b-gt1 in
    let all-zero-was = c.all_zero in
    let test3 = c.if-not-all_zero in
    let access-rooms-was = c.text_rooms in
    rw (access-parts given.b.now, passes_on access-lengths-was.ensures test1.false, le-leb (get_or given.b.now 4 0) 1 test2.false, passes_on all-zero-was.ensures test3.false) access-rooms-was.ensures
