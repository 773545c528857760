-- The clauses in order; each way out is the first that fails.
use lib.ListN.{get_or}
use borrow.Author.Tests.{le-leb, lt-leb, eq-eqb, ne_eqb}
use Rattle.blocks.proofs.second_lengths.Goals as goal

pub returns-then-c-ne3 : goal.returns-then-c-ne3
returns-then-c-ne3 c =
    let given = c.args in
    let test1 = c.if-c-ne3 in
    rw (ne_eqb (get_or given.c.now 0 0) 3 test1.true)

pub returns-then-c-gt-TEXT_MOST : goal.returns-then-c-gt-TEXT_MOST
returns-then-c-gt-TEXT_MOST c =
    let given = c.args in
    let test1 = c.if-c-ne3 in
    let test2 = c.if-c-gt-TEXT_MOST in
    rw (eq-eqb (get_or given.c.now 0 0) 3 test1.false, lt-leb (get_or given.c.now 1 0) 128 test2.true)

pub returns-then-c-gt-TEXT_MOST-2 : goal.returns-then-c-gt-TEXT_MOST-2
returns-then-c-gt-TEXT_MOST-2 c =
    let given = c.args in
    let test1 = c.if-c-ne3 in
    let test2 = c.if-c-gt-TEXT_MOST in
    let test3 = c.if-c-gt-TEXT_MOST-2 in
    rw (eq-eqb (get_or given.c.now 0 0) 3 test1.false, le-leb (get_or given.c.now 1 0) 128 test2.false, lt-leb (get_or given.c.now 3 0) 128 test3.true)

pub returns : goal.returns
returns c =
    let given = c.args in
    let test1 = c.if-c-ne3 in
    let test2 = c.if-c-gt-TEXT_MOST in
    let test3 = c.if-c-gt-TEXT_MOST-2 in
    rw (eq-eqb (get_or given.c.now 0 0) 3 test1.false, le-leb (get_or given.c.now 1 0) 128 test2.false, le-leb (get_or given.c.now 3 0) 128 test3.false)
