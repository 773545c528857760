-- The clauses in order; each way out is the first that fails.
use lib.ListN.{get_or}
use borrow.Author.Tests.{eq-eqb, ne_eqb}
use Rattle.table.proofs.Tests.{fails, passes_on}
use Rattle.blocks.proofs.access_lengths.Goals as goal

pub returns-then-b-ne2 : goal.returns-then-b-ne2
returns-then-b-ne2 c =
    let given = c.args in
    let test1 = c.if-b-ne2 in
    rw (ne_eqb (get_or given.b.now 0 0) 2 test1.true)

pub returns-then-not-is_within : goal.returns-then-not-is_within
returns-then-not-is_within c =
    let given = c.args in
    let test1 = c.if-b-ne2 in
    let is-within-was = c.is_within in
    let test2 = c.if-not-is_within in
    rw (eq-eqb (get_or given.b.now 0 0) 2 test1.false, fails is-within-was.ensures test2.true)

pub returns-then-not-is_within-2 : goal.returns-then-not-is_within-2
returns-then-not-is_within-2 c =
    let given = c.args in
    let test1 = c.if-b-ne2 in
    let is-within-was = c.is_within in
    let test2 = c.if-not-is_within in
    let is-within2-was = c.is_within-2 in
    let test3 = c.if-not-is_within-2 in
    rw (eq-eqb (get_or given.b.now 0 0) 2 test1.false, passes_on is-within-was.ensures test2.false, fails is-within2-was.ensures test3.true)

pub returns : goal.returns
returns c =
    let given = c.args in
    let test1 = c.if-b-ne2 in
    let is-within-was = c.is_within in
    let test2 = c.if-not-is_within in
    let is-within2-was = c.is_within-2 in
    let test3 = c.if-not-is_within-2 in
    rw (eq-eqb (get_or given.b.now 0 0) 2 test1.false, passes_on is-within-was.ensures test2.false, passes_on is-within2-was.ensures test3.false)
