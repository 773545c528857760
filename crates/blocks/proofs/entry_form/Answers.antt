-- The clauses of an entry in the paper's order; each way out is the first that fails.
use native.Mathlib.Omega.{arith}
use lib.ListN.{get_or}
use borrow.Author.Tests.{le-leb, lt-leb}
use Rattle.octets.specs.Texts.{part}
use Rattle.octets.proofs.Lists.{within-high}
use Rattle.octets.proofs.Texts.{length_part}
use Rattle.table.specs.Soundness.{entry_form}
use Rattle.table.proofs.Tests.{behind-said, fails, passes_on}
use Rattle.blocks.proofs.entry_form.Goals as goal

pub returns-then-not-is_within : goal.returns-then-not-is_within
unfolding entry_form
returns-then-not-is_within c =
    let is-within-was = c.is_within in
    let test1 = c.if-not-is_within in
    rw (fails is-within-was.ensures test1.true)

pub zero_behind-requires : goal.zero_behind-requires
zero_behind-requires c =
    let given = c.args in
    let is-within-was = c.is_within in
    let test1 = c.if-not-is_within in
    let from-was = c.from in
    omega (arith, length_part given.e.now 1 100 (omega arith), within-high 1 100 (get_or given.e.now 0 0) (passes_on is-within-was.ensures test1.false), from-was.ensures)

pub returns-then-not-zero_behind : goal.returns-then-not-zero_behind
unfolding entry_form
returns-then-not-zero_behind c =
    let is-within-was = c.is_within in
    let test1 = c.if-not-is_within in
    let given = c.args in
    let from-was = c.from in
    let zero-behind-was = c.zero_behind in
    let test2 = c.if-not-zero_behind in
    rw (passes_on is-within-was.ensures test1.false, fails (behind-said (part given.e.now 1 100) from-was.result (get_or given.e.now 0 0) from-was.ensures zero-behind-was.ensures) test2.true)

pub returns-then-e-gt3 : goal.returns-then-e-gt3
unfolding entry_form
returns-then-e-gt3 c =
    let is-within-was = c.is_within in
    let test1 = c.if-not-is_within in
    let given = c.args in
    let from-was = c.from in
    let zero-behind-was = c.zero_behind in
    let test2 = c.if-not-zero_behind in
    let test3 = c.if-e-gt3 in
    rw (passes_on is-within-was.ensures test1.false, passes_on (behind-said (part given.e.now 1 100) from-was.result (get_or given.e.now 0 0) from-was.ensures zero-behind-was.ensures) test2.false, lt-leb (get_or given.e.now 101 0) 3 test3.true)

pub returns-then-not-is_within-2 : goal.returns-then-not-is_within-2
unfolding entry_form
returns-then-not-is_within-2 c =
    let is-within-was = c.is_within in
    let test1 = c.if-not-is_within in
    let given = c.args in
    let from-was = c.from in
    let zero-behind-was = c.zero_behind in
    let test2 = c.if-not-zero_behind in
    let test3 = c.if-e-gt3 in
    let is-within2-was = c.is_within-2 in
    let test4 = c.if-not-is_within-2 in
    rw (passes_on is-within-was.ensures test1.false, passes_on (behind-said (part given.e.now 1 100) from-was.result (get_or given.e.now 0 0) from-was.ensures zero-behind-was.ensures) test2.false, le-leb (get_or given.e.now 101 0) 3 test3.false, fails is-within2-was.ensures test4.true)

pub returns : goal.returns
unfolding entry_form
returns c =
    let is-within-was = c.is_within in
    let test1 = c.if-not-is_within in
    let given = c.args in
    let from-was = c.from in
    let zero-behind-was = c.zero_behind in
    let test2 = c.if-not-zero_behind in
    let test3 = c.if-e-gt3 in
    let is-within2-was = c.is_within-2 in
    let test4 = c.if-not-is_within-2 in
    rw (passes_on is-within-was.ensures test1.false, passes_on (behind-said (part given.e.now 1 100) from-was.result (get_or given.e.now 0 0) from-was.ensures zero-behind-was.ensures) test2.false, le-leb (get_or given.e.now 101 0) 3 test3.false, passes_on is-within2-was.ensures test4.false)
