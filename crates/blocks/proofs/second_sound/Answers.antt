-- The clauses of a second block in order; each way out is the first that fails.
use mathlib.Core.Path.{◌≡◌}
use mathlib.Core.Bool.{true, false}
use lib.ListN.{get_or}
use Rattle.blocks.specs.RowTests.{second_sound}
use Rattle.table.proofs.Tests.{fails, passes_on}
use Rattle.table.specs.Soundness.{only_behind}
use Rattle.blocks.proofs.second_sound.Goals as goal

pub returns-then-not-second_form : goal.returns-then-not-second_form
unfolding second_sound
returns-then-not-second_form c =
    let second-form-was = c.second_form in
    let test1 = c.if-not-second_form in
    rw (fails second-form-was.ensures test1.true)

pub returns-then-not-only_behind : goal.returns-then-not-only_behind
unfolding second_sound
returns-then-not-only_behind c =
    let given = c.args in
    let only-behind-was = c.only_behind in
    let test2 = c.if-not-only_behind in
    let second-form-was = c.second_form in
    let test1 = c.if-not-second_form in
    let second : only_behind (get_or given.c.now 3 0) given.first ≡ false = fails only-behind-was.ensures test2.true in
    rw (passes_on second-form-was.ensures test1.false, second)

pub returns-then-not-only_behind-2 : goal.returns-then-not-only_behind-2
unfolding second_sound
returns-then-not-only_behind-2 c =
    let given = c.args in
    let only-behind-was = c.only_behind in
    let test2 = c.if-not-only_behind in
    let only-behind2-was = c.only_behind-2 in
    let test3 = c.if-not-only_behind-2 in
    let second-form-was = c.second_form in
    let test1 = c.if-not-second_form in
    let second : only_behind (get_or given.c.now 3 0) given.first ≡ true = passes_on only-behind-was.ensures test2.false in
    let third : only_behind (get_or given.c.now 4 0) (get_or given.c.now 3 0) ≡ false = fails only-behind2-was.ensures test3.true in
    rw (passes_on second-form-was.ensures test1.false, second, third)

pub returns : goal.returns
unfolding second_sound
returns c =
    let given = c.args in
    let only-behind-was = c.only_behind in
    let test2 = c.if-not-only_behind in
    let only-behind2-was = c.only_behind-2 in
    let test3 = c.if-not-only_behind-2 in
    let second-form-was = c.second_form in
    let test1 = c.if-not-second_form in
    let block-sums-agree-was = c.block_sums_agree in
    let second : only_behind (get_or given.c.now 3 0) given.first ≡ true = passes_on only-behind-was.ensures test2.false in
    let third : only_behind (get_or given.c.now 4 0) (get_or given.c.now 3 0) ≡ true = passes_on only-behind2-was.ensures test3.false in
    rw (passes_on second-form-was.ensures test1.false, second, third) block-sums-agree-was.ensures
