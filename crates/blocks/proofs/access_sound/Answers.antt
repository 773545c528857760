-- The clauses of a place in use in order; each way out is the first that fails.
use mathlib.Core.Path.{◌≡◌}
use mathlib.Core.Bool.{false, true}
use lib.ListN.{get_or}
use lib.Dec.{eqb, leb}
use Rattle.octets.specs.Choice.{pick, within}
use Rattle.blocks.specs.RowTests.{access_sound}
use Rattle.table.proofs.Tests.{fails, passes_on}
use Rattle.blocks.proofs.access_sound.Goals as goal

pub returns-then-not-access_form : goal.returns-then-not-access_form
unfolding access_sound
returns-then-not-access_form c =
    let access-form-was = c.access_form in
    let test1 = c.if-not-access_form in
    rw (fails access-form-was.ensures test1.true)

pub returns-then-not-policy_marked : goal.returns-then-not-policy_marked
unfolding access_sound
returns-then-not-policy_marked c =
    let given = c.args in
    let policy-marked-was = c.policy_marked in
    let test2 = c.if-not-policy_marked in
    let access-form-was = c.access_form in
    let test1 = c.if-not-access_form in
    let marked : eqb (get_or given.b.now 4 0) (pick (leb 1 (get_or given.b.now 5 0)) 1 0) ≡ false = fails policy-marked-was.ensures test2.true in
    rw (passes_on access-form-was.ensures test1.false, marked)

pub returns-then-not-is_within : goal.returns-then-not-is_within
unfolding access_sound
returns-then-not-is_within c =
    let given = c.args in
    let policy-marked-was = c.policy_marked in
    let test2 = c.if-not-policy_marked in
    let access-form-was = c.access_form in
    let test1 = c.if-not-access_form in
    let is-within-was = c.is_within in
    let test3 = c.if-not-is_within in
    let marked : eqb (get_or given.b.now 4 0) (pick (leb 1 (get_or given.b.now 5 0)) 1 0) ≡ true = passes_on policy-marked-was.ensures test2.false in
    let entry : within 1 given.n (get_or given.b.now 1 0) ≡ false = fails is-within-was.ensures test3.true in
    rw (passes_on access-form-was.ensures test1.false, marked, entry)

pub returns : goal.returns
unfolding access_sound
returns c =
    let given = c.args in
    let policy-marked-was = c.policy_marked in
    let test2 = c.if-not-policy_marked in
    let access-form-was = c.access_form in
    let test1 = c.if-not-access_form in
    let is-within-was = c.is_within in
    let test3 = c.if-not-is_within in
    let block-sums-agree-was = c.block_sums_agree in
    let marked : eqb (get_or given.b.now 4 0) (pick (leb 1 (get_or given.b.now 5 0)) 1 0) ≡ true = passes_on policy-marked-was.ensures test2.false in
    let entry : within 1 given.n (get_or given.b.now 1 0) ≡ true = passes_on is-within-was.ensures test3.false in
    rw (passes_on access-form-was.ensures test1.false, marked, entry) block-sums-agree-was.ensures
