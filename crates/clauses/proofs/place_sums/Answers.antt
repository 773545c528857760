-- The first block, and the second where there is one: the laws of Forms.
use mathlib.Core.Path.{◌≡◌, sym, ap, ◌∙◌}
use mathlib.Core.Bool.{true}
use lib.ListN.{length}
use Rattle.row.proofs.Places.{form-one, form-two}
use Rattle.soundness.proofs.Forms.{first_out, one_block, two_blocks}
use Rattle.table.proofs.Form.{length-first-of, sized}
use Rattle.table.proofs.Tests.{fails, passes_on}
use Rattle.table.specs.Soundness.{place_sums, sums_agree}
use Rattle.table.specs.TheTable.{first_block, form_of, place, second_block}
use Rattle.clauses.proofs.place_sums.Goals as goal

pub block_sums_agree-requires : goal.block_sums_agree-requires
block_sums_agree-requires c =
    let first-was = c.first in
    let given = c.args in
    let pre-was = c.requires in
    ap length first-was.ensures ∙ length-first-of given.r.now given.k (sized given.r.now pre-was.0) pre-was.1 pre-was.2

pub returns-then-not-block_sums_agree : goal.returns-then-not-block_sums_agree
unfolding place_sums
returns-then-not-block_sums_agree c =
    let given = c.args in
    let block-sums-agree-was = c.block_sums_agree in
    let first-was = c.first in
    let test1 = c.if-not-block_sums_agree in
    first_out (form_of given.r.now) _ _ (fails (block-sums-agree-was.ensures ∙ ap sums_agree first-was.ensures) test1.true)

pub returns-then-more-eq0 : goal.returns-then-more-eq0
unfolding place_sums
returns-then-more-eq0 c =
    let block-sums-agree-was = c.block_sums_agree in
    let first-was = c.first in
    let test1 = c.if-not-block_sums_agree in
    let given = c.args in
    let pre-was = c.requires in
    let second-was = c.second-more in
    let test2 = c.if-more-eq0 in
    sym (passes_on (block-sums-agree-was.ensures ∙ ap sums_agree first-was.ensures) test1.false) ∙ one_block (form_of given.r.now) _ _ (form-one given.r.now given.k pre-was.0 pre-was.1 pre-was.2 (sym (ap length second-was.ensures) ∙ test2.true))

pub block_sums_agree-requires-2 : goal.block_sums_agree-requires-2
block_sums_agree-requires-2 c =
    let second-was = c.second-more in
    let given = c.args in
    let pre-was = c.requires in
    let test2 = c.if-more-eq0 in
    ap length second-was.ensures ∙ (form-two given.r.now given.k pre-was.0 pre-was.1 pre-was.2 (λ e. test2.false (ap length second-was.ensures ∙ e))).1

pub returns : goal.returns
unfolding place_sums
returns c =
    let given = c.args in
    let block-sums-agree-was = c.block_sums_agree in
    let first-was = c.first in
    let test1 = c.if-not-block_sums_agree in
    let block-sums-agree2-was = c.block_sums_agree-2 in
    let second-was = c.second-more in
    let pre-was = c.requires in
    let test2 = c.if-more-eq0 in
    let first : sums_agree (first_block (place given.r.now given.k)) ≡ true = passes_on (block-sums-agree-was.ensures ∙ ap sums_agree first-was.ensures) test1.false in
    let second : block-sums-agree2-was.result ≡ sums_agree (second_block (place given.r.now given.k)) = block-sums-agree2-was.ensures ∙ ap sums_agree second-was.ensures in
    second ∙ two_blocks (form_of given.r.now) _ _ (form-two given.r.now given.k pre-was.0 pre-was.1 pre-was.2 (λ e. test2.false (ap length second-was.ensures ∙ e))).0 first
