-- A free place; one whose first block is bent; one without a second block; and one with it: the laws of Forms.
use mathlib.Core.Path.{◌≡◌, sym, ap, ◌∙◌}
use mathlib.Core.Bool.{true, false}
use lib.ListN.{length}
use Rattle.octets.specs.Choice.{pick}
use Rattle.octets.specs.Texts.{all_zero}
use Rattle.row.proofs.Entries.{row-least}
use Rattle.row.proofs.Places.{form-one, form-two}
use Rattle.soundness.proofs.Forms.{first_out, one_block, two_blocks}
use Rattle.soundness.proofs.Line.{used-by}
use Rattle.table.proofs.Form.{length-first-of, sized}
use Rattle.table.proofs.Tests.{fails, passes_on}
use Rattle.table.specs.Soundness.{access_form, in_use, place_form, second_form}
use Rattle.table.specs.TheTable.{first_block, form_of, place, second_block}
use Rattle.clauses.proofs.place_form.Goals as goal

pub used_bits-requires : goal.used_bits-requires
used_bits-requires c =
    let given = c.args in
    let pre-was = c.requires in
    row-least given.r.now pre-was.0

pub returns-then-not-in_use : goal.returns-then-not-in_use
unfolding place_form pick
returns-then-not-in_use c =
    let given = c.args in
    let used-bits-was = c.used_bits in
    let in-use-was = c.in_use in
    let test1 = c.if-not-in_use in
    let all-zero-was = c.all_zero in
    let place-was = c.place-place in
    let free : in_use given.r.now given.k ≡ false = sym (used-by given.r.now given.k _ used-bits-was.ensures) ∙ fails in-use-was.ensures test1.true in
    let clear : all-zero-was.result ≡ all_zero (place given.r.now given.k) = all-zero-was.ensures ∙ ap all_zero place-was.ensures in
    rw free clear

pub access_form-requires : goal.access_form-requires
access_form-requires c =
    let first-was = c.first-block in
    let given = c.args in
    let pre-was = c.requires in
    ap length first-was.ensures ∙ length-first-of given.r.now given.k (sized given.r.now pre-was.0) pre-was.1 pre-was.2

pub returns-then-not-access_form : goal.returns-then-not-access_form
unfolding place_form pick
returns-then-not-access_form c =
    let given = c.args in
    let used-bits-was = c.used_bits in
    let in-use-was = c.in_use in
    let test1 = c.if-not-in_use in
    let access-form-was = c.access_form in
    let first-was = c.first-block in
    let test2 = c.if-not-access_form in
    let used : in_use given.r.now given.k ≡ true = sym (used-by given.r.now given.k _ used-bits-was.ensures) ∙ passes_on in-use-was.ensures test1.false in
    let first : access_form (first_block (place given.r.now given.k)) ≡ false = fails (access-form-was.ensures ∙ ap access_form first-was.ensures) test2.true in
    rw used (first_out (form_of given.r.now) _ _ first)

pub returns-then-more-eq0 : goal.returns-then-more-eq0
unfolding place_form pick
returns-then-more-eq0 c =
    let given = c.args in
    let used-bits-was = c.used_bits in
    let in-use-was = c.in_use in
    let test1 = c.if-not-in_use in
    let access-form-was = c.access_form in
    let first-was = c.first-block in
    let test2 = c.if-not-access_form in
    let pre-was = c.requires in
    let second-was = c.second-more in
    let test3 = c.if-more-eq0 in
    let used : in_use given.r.now given.k ≡ true = sym (used-by given.r.now given.k _ used-bits-was.ensures) ∙ passes_on in-use-was.ensures test1.false in
    let first : access_form (first_block (place given.r.now given.k)) ≡ true = passes_on (access-form-was.ensures ∙ ap access_form first-was.ensures) test2.false in
    rw used (sym first ∙ one_block (form_of given.r.now) _ _ (form-one given.r.now given.k pre-was.0 pre-was.1 pre-was.2 (sym (ap length second-was.ensures) ∙ test3.true)))

pub second_form-requires : goal.second_form-requires
second_form-requires c =
    let second-was = c.second-more in
    let given = c.args in
    let pre-was = c.requires in
    let test3 = c.if-more-eq0 in
    ap length second-was.ensures ∙ (form-two given.r.now given.k pre-was.0 pre-was.1 pre-was.2 (λ e. test3.false (ap length second-was.ensures ∙ e))).1

pub returns : goal.returns
unfolding place_form pick
returns c =
    let given = c.args in
    let used-bits-was = c.used_bits in
    let in-use-was = c.in_use in
    let test1 = c.if-not-in_use in
    let access-form-was = c.access_form in
    let first-was = c.first-block in
    let test2 = c.if-not-access_form in
    let second-form-was = c.second_form in
    let second-was = c.second-more in
    let pre-was = c.requires in
    let test3 = c.if-more-eq0 in
    let used : in_use given.r.now given.k ≡ true = sym (used-by given.r.now given.k _ used-bits-was.ensures) ∙ passes_on in-use-was.ensures test1.false in
    let first : access_form (first_block (place given.r.now given.k)) ≡ true = passes_on (access-form-was.ensures ∙ ap access_form first-was.ensures) test2.false in
    let second : second-form-was.result ≡ second_form (second_block (place given.r.now given.k)) = second-form-was.ensures ∙ ap second_form second-was.ensures in
    rw used (second ∙ two_blocks (form_of given.r.now) _ _ (form-two given.r.now given.k pre-was.0 pre-was.1 pre-was.2 (λ e. test3.false (ap length second-was.ensures ∙ e))).0 first)
