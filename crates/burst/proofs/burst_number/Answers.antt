-- Each way out is the law of the first test that fails.
use mathlib.Core.Path.{◌≡◌, sym, ◌∙◌}
use mathlib.Core.Bool.{true}
use native.Mathlib.Omega.{arith}
use lib.ListN.{length}
use Rattle.octets.specs.Choice.{within}
use Rattle.table.specs.Answers.{lent}
use Rattle.table.specs.TheTable.{first_number}
use Rattle.burst.specs.TheBurst.{whole_messages}
use Rattle.burst.specs.Code.{burst_of}
use Rattle.burst.proofs.Refusals.{refused-first, refused-host, refused-realm, refused-wags, refused-results, refused-not}
use Rattle.burst.proofs.burst_number.Goals as goal

pub returns-then-n-ne0 : goal.returns-then-n-ne0
unfolding burst_of
returns-then-n-ne0 c =
    let a = c.args in
    λ wags answers notices results w p.
    let t = lent a.form a.table.now in
    let b = burst_of a.op a.host.now a.realm.now a.messages.now wags answers notices results in
    c.number_for-n.ensures ∙ sym (refused-first t b (λ e. c.if-n-ne0.true (c.number_for-n.ensures ∙ e)))

pub returns-then-not-name_fits : goal.returns-then-not-name_fits
unfolding burst_of
returns-then-not-name_fits c =
    let a = c.args in
    λ wags answers notices results w p.
    let t = lent a.form a.table.now in
    let b = burst_of a.op a.host.now a.realm.now a.messages.now wags answers notices results in
    let z : first_number t a.op ≡ 0 = sym c.number_for-n.ensures ∙ c.if-n-ne0.false in
    sym (refused-host t b z (sym c.name_fits.ensures ∙ c.if-not-name_fits.true))

pub returns-then-not-name_fits-2 : goal.returns-then-not-name_fits-2
unfolding burst_of
returns-then-not-name_fits-2 c =
    let a = c.args in
    λ wags answers notices results w p.
    let t = lent a.form a.table.now in
    let b = burst_of a.op a.host.now a.realm.now a.messages.now wags answers notices results in
    let z : first_number t a.op ≡ 0 = sym c.number_for-n.ensures ∙ c.if-n-ne0.false in
    let hh : within 1 128 (length a.host.now) ≡ true = sym c.name_fits.ensures ∙ c.if-not-name_fits.false in
    sym (refused-realm t b z hh (sym c.name_fits-2.ensures ∙ c.if-not-name_fits-2.true))

pub returns-then-words-whole : goal.returns-then-words-whole
unfolding burst_of
returns-then-words-whole c =
    let a = c.args in
    λ wags answers notices results w p.
    let t = lent a.form a.table.now in
    let b = burst_of a.op a.host.now a.realm.now a.messages.now wags answers notices results in
    let z : first_number t a.op ≡ 0 = sym c.number_for-n.ensures ∙ c.if-n-ne0.false in
    let hh : within 1 128 (length a.host.now) ≡ true = sym c.name_fits.ensures ∙ c.if-not-name_fits.false in
    let hr : within 1 128 (length a.realm.now) ≡ true = sym c.name_fits-2.ensures ∙ c.if-not-name_fits-2.false in
    let n : c.whole_messages-whole.result ≡ length (whole_messages a.messages.now) = c.whole_messages-whole.ensures in
    sym (refused-wags t b z hh hr (omega (arith, n, w, c.if-words-whole.true)))

pub returns-then-places-whole : goal.returns-then-places-whole
unfolding burst_of
returns-then-places-whole c =
    let a = c.args in
    λ wags answers notices results w p.
    let t = lent a.form a.table.now in
    let b = burst_of a.op a.host.now a.realm.now a.messages.now wags answers notices results in
    let z : first_number t a.op ≡ 0 = sym c.number_for-n.ensures ∙ c.if-n-ne0.false in
    let hh : within 1 128 (length a.host.now) ≡ true = sym c.name_fits.ensures ∙ c.if-not-name_fits.false in
    let hr : within 1 128 (length a.realm.now) ≡ true = sym c.name_fits-2.ensures ∙ c.if-not-name_fits-2.false in
    let n : c.whole_messages-whole.result ≡ length (whole_messages a.messages.now) = c.whole_messages-whole.ensures in
    sym (refused-results t b z hh hr (omega (arith, n, w, c.if-words-whole.false)) (omega (arith, n, p, c.if-places-whole.true)))

pub returns : goal.returns
unfolding burst_of
returns c =
    let a = c.args in
    λ wags answers notices results w p.
    let t = lent a.form a.table.now in
    let b = burst_of a.op a.host.now a.realm.now a.messages.now wags answers notices results in
    let z : first_number t a.op ≡ 0 = sym c.number_for-n.ensures ∙ c.if-n-ne0.false in
    let hh : within 1 128 (length a.host.now) ≡ true = sym c.name_fits.ensures ∙ c.if-not-name_fits.false in
    let hr : within 1 128 (length a.realm.now) ≡ true = sym c.name_fits-2.ensures ∙ c.if-not-name_fits-2.false in
    let n : c.whole_messages-whole.result ≡ length (whole_messages a.messages.now) = c.whole_messages-whole.ensures in
    sym (refused-not t b z hh hr (omega (arith, n, w, c.if-words-whole.false)) (omega (arith, n, p, c.if-places-whole.false)))
