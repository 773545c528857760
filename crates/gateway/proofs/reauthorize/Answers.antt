-- The number decides; with 0 the call is answered.
use mathlib.Core.Path.{sym, ap, ◌∙◌}
use mathlib.Core.Bool.{Bool}
use lib.ListN.{length}
use Rattle.gateway.specs.Code.{access_of, call_of, number_by}
use Rattle.gateway.proofs.Calls.{fits-is, leaves-number, number_is}
use Rattle.gateway.proofs.reauthorize.Goals as goal

pub returns-then-n-ne0 : goal.returns-then-n-ne0
returns-then-n-ne0 c =
    let given = c.args in
    let number-was = c.number-n in
    let access-fits-was = c.access_fits-fits in
    let test1 = c.if-n-ne0 in
    leaves-number (call_of given.host.now given.realm.now given.session.now given.user.now given.label.now given.visited.now given.message.now given.hop given.end given.answer.now given.request.now) number-was.result (number-was.ensures ∙ ap (λ (b : Bool). number_by (length given.host.now) (length given.realm.now) (length given.answer.now) (length given.request.now) b given.message.now) (access-fits-was.ensures ∙ sym (fits-is (access_of given.session.now given.user.now given.label.now given.visited.now))) ∙ sym (number_is (call_of given.host.now given.realm.now given.session.now given.user.now given.label.now given.visited.now given.message.now given.hop given.end given.answer.now given.request.now))) test1.true

pub reply-requires : goal.reply-requires
reply-requires c =
    let number-was = c.number-n in
    let given = c.args in
    let access-fits-was = c.access_fits-fits in
    let test1 = c.if-n-ne0 in
    sym (number-was.ensures ∙ ap (λ (b : Bool). number_by (length given.host.now) (length given.realm.now) (length given.answer.now) (length given.request.now) b given.message.now) (access-fits-was.ensures ∙ sym (fits-is (access_of given.session.now given.user.now given.label.now given.visited.now))) ∙ sym (number_is (call_of given.host.now given.realm.now given.session.now given.user.now given.label.now given.visited.now given.message.now given.hop given.end given.answer.now given.request.now))) ∙ test1.false
