-- A number, or what is decided and answered.
use mathlib.Core.Path.{◌≡◌, sym, ap, ◌∙◌}
use Prim.Native.Nat.{ℕ}
use Rattle.message.specs.ReadingAMessage.{read}
use Rattle.table.specs.Answers.{lent}
use Rattle.rules.specs.Calls.{call_number}
use Rattle.decision.specs.Outcomes.{call_of}
use Rattle.decision.proofs.Answered.{written_is}
use Rattle.decision.proofs.Numbers.{handled, is-ready, notice-fits, silent-is, table-right, unanswered}
use Rattle.decision.proofs.handling.handle.Goals as goal

pub returns-then-n-ne0 : goal.returns-then-n-ne0
returns-then-n-ne0 c =
    let given = c.args in
    let call-number-was = c.call_number-n in
    let test1 = c.if-n-ne0 in
    let t = lent given.form given.table.now in
    silent-is t given.op given.message.now given.host.now given.realm.now given.answer.now given.notice.now given.wag call-number-was.result
    ∙ unanswered t (call_of given.op given.message.now given.host.now given.realm.now given.answer.now given.notice.now given.wag) call-number-was.result (call-number-was.ensures given.wag) test1.true

pub read-heard-requires : goal.read-heard-requires
read-heard-requires c =
    let given = c.args in
    let call-number-was = c.call_number-n in
    let test1 = c.if-n-ne0 in
    let most-policies-was = c.most_policies in
    let t = lent given.form given.table.now in
    let m = c.args.message.now in
    let z : call_number t (call_of given.op m given.host.now given.realm.now given.answer.now given.notice.now given.wag) ≡ 0 = sym (call-number-was.ensures given.wag) ∙ test1.false in
    let ready = is-ready t given.op m given.host.now given.realm.now given.answer.now given.notice.now given.wag z in
    (ready.least, most-policies-was.ensures.1, most-policies-was.ensures.2)

pub on_reading-decided-requires : goal.on_reading-decided-requires
on_reading-decided-requires c =
    let given = c.args in
    let call-number-was = c.call_number-n in
    let test1 = c.if-n-ne0 in
    let most-policies-was = c.most_policies in
    let t = lent given.form given.table.now in
    let m = c.args.message.now in
    let z : call_number t (call_of given.op m given.host.now given.realm.now given.answer.now given.notice.now given.wag) ≡ 0 = sym (call-number-was.ensures given.wag) ∙ test1.false in
    let heard = c.read-heard.ensures in (
      notice-fits t given.op m given.host.now given.realm.now given.answer.now given.notice.now given.wag z,
      table-right t given.op m given.host.now given.realm.now given.answer.now given.notice.now given.wag z,
      heard.reading ∙ ap (λ (n : ℕ). read n m) most-policies-was.ensures.0,
      heard.inside,
    )

pub answer-written-requires : goal.answer-written-requires
answer-written-requires c =
    let given = c.args in
    let call-number-was = c.call_number-n in
    let test1 = c.if-n-ne0 in
    let read-was = c.read-heard in
    let t = lent given.form given.table.now in
    let m = c.args.message.now in
    let z : call_number t (call_of given.op m given.host.now given.realm.now given.answer.now given.notice.now given.wag) ≡ 0 = sym (call-number-was.ensures given.wag) ∙ test1.false in
    let ready = is-ready t given.op m given.host.now given.realm.now given.answer.now given.notice.now given.wag z in
    let named = c.on_reading-decided.ensures.0 in
    record {
      least = ready.least;
      most = ready.most;
      host-fits = ready.host-fits;
      realm-fits = ready.realm-fits;
      room_fits = ready.room_fits;
      named = λ x y. named.holds y;
      short = λ x y. named.short y;
      small = named.small;
      to-copy = read-was.ensures.proxies;
    }

pub returns : goal.returns
unfolding call_of
returns c =
    let given = c.args in
    let call-number-was = c.call_number-n in
    let test1 = c.if-n-ne0 in
    let on-reading-was = c.on_reading-decided in
    let t = lent given.form given.table.now in
    let m = c.args.message.now in
    let z : call_number t (call_of given.op m given.host.now given.realm.now given.answer.now given.notice.now given.wag) ≡ 0 = sym (call-number-was.ensures given.wag) ∙ test1.false in
    let d = c.on_reading-decided.result in
    let done = c.answer-written.ensures in
    written_is d _ m given.host.now given.realm.now given.answer.now _ _ _ done.length-is done.room-is
    ∙ on-reading-was.ensures.1 given.host.now given.realm.now given.answer.now
    ∙ sym (handled t (call_of given.op m given.host.now given.realm.now given.answer.now given.notice.now given.wag) z)
