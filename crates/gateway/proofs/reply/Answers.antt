-- A refusal is answered with its code; else the answer is 2001, and the names that the AA-Request repeats are those that were read.
use mathlib.Core.Path.{◌≡◌, sym, ap, ◌∙◌}
use native.Mathlib.Omega.{arith}
use Rattle.message.specs.ReadingAMessage.{origin_host, origin_realm}
use Rattle.message.specs.Failures.{failed_with}
use Rattle.message.proofs.Failures.{failure-least}
use Rattle.gateway.specs.TheGateway.{reading_code}
use Rattle.gateway.specs.Code.{call_of}
use Rattle.gateway.proofs.Calls.{allowed}
use Rattle.gateway.proofs.Reading.{lent-text, origins-short}
use Rattle.gateway.proofs.Writing.{leaves-going-on, leaves-refused}
use Rattle.gateway.proofs.reply.Goals as goal

pub read-heard-requires : goal.read-heard-requires
read-heard-requires c =
    let a = c.args in
    (allowed (call_of a.host.now a.realm.now a.session.now a.user.now a.label.now a.visited.now a.message.now a.hop a.end a.answer.now a.request.now) c.requires).least

pub put_answer-length-requires : goal.put_answer-length-requires
put_answer-length-requires c =
    let a = c.args in
    let k = allowed (call_of a.host.now a.realm.now a.session.now a.user.now a.label.now a.visited.now a.message.now a.hop a.end a.answer.now a.request.now) c.requires in
    record { least = k.least; most = k.most; host-fits = k.host-fits; realm-fits = k.realm-fits; room_fits = k.answer-fits; to-copy = c.read-heard.ensures.copying }

pub returns-in-Err : goal.returns-in-Err
unfolding failed_with
returns-in-Err c =
    let a = c.args in
    let f = c.in-Err.f in
    let e : reading_code a.session.now a.message.now ≡ c.code-code.result = c.read-heard.ensures.reading.code_is ∙ ap failed_with c.in-Err.is ∙ sym c.code-code.ensures.0 in
    leaves-refused (call_of a.host.now a.realm.now a.session.now a.user.now a.label.now a.visited.now a.message.now a.hop a.end a.answer.now a.request.now) c.requires c.code-code.result c.put_answer-length.result c.put_answer-length.new.room e (rw c.code-code.ensures.0 (failure-least f)) c.put_answer-length.ensures

pub overflow_add-a_end : goal.overflow_add-a_end
overflow_add-a_end c =
    let a = c.args in
    let k = allowed (call_of a.host.now a.realm.now a.session.now a.user.now a.label.now a.visited.now a.message.now a.hop a.end a.answer.now a.request.now) c.requires in
    let hh = c.read-heard.ensures.reading.host c.in-Ok.from c.in-Ok.is in
    omega (arith, hh.inside, k.most)

pub overflow_add-b_end : goal.overflow_add-b_end
overflow_add-b_end c =
    let a = c.args in
    let k = allowed (call_of a.host.now a.realm.now a.session.now a.user.now a.label.now a.visited.now a.message.now a.hop a.end a.answer.now a.request.now) c.requires in
    let rr = c.read-heard.ensures.reading.realm c.in-Ok.from c.in-Ok.is in
    omega (arith, rr.inside, k.most)

pub put_answer-length-requires-2 : goal.put_answer-length-requires-2
put_answer-length-requires-2 c =
    let a = c.args in
    let k = allowed (call_of a.host.now a.realm.now a.session.now a.user.now a.label.now a.visited.now a.message.now a.hop a.end a.answer.now a.request.now) c.requires in
    record { least = k.least; most = k.most; host-fits = k.host-fits; realm-fits = k.realm-fits; room_fits = k.answer-fits; to-copy = c.read-heard.ensures.copying }

pub slice_bounds-put_request-end : goal.slice_bounds-put_request-end
slice_bounds-put_request-end c =
    let hh = c.read-heard.ensures.reading.host c.in-Ok.from c.in-Ok.is in
    omega (arith, hh.inside)

pub slice_bounds-put_request-end-2 : goal.slice_bounds-put_request-end-2
slice_bounds-put_request-end-2 c =
    let rr = c.read-heard.ensures.reading.realm c.in-Ok.from c.in-Ok.is in
    omega (arith, rr.inside)

pub put_request-request_length-requires : goal.put_request-request_length-requires
unfolding failed_with
put_request-request_length-requires c =
    let a = c.args in
    let k = allowed (call_of a.host.now a.realm.now a.session.now a.user.now a.label.now a.visited.now a.message.now a.hop a.end a.answer.now a.request.now) c.requires in
    let read = c.read-heard.ensures.reading in
    let s = c.in-Ok.from in
    let hh = read.host s c.in-Ok.is in
    let rr = read.realm s c.in-Ok.is in
    let e : reading_code a.session.now a.message.now ≡ 0 = read.code_is ∙ ap failed_with c.in-Ok.is in
    let o = origins-short a.session.now a.message.now e in
    record {
      host-fits = k.host-fits;
      realm-fits = k.realm-fits;
      from-host-fits = rw (lent-text a.message.now origin_host s.host hh) o.0;
      from-realm-fits = rw (lent-text a.message.now origin_realm s.realm rr) o.1;
      session-fits = k.session-fits;
      user-fits = k.user-fits;
      label-fits = omega (arith, k.label-fits);
      visited-fits = k.visited-fits;
      room_fits = k.request-fits;
    }

pub returns : goal.returns
unfolding failed_with
returns c =
    let a = c.args in
    let read = c.read-heard.ensures.reading in
    let s = c.in-Ok.from in
    let hh = read.host s c.in-Ok.is in
    let rr = read.realm s c.in-Ok.is in
    let e : reading_code a.session.now a.message.now ≡ 0 = read.code_is ∙ ap failed_with c.in-Ok.is in
    let answer = c.put_answer-length-2 in
    let request = c.put_request-request_length in
    leaves-going-on (call_of a.host.now a.realm.now a.session.now a.user.now a.label.now a.visited.now a.message.now a.hop a.end a.answer.now a.request.now) c.requires answer.result request.result _ _ answer.new.room request.new.room e
    (lent-text a.message.now origin_host s.host hh) (lent-text a.message.now origin_realm s.realm rr) answer.ensures request.ensures
