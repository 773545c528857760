-- The list, then the Session-Id.
use mathlib.Core.Path.{refl, sym, ◌∙◌}
use native.Mathlib.Omega.{arith}
use Rattle.std.proofs.lemmas.Result.{err_from_is_err_and}
use Rattle.message.specs.ReadingAMessage.{avps}
use Rattle.message.specs.declared.Failure.TheVariants.{UnknownSessionId}
use Rattle.message.specs.Failures.{failure_code, failed_with}
use Rattle.gateway.specs.Code.{fields_code}
use Rattle.gateway.proofs.Reading.{fields-failed, fields-held, own_same, session-behind, session-other, session-own}
use Rattle.gateway.proofs.fields.Goals as goal

pub returns-in_err-from : goal.returns-in_err-from
unfolding failed_with
returns-in_err-from c =
    let a = c.args in
    let xs = avps a.m.now in
    let p = err_from_is_err_and c.from_residual.result c.from_residual.ensures.1 in
    let f = c.in_err-from.field-0.0 in
    rw (p.1, p.2) (fields-failed a.m.now (fields_code a.own.now xs) f (session-behind a.own.now xs f (c.in_err-from.ensures).code_is))

pub overflow_add-e : goal.overflow_add-e
overflow_add-e c =
    let h = (c.in_ok-from.ensures).session c.in_ok-from.from refl in
    omega (arith, h.inside, c.well_formed.0)

pub slice_bounds-same_bytes-end : goal.slice_bounds-same_bytes-end
slice_bounds-same_bytes-end c =
    let h = (c.in_ok-from.ensures).session c.in_ok-from.from refl in
    omega (arith, h.inside)

pub returns-then-not-same_bytes : goal.returns-then-not-same_bytes
unfolding failure_code failed_with
returns-then-not-same_bytes c =
    let a = c.args in
    let xs = avps a.m.now in
    let l = c.in_ok-from.ensures in
    let s = c.in_ok-from.from in
    let t = own_same a.m.now a.own.now s.session c.same_bytes.result (l.session s refl) c.same_bytes.ensures in
    fields-failed a.m.now (fields_code a.own.now xs) UnknownSessionId (session-other a.own.now xs l.code_is (sym t ∙ c.if-not-same_bytes.true))

pub returns : goal.returns
unfolding failed_with
returns c =
    let a = c.args in
    let xs = avps a.m.now in
    let l = c.in_ok-from.ensures in
    let s = c.in_ok-from.from in
    let t = own_same a.m.now a.own.now s.session c.same_bytes.result (l.session s refl) c.same_bytes.ensures in
    fields-held a.m.now (fields_code a.own.now xs) s (session-own a.own.now xs l.code_is (sym t ∙ c.if-not-same_bytes.false)) (l.session s refl) (l.host s refl) (l.realm s refl)
