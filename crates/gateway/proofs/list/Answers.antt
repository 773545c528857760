-- The five, then the two behind them.
use mathlib.Core.Path.{refl, sym, ◌∙◌}
use Rattle.std.proofs.lemmas.Result.{err_from_is_err_and}
use Rattle.message.specs.ReadingAMessage.{avps}
use Rattle.message.specs.Failures.{failed_with}
use Rattle.gateway.specs.TheGateway.{list_code}
use Rattle.gateway.proofs.Reading.{fields-failed, fields-held, list-failed, list-rest}
use Rattle.gateway.proofs.list.Goals as goal

pub returns-in_err-from : goal.returns-in_err-from
unfolding failed_with
returns-in_err-from c =
    let xs = avps c.args.m.now in
    let p = err_from_is_err_and c.from_residual.result c.from_residual.ensures.1 in
    let f = c.in_err-from.field-0.0 in
    rw (p.1, p.2) (fields-failed c.args.m.now (list_code xs) f (list-failed xs f (c.in_err-from.ensures).code))

pub returns-in_err-test_rest : goal.returns-in_err-test_rest
unfolding failed_with
returns-in_err-test_rest c =
    let xs = avps c.args.m.now in
    let p = err_from_is_err_and c.from_residual-in_err-test_rest.result c.from_residual-in_err-test_rest.ensures.1 in
    let z = list-rest xs (c.in_ok-from.ensures).code in
    rw (p.1, p.2) (fields-failed c.args.m.now (list_code xs) c.in_err-test_rest.field-0.0 (z ∙ sym (c.in_err-test_rest.ensures)))

pub returns : goal.returns
unfolding failed_with
returns c =
    let xs = avps c.args.m.now in
    let h = c.in_ok-from.ensures in
    let s = c.in_ok-from.from in
    fields-held c.args.m.now (list_code xs) s (list-rest xs h.code ∙ sym (c.in_ok-test_rest.ensures)) (h.session s refl) (h.host s refl) (h.realm s refl)
