-- Destination-Host, then Re-Auth-Request-Type: a field that passes leaves the code to what is behind it, one that fails gives it.
use mathlib.Core.Path.{◌≡◌, refl, sym, ◌∙◌}
use mathlib.Core.Bool.{true}
use mathlib.Core.List.{List, [], ◌∷◌}
use Prim.Native.Nat.{ℕ}
use Rattle.std.proofs.lemmas.Result.{err_from_is_err_and}
use Rattle.octets.specs.Choice.{first_of}
use Rattle.message.specs.ReadingAMessage.{Avp, avps, field_code, number_field, text_field, re_auth_request_type}
use Rattle.message.specs.Positions.{names, name_at}
use Rattle.message.specs.Failures.{failure_code, failed_with}
use Rattle.message.specs.Spans.{bytes_field}
use Rattle.gateway.specs.Code.{rest_code}
use Rattle.gateway.proofs.Reading.{field-goes, field-fails, field-missing, rest-is}
use Rattle.gateway.proofs.test_rest.Goals as goal
use Rattle.gateway.proofs.test_rest.Goals.{In-Some}

abbrev behind : List Avp → List ℕ
behind xs = field_code xs (number_field re_auth_request_type 0 0) ∷ []

passed : (p : In-Some) → rest_code (avps p.args.m.now) ≡ first_of (behind (avps p.args.m.now))
unfolding text_field bytes_field name_at names
passed p =
    let xs = avps p.args.m.now in
    rest-is xs ∙ field-goes (behind xs) (p.in_ok-host.ensures true) p.in-Some.is

pub returns-in_err-host : goal.returns-in_err-host
unfolding failed_with text_field bytes_field name_at names
returns-in_err-host c =
    let xs = avps c.args.m.now in
    let p = err_from_is_err_and c.from_residual.result c.from_residual.ensures.1 in
    rw (p.1, p.2) (sym (rest-is xs ∙ field-fails (behind xs) (c.in_err-host.ensures true)))

pub returns-in_default : goal.returns-in_default
unfolding failed_with failure_code text_field bytes_field name_at names
returns-in_default c =
    let xs = avps c.args.m.now in
    sym (rest-is xs ∙ field-missing (behind xs) refl (c.in_ok-host.ensures true) c.in_default.is)

pub returns-in_err-kind : goal.returns-in_err-kind
unfolding failed_with number_field name_at names
returns-in_err-kind c =
    let w = goal.at.returns-in_err-kind c in
    let p = err_from_is_err_and c.from_residual-in_err-kind.result c.from_residual-in_err-kind.ensures.1 in
    rw (p.1, p.2) (sym (passed w.In-Some ∙ field-fails [] c.in_err-kind.ensures))

pub returns-in_default-kind : goal.returns-in_default-kind
unfolding failed_with failure_code number_field name_at names
returns-in_default-kind c =
    let w = goal.at.returns-in_default-kind c in
    sym (passed w.In-Some ∙ field-missing [] refl c.in_ok-kind.ensures c.in_default-kind.is)

pub returns : goal.returns
unfolding failed_with number_field name_at names first_of
returns c =
    let w = goal.at.returns c in
    sym (passed w.In-Some ∙ field-goes [] c.in_ok-kind.ensures c.in-Some-kind.is)
