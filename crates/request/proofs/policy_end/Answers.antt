-- A W-APN is not required and policies are: each way out gives the code of the first that fails, or what is asked.
use mathlib.Core.Path.{◌≡◌, refl, sym, ap, ◌∙◌}
use mathlib.Core.List.{List, [], ◌∷◌}
use Prim.Native.Nat.{ℕ}
use mathlib.Core.Bool.{true, false}
use native.Mathlib.Omega.{arith}
use Rattle.std.specs.Prelude.{Option, Some, None, Result, Ok, Err}
use Rattle.octets.specs.Choice.{first_of, require}
use Rattle.message.specs.ReadingAMessage.{Avp, avps, field_code, label_field, texts_field, routing_policy}
use Rattle.message.specs.declared.Failure.{Failure}
use Rattle.message.specs.Failures.{failure_code, failed_with}
use Rattle.message.specs.Positions.{names, name_at}
use Rattle.message.specs.Spans.{bytes_field, code_of, required, policy_code}
use Rattle.message.proofs.Failures.{failure-least}
use Rattle.message.proofs.Listing.{first-stop, may-go, stop, routes-go, listed-refused, told-policy}
use Rattle.request.proofs.policy_end.Goals as goal
use Rattle.request.proofs.policy_end.Goals.{In_ok-text_field}

-- what `required` answers has the code of one that has to be there
required-code : {T : Type 0} (g : Result (Option T) Failure) → failed_with (required g) ≡ code_of true g
unfolding failed_with failure_code required code_of require
required-code (Ok (Some x)) = refl
required-code (Ok None) = refl
required-code (Err f) = refl

again : {T : Type 0} → Result T Failure → Result (Option T) Failure
again (Ok x) = Ok (Some x)
again (Err f) = Err f

required-there : {T : Type 0} (g : Result (Option T) Failure) (x : T) → required g ≡ Ok x → g ≡ Ok (Some x)
unfolding failed_with failure_code required again
required-there (Ok (Some y)) x e = ap again e
required-there (Ok None) x e = absurd (omega (arith, ap failed_with e))
required-there (Err f) x e = absurd (omega (arith, failure-least f, ap failed_with e))

abbrev behind_label : ℕ → List Avp → ℕ
behind_label most xs = first_of (field_code xs (texts_field most routing_policy true) ∷ [])

after_label : (p : In_ok-text_field) (most : ℕ) → policy_code most (avps p.args.m.now) ≡ behind_label most (avps p.args.m.now)
unfolding policy_code label_field bytes_field name_at names
after_label p most = may-go _ (p.in_ok-text_field.ensures false) refl

pub returns-in_err-text_field : goal.returns-in_err-text_field
unfolding policy_code label_field bytes_field name_at names
returns-in_err-text_field c = λ most r. listed-refused _ c.from_residual.ensures.1 (stop _ (c.in_err-text_field.ensures false))

pub returns-in_err-brought : goal.returns-in_err-brought
unfolding failed_with
returns-in_err-brought c =
    let w = goal.at.returns-in_err-brought c in
    let e = ap failed_with (sym c.required.ensures ∙ c.in_err-brought.was) in
    λ most r.
    listed-refused _ c.from_residual-in_err-brought.ensures.1
    (after_label w.In_ok-text_field most ∙ first-stop _ _ [] (r.code true ∙ sym (required-code c.args.routes) ∙ e) (failure-least _))

pub returns : goal.returns
unfolding first_of
returns c =
    let w = goal.at.returns c in
    let there = required-there c.args.routes _ (sym c.required.ensures ∙ c.in_ok-brought.was) in
    λ most r.
    let k = rw there at r in
    told-policy most c.requires.1 c.requires.2 (k.first _ refl) (k.second _ refl) (k.third _ refl) (after_label w.In_ok-text_field most ∙ routes-go [] k refl)
