-- Failure by failure: `field-entry` of Laws.
use mathlib.Core.Path.{sym, ap, ◌∙◌}
use mathlib.Core.Bool.{Bool, not}
use Rattle.octets.specs.Choice.{pick, require}
use Rattle.message.specs.Positions.{name_at}
use Rattle.message.specs.Failures.{failure_code}
use Rattle.reasons.specs.Reasons.{check_named}
use Rattle.reasons.proofs.Laws.{code-failed, code-none, code-some, field_entry, field-entry, field-last}
use Rattle.reasons.proofs.field_failed.Goals as goal

pub returns-in-Some : goal.returns-in-Some
unfolding check_named field_entry pick
returns-in-Some g c =
    λ f there named e.
    let a = c.args in
    let code = code-some a.is_required a.g c.in-Ok.found c.in-Some.field-0 c.in-Ok.is c.in-Some.is in
    ap (field_entry (name_at a.slot)) (sym code) ∙ rw (← named, ← e) (field-entry f there)

pub returns-then-is_required : goal.returns-then-is_required
unfolding check_named field_entry pick require
returns-then-is_required g c =
    λ f there named e.
    let a = c.args in
    let code = code-none a.is_required a.g c.in-Ok.found c.in-Ok.is c.in-None.is ∙ ap (λ (b : Bool). require (not b) 5005) c.if-is_required.true in
    ap (field_entry (name_at a.slot)) (sym code) ∙ rw (← named, ← e) (field-entry f there)

pub returns-else-is_required : goal.returns-else-is_required
unfolding check_named field_entry pick require
returns-else-is_required g c =
    λ f there named e.
    let a = c.args in
    let code = code-none a.is_required a.g c.in-Ok.found c.in-Ok.is c.in-None.is ∙ ap (λ (b : Bool). require (not b) 5005) c.if-is_required.false in
    ap (field_entry (name_at a.slot)) (sym code) ∙ rw (← named, ← e) (field-entry f there)

pub returns-in-MissingAvp : goal.returns-in-MissingAvp
unfolding check_named field_entry pick failure_code
returns-in-MissingAvp g c =
    λ f there named e.
    let a = c.args in
    let code = code-failed a.is_required a.g c.in-Err.f c.in-Err.is ∙ ap failure_code c.in-MissingAvp.is in
    ap (field_entry (name_at a.slot)) (sym code) ∙ rw (← named, ← e) (field-entry f there)

pub returns-in-AvpOccursTooManyTimes : goal.returns-in-AvpOccursTooManyTimes
unfolding check_named field_entry pick failure_code
returns-in-AvpOccursTooManyTimes g c =
    λ f there named e.
    let a = c.args in
    let code = code-failed a.is_required a.g c.in-Err.f c.in-Err.is ∙ ap failure_code c.in-AvpOccursTooManyTimes.is in
    ap (field_entry (name_at a.slot)) (sym code) ∙ rw (← named, ← e) (field-entry f there)

pub returns-in-InvalidAvpLength : goal.returns-in-InvalidAvpLength
unfolding check_named field_entry pick failure_code
returns-in-InvalidAvpLength g c =
    λ f there named e.
    let a = c.args in
    let code = code-failed a.is_required a.g c.in-Err.f c.in-Err.is ∙ ap failure_code c.in-InvalidAvpLength.is in
    ap (field_entry (name_at a.slot)) (sym code) ∙ rw (← named, ← e) (field-entry f there)

pub returns-in_default : goal.returns-in_default
unfolding check_named
returns-in_default g c =
    λ f there named e.
    let a = c.args in
    let d = c.in_default in
    let code = code-failed a.is_required a.g c.in-Err.f c.in-Err.is in
    sym (field-last (name_at a.slot) c.in-Err.f d.not-MissingAvp d.not-AvpOccursTooManyTimes d.not-InvalidAvpLength)
    ∙ ap (field_entry (name_at a.slot)) (sym code)
    ∙ rw (← named, ← e) (field-entry f there)
