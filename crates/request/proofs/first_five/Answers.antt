-- Field by field: one that is there leaves the code to those behind it (`after_session` to `after_destination`), one that fails or is missing gives it.
use mathlib.Core.Path.{◌≡◌, refl, sym, ap, ◌∙◌}
use mathlib.Core.List.{List, map}
use Prim.Native.Nat.{ℕ}
use native.Mathlib.Omega.{arith}
use mathlib.Core.Bool.{true}
use Rattle.std.specs.Prelude.{Ok}
use lib.ListN.{drop}
use Rattle.octets.specs.Choice.{require, first_of}
use Rattle.message.specs.ReadingAMessage.{Avp, avps, field_code, starts_with, for_both, text_field, number_field, session_id}
use Rattle.message.specs.Positions.{names, name_at}
use Rattle.message.specs.Failures.{failure_code}
use Rattle.message.specs.Spans.{bytes_field, both_code}
use Rattle.message.proofs.Listing.{first-go, first-stop, go_on, stop, missing, both-failed, both-held}
use Rattle.request.proofs.first_five.Goals as goal
use Rattle.request.proofs.first_five.Goals.{Else-not-starts, In-Some, In-Some-2, In-Some-3, In-Some-4, In-Some-5}

-- the code of those behind the first k
abbrev behind : ℕ → List Avp → ℕ
behind k xs = first_of (map (field_code xs) (drop k for_both))

after_starts : (p : Else-not-starts) → both_code (avps p.args.m.now) ≡ behind 0 (avps p.args.m.now)
unfolding both_code require
after_starts p =
    let xs = avps p.args.m.now in
    first-go (require (starts_with session_id xs) 5005) (map (field_code xs) for_both) (rw (sym p.starts.ensures ∙ p.if-not-starts.false))

after_session : (p : In-Some) → behind 0 (avps p.args.m.now) ≡ behind 1 (avps p.args.m.now)
unfolding for_both text_field bytes_field name_at names
after_session p = go_on _ (p.in_ok-session.ensures true) p.in-Some.is

after_application : (p : In-Some-2) → behind 1 (avps p.args.m.now) ≡ behind 2 (avps p.args.m.now)
unfolding for_both number_field name_at names
after_application p = go_on _ p.in_ok-number_field.ensures p.in-Some-2.is

after_host : (p : In-Some-3) → behind 2 (avps p.args.m.now) ≡ behind 3 (avps p.args.m.now)
unfolding for_both text_field bytes_field name_at names
after_host p = go_on _ (p.in_ok-host.ensures true) p.in-Some-3.is

after_realm : (p : In-Some-4) → behind 3 (avps p.args.m.now) ≡ behind 4 (avps p.args.m.now)
unfolding for_both text_field bytes_field name_at names
after_realm p = go_on _ (p.in_ok-realm.ensures true) p.in-Some-4.is

after_destination : (p : In-Some-5) → behind 4 (avps p.args.m.now) ≡ behind 5 (avps p.args.m.now)
unfolding for_both text_field bytes_field name_at names
after_destination p = go_on _ (p.in_ok-text_field.ensures true) p.in-Some-5.is

pub returns-then-not-starts : goal.returns-then-not-starts
unfolding both_code require failure_code
returns-then-not-starts c =
    let xs = avps c.args.m.now in
    both-failed _ refl
    (first-stop (require (starts_with session_id xs) 5005) 5005 (map (field_code xs) for_both) (rw (sym c.starts.ensures ∙ c.if-not-starts.true)) (omega arith))

pub returns-in_err-session : goal.returns-in_err-session
unfolding for_both text_field bytes_field name_at names
returns-in_err-session c =
    let w = goal.at.returns-in_err-session c in
    both-failed _ c.from_residual.ensures.1 (after_starts w.Else-not-starts ∙ stop _ (c.in_err-session.ensures true))

pub returns-in_default : goal.returns-in_default
unfolding for_both text_field bytes_field name_at names
returns-in_default c =
    let w = goal.at.returns-in_default c in
    both-failed _ refl (after_starts w.Else-not-starts ∙ missing _ (c.in_ok-session.ensures true) refl c.in_default.is)

pub returns-in_err-number_field : goal.returns-in_err-number_field
unfolding for_both number_field name_at names
returns-in_err-number_field c =
    let w = goal.at.returns-in_err-number_field c in
    both-failed _ c.from_residual-in_err-number_field.ensures.1 (after_starts w.Else-not-starts ∙ after_session w.In-Some ∙ stop _ c.in_err-number_field.ensures)

pub returns-in_default-2 : goal.returns-in_default-2
unfolding for_both number_field name_at names
returns-in_default-2 c =
    let w = goal.at.returns-in_default-2 c in
    both-failed _ refl (after_starts w.Else-not-starts ∙ after_session w.In-Some ∙ missing _ c.in_ok-number_field.ensures refl c.in_default-2.is)

pub returns-in_err-host : goal.returns-in_err-host
unfolding for_both text_field bytes_field name_at names
returns-in_err-host c =
    let w = goal.at.returns-in_err-host c in
    both-failed _ c.from_residual-in_err-host.ensures.1 (after_starts w.Else-not-starts ∙ after_session w.In-Some ∙ after_application w.In-Some-2 ∙ stop _ (c.in_err-host.ensures true))

pub returns-in_default-3 : goal.returns-in_default-3
unfolding for_both text_field bytes_field name_at names
returns-in_default-3 c =
    let w = goal.at.returns-in_default-3 c in
    both-failed _ refl (after_starts w.Else-not-starts ∙ after_session w.In-Some ∙ after_application w.In-Some-2 ∙ missing _ (c.in_ok-host.ensures true) refl c.in_default-3.is)

pub returns-in_err-realm : goal.returns-in_err-realm
unfolding for_both text_field bytes_field name_at names
returns-in_err-realm c =
    let w = goal.at.returns-in_err-realm c in
    both-failed _ c.from_residual-in_err-realm.ensures.1 (after_starts w.Else-not-starts ∙ after_session w.In-Some ∙ after_application w.In-Some-2 ∙ after_host w.In-Some-3 ∙ stop _ (c.in_err-realm.ensures true))

pub returns-in_default-4 : goal.returns-in_default-4
unfolding for_both text_field bytes_field name_at names
returns-in_default-4 c =
    let w = goal.at.returns-in_default-4 c in
    both-failed _ refl (after_starts w.Else-not-starts ∙ after_session w.In-Some ∙ after_application w.In-Some-2 ∙ after_host w.In-Some-3 ∙ missing _ (c.in_ok-realm.ensures true) refl c.in_default-4.is)

pub returns-in_err-text_field : goal.returns-in_err-text_field
unfolding for_both text_field bytes_field name_at names
returns-in_err-text_field c =
    let w = goal.at.returns-in_err-text_field c in
    both-failed _ c.from_residual-in_err-text_field.ensures.1 (after_starts w.Else-not-starts ∙ after_session w.In-Some ∙ after_application w.In-Some-2 ∙ after_host w.In-Some-3 ∙ after_realm w.In-Some-4 ∙ stop _ (c.in_err-text_field.ensures true))

pub returns-in_default-5 : goal.returns-in_default-5
unfolding for_both text_field bytes_field name_at names
returns-in_default-5 c =
    let w = goal.at.returns-in_default-5 c in
    both-failed _ refl (after_starts w.Else-not-starts ∙ after_session w.In-Some ∙ after_application w.In-Some-2 ∙ after_host w.In-Some-3 ∙ after_realm w.In-Some-4 ∙ missing _ (c.in_ok-text_field.ensures true) refl c.in_default-5.is)

pub returns : goal.returns
unfolding first_of for_both bytes_field name_at names
returns c =
    let w = goal.at.returns c in
    both-held _ (after_starts w.Else-not-starts ∙ after_session w.In-Some ∙ after_application w.In-Some-2 ∙ after_host w.In-Some-3 ∙ after_realm w.In-Some-4 ∙ after_destination w.In-Some-5)
    ((c.in_ok-session.ensures true).found _ (ap Ok c.in-Some.is))
    ((c.in_ok-host.ensures true).found _ (ap Ok c.in-Some-3.is))
    ((c.in_ok-realm.ensures true).found _ (ap Ok c.in-Some-4.is))
