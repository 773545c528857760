-- The W-APN is required and policies are not: each way out gives the code of the first that fails, or what is asked.
use mathlib.Core.Path.{◌≡◌, refl, ap, ◌∙◌}
use mathlib.Core.List.{List, [], ◌∷◌}
use Prim.Native.Nat.{ℕ}
use mathlib.Core.Bool.{true, false}
use Rattle.std.specs.Prelude.{Ok}
use Rattle.octets.specs.Choice.{first_of}
use Rattle.message.specs.ReadingAMessage.{Avp, avps, field_code, label_field, texts_field, routing_policy}
use Rattle.message.specs.Positions.{names, name_at}
use Rattle.message.specs.Spans.{bytes_field, tunnel_code}
use Rattle.message.proofs.Listing.{go_on, stop, missing, routes-may-go, routes-stop, listed-refused, told-tunnel}
use Rattle.request.proofs.tunnel_end.Goals as goal
use Rattle.request.proofs.tunnel_end.Goals.{In-Some}

abbrev behind_label : ℕ → List Avp → ℕ
behind_label most xs = first_of (field_code xs (texts_field most routing_policy false) ∷ [])

after_label : (p : In-Some) (most : ℕ) → tunnel_code most (avps p.args.m.now) ≡ behind_label most (avps p.args.m.now)
unfolding tunnel_code label_field bytes_field name_at names
after_label p most = go_on _ (p.in_ok-label.ensures true) p.in-Some.is

pub returns-in_err-label : goal.returns-in_err-label
unfolding tunnel_code label_field bytes_field name_at names
returns-in_err-label c = λ most r. listed-refused _ c.from_residual.ensures.1 (stop _ (c.in_err-label.ensures true))

pub returns-in_default : goal.returns-in_default
unfolding tunnel_code label_field bytes_field name_at names
returns-in_default c = λ most r. listed-refused _ refl (missing _ (c.in_ok-label.ensures true) refl c.in_default.is)

pub returns-in_err-routes : goal.returns-in_err-routes
returns-in_err-routes c =
    let w = goal.at.returns-in_err-routes c in
    λ most r.
    listed-refused _ c.from_residual-in_err-routes.ensures.1 (after_label w.In-Some most ∙ routes-stop [] false (rw c.in_err-routes.was at r))

pub returns : goal.returns
unfolding first_of bytes_field name_at names
returns c =
    let w = goal.at.returns c in
    λ most r.
    let p = c.requires in
    told-tunnel most p.1 p.2 p.3 p.4 ((c.in_ok-label.ensures true).found _ (ap Ok c.in-Some.is))
    (after_label w.In-Some most ∙ routes-may-go [] (rw c.in_ok-routes.was at r))
