-- Field by field: one that is there leaves the code to those behind it (`after_cause` to `after_label`), one that fails or is missing gives it.
use mathlib.Core.Path.{◌≡◌, refl, ap, ◌∙◌}
use mathlib.Core.List.{List, map}
use Prim.Native.Nat.{ℕ}
use mathlib.Core.Bool.{true}
use lib.ListN.{drop}
use Rattle.std.specs.Prelude.{Ok}
use Rattle.octets.specs.Choice.{pick, first_of}
use Rattle.message.specs.ReadingAMessage.{Avp, avps, field_code, for275, text_field, label_field, number_field}
use Rattle.message.specs.Positions.{names, name_at}
use Rattle.message.specs.Spans.{bytes_field, rest_code}
use Rattle.message.proofs.Listing.{go_on, stop, missing, listed-refused, told-termination}
use Rattle.request.proofs.list_275.Goals as goal
use Rattle.request.proofs.list_275.Goals.{In-Some, In-Some-2, In-Some-3, In-Some-4}

-- the code of those behind the first k
abbrev behind : ℕ → List Avp → ℕ
behind k xs = first_of (map (field_code xs) (drop k for275))

all : (most : ℕ) (xs : List Avp) → rest_code most 275 xs ≡ behind 0 xs
unfolding rest_code pick
all most xs = refl

after_cause : (p : In-Some) → behind 0 (avps p.args.m.now) ≡ behind 1 (avps p.args.m.now)
unfolding for275 number_field name_at names
after_cause p = go_on _ p.in_ok-number_field.ensures p.in-Some.is

after_destination : (p : In-Some-2) → behind 1 (avps p.args.m.now) ≡ behind 2 (avps p.args.m.now)
unfolding for275 text_field bytes_field name_at names
after_destination p = go_on _ (p.in_ok-text_field.ensures true) p.in-Some-2.is

after_user : (p : In-Some-3) → behind 2 (avps p.args.m.now) ≡ behind 3 (avps p.args.m.now)
unfolding for275 text_field bytes_field name_at names
after_user p = go_on _ (p.in_ok-user.ensures true) p.in-Some-3.is

after_label : (p : In-Some-4) → behind 3 (avps p.args.m.now) ≡ behind 4 (avps p.args.m.now)
unfolding for275 label_field bytes_field name_at names
after_label p = go_on _ (p.in_ok-label.ensures true) p.in-Some-4.is

pub returns-in_err-number_field : goal.returns-in_err-number_field
unfolding for275 number_field name_at names
returns-in_err-number_field c = λ most. listed-refused _ c.from_residual.ensures.1 (all most _ ∙ stop _ c.in_err-number_field.ensures)

pub returns-in_default : goal.returns-in_default
unfolding for275 number_field name_at names
returns-in_default c = λ most. listed-refused _ refl (all most _ ∙ missing _ c.in_ok-number_field.ensures refl c.in_default.is)

pub returns-in_err-text_field : goal.returns-in_err-text_field
unfolding for275 text_field bytes_field name_at names
returns-in_err-text_field c =
    let w = goal.at.returns-in_err-text_field c in
    λ most. listed-refused _ c.from_residual-in_err-text_field.ensures.1 (all most _ ∙ after_cause w.In-Some ∙ stop _ (c.in_err-text_field.ensures true))

pub returns-in_default-2 : goal.returns-in_default-2
unfolding for275 text_field bytes_field name_at names
returns-in_default-2 c =
    let w = goal.at.returns-in_default-2 c in
    λ most. listed-refused _ refl (all most _ ∙ after_cause w.In-Some ∙ missing _ (c.in_ok-text_field.ensures true) refl c.in_default-2.is)

pub returns-in_err-user : goal.returns-in_err-user
unfolding for275 text_field bytes_field name_at names
returns-in_err-user c =
    let w = goal.at.returns-in_err-user c in
    λ most. listed-refused _ c.from_residual-in_err-user.ensures.1 (all most _ ∙ after_cause w.In-Some ∙ after_destination w.In-Some-2 ∙ stop _ (c.in_err-user.ensures true))

pub returns-in_default-3 : goal.returns-in_default-3
unfolding for275 text_field bytes_field name_at names
returns-in_default-3 c =
    let w = goal.at.returns-in_default-3 c in
    λ most. listed-refused _ refl (all most _ ∙ after_cause w.In-Some ∙ after_destination w.In-Some-2 ∙ missing _ (c.in_ok-user.ensures true) refl c.in_default-3.is)

pub returns-in_err-label : goal.returns-in_err-label
unfolding for275 label_field bytes_field name_at names
returns-in_err-label c =
    let w = goal.at.returns-in_err-label c in
    λ most. listed-refused _ c.from_residual-in_err-label.ensures.1 (all most _ ∙ after_cause w.In-Some ∙ after_destination w.In-Some-2 ∙ after_user w.In-Some-3 ∙ stop _ (c.in_err-label.ensures true))

pub returns-in_default-4 : goal.returns-in_default-4
unfolding for275 label_field bytes_field name_at names
returns-in_default-4 c =
    let w = goal.at.returns-in_default-4 c in
    λ most. listed-refused _ refl (all most _ ∙ after_cause w.In-Some ∙ after_destination w.In-Some-2 ∙ after_user w.In-Some-3 ∙ missing _ (c.in_ok-label.ensures true) refl c.in_default-4.is)

pub returns : goal.returns
unfolding first_of for275 bytes_field name_at names
returns c =
    let w = goal.at.returns c in
    λ most.
    told-termination most ((c.in_ok-user.ensures true).found _ (ap Ok c.in-Some-3.is)) c.requires.1 ((c.in_ok-label.ensures true).found _ (ap Ok c.in-Some-4.is))
    (all most _ ∙ after_cause w.In-Some ∙ after_destination w.In-Some-2 ∙ after_user w.In-Some-3 ∙ after_label w.In-Some-4)
