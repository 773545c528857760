-- Field by field: one that is there leaves the code to those behind it (`after_type` to `after_visited`), one that fails or is missing gives it; the type chooses the end.
use mathlib.Core.Path.{◌≡◌, refl, sym, ap, ◌∙◌}
use mathlib.Core.List.{List, map}
use Prim.Native.Nat.{ℕ, zero, suc, ◌+◌, ◌-◌, ◌≤◌}
use native.Mathlib.Omega.{arith}
use mathlib.Core.Bool.{true, false}
use lib.ListN.{drop}
use Rattle.std.specs.Prelude.{Ok}
use Rattle.octets.specs.Choice.{pick, first_of}
use Rattle.octets.specs.Numbers.{net32}
use Rattle.octets.proofs.Lists.{within-high}
use Rattle.octets.proofs.Texts.{length_part}
use Rattle.message.specs.ReadingAMessage.{Avp, avps, field_code, for265, text_field, number_field, user_name, session_request_type, type_of}
use Rattle.message.specs.Positions.{names, name_at}
use Rattle.message.specs.Spans.{bytes_field, Holds, rest_code}
use Rattle.message.proofs.Listing.{go_on, may-go, stop, missing, found-there, number-in, listed-refused, of-type-0, of-type-1}
use Rattle.request.proofs.list_265.Goals as goal
use Rattle.request.proofs.list_265.Goals.{In-Some, In-Some-2, In-Some-3, In-Some-4, In_ok-network, After-value32}

-- the code of those behind the first k
abbrev behind : ℕ → ℕ → List Avp → ℕ
behind k most xs = first_of (map (field_code xs) (drop k (for265 most xs)))

all : (most : ℕ) (xs : List Avp) → rest_code most 265 xs ≡ behind 0 most xs
unfolding rest_code pick
all most xs = refl

after_type : (p : In-Some) → behind 0 p.args.most (avps p.args.m.now) ≡ behind 1 p.args.most (avps p.args.m.now)
unfolding for265 number_field name_at names
after_type p = go_on _ p.in_ok-number_field.ensures p.in-Some.is

after_destination : (p : In-Some-2) → behind 1 p.args.most (avps p.args.m.now) ≡ behind 2 p.args.most (avps p.args.m.now)
unfolding for265 text_field bytes_field name_at names
after_destination p = go_on _ (p.in_ok-text_field.ensures true) p.in-Some-2.is

after_user : (p : In-Some-3) → behind 2 p.args.most (avps p.args.m.now) ≡ behind 3 p.args.most (avps p.args.m.now)
unfolding for265 text_field bytes_field name_at names
after_user p = go_on _ (p.in_ok-user.ensures true) p.in-Some-3.is

after_kind : (p : In-Some-4) → behind 3 p.args.most (avps p.args.m.now) ≡ behind 4 p.args.most (avps p.args.m.now)
unfolding for265 number_field name_at names
after_kind p = go_on _ p.in_ok-kind.ensures p.in-Some-4.is

after_visited : (p : In_ok-network) → behind 4 p.args.most (avps p.args.m.now) ≡ behind 5 p.args.most (avps p.args.m.now)
unfolding for265 text_field bytes_field name_at names
after_visited p = may-go _ (p.in_ok-network.ensures false) refl

-- the spans of User-Name and of the type
user : (p : In-Some-3) → Holds p.args.m.now user_name p.in-Some-3.user
unfolding bytes_field name_at names
user p = (p.in_ok-user.ensures true).found p.in-Some-3.user (ap Ok p.in-Some-3.is)

kind : (p : In-Some-4) → Holds p.args.m.now session_request_type p.in-Some-4.kind
unfolding number_field name_at names
kind p = p.in_ok-kind.ensures.found p.in-Some-4.kind (ap Ok p.in-Some-4.is)

type : (p : After-value32) → Holds p.args.m.now session_request_type p.in-Some-4.kind → p.value32.result ≡ type_of (avps p.args.m.now)
type p h =
    let e : p.in-Some-4.kind.at + p.in-Some-4.kind.len - p.in-Some-4.kind.at ≡ p.in-Some-4.kind.len = omega arith in
    rw e at p.value32.ensures ∙ ap (λ (v : List ℕ). net32 v 0) h.value

-- a type that is not 0 is 1
is_one : (n : ℕ) → (n ≡ 0 → ⊥) → n ≤ 1 → n ≡ 1
is_one zero z h = absurd (z refl)
is_one (suc n) z h = omega arith

pub returns-in_err-number_field : goal.returns-in_err-number_field
unfolding for265 number_field name_at names
returns-in_err-number_field c = listed-refused _ c.from_residual.ensures.1 (all c.args.most _ ∙ stop _ c.in_err-number_field.ensures)

pub returns-in_default : goal.returns-in_default
unfolding for265 number_field name_at names
returns-in_default c = listed-refused _ refl (all c.args.most _ ∙ missing _ c.in_ok-number_field.ensures refl c.in_default.is)

pub returns-in_err-text_field : goal.returns-in_err-text_field
unfolding for265 text_field bytes_field name_at names
returns-in_err-text_field c =
    let w = goal.at.returns-in_err-text_field c in
    listed-refused _ c.from_residual-in_err-text_field.ensures.1 (all c.args.most _ ∙ after_type w.In-Some ∙ stop _ (c.in_err-text_field.ensures true))

pub returns-in_default-2 : goal.returns-in_default-2
unfolding for265 text_field bytes_field name_at names
returns-in_default-2 c =
    let w = goal.at.returns-in_default-2 c in
    listed-refused _ refl (all c.args.most _ ∙ after_type w.In-Some ∙ missing _ (c.in_ok-text_field.ensures true) refl c.in_default-2.is)

pub returns-in_err-user : goal.returns-in_err-user
unfolding for265 text_field bytes_field name_at names
returns-in_err-user c =
    let w = goal.at.returns-in_err-user c in
    listed-refused _ c.from_residual-in_err-user.ensures.1 (all c.args.most _ ∙ after_type w.In-Some ∙ after_destination w.In-Some-2 ∙ stop _ (c.in_err-user.ensures true))

pub returns-in_default-3 : goal.returns-in_default-3
unfolding for265 text_field bytes_field name_at names
returns-in_default-3 c =
    let w = goal.at.returns-in_default-3 c in
    listed-refused _ refl (all c.args.most _ ∙ after_type w.In-Some ∙ after_destination w.In-Some-2 ∙ missing _ (c.in_ok-user.ensures true) refl c.in_default-3.is)

pub returns-in_err-kind : goal.returns-in_err-kind
unfolding for265 number_field name_at names
returns-in_err-kind c =
    let w = goal.at.returns-in_err-kind c in
    listed-refused _ c.from_residual-in_err-kind.ensures.1 (all c.args.most _ ∙ after_type w.In-Some ∙ after_destination w.In-Some-2 ∙ after_user w.In-Some-3 ∙ stop _ c.in_err-kind.ensures)

pub returns-in_default-4 : goal.returns-in_default-4
unfolding for265 number_field name_at names
returns-in_default-4 c =
    let w = goal.at.returns-in_default-4 c in
    listed-refused _ refl (all c.args.most _ ∙ after_type w.In-Some ∙ after_destination w.In-Some-2 ∙ after_user w.In-Some-3 ∙ missing _ c.in_ok-kind.ensures refl c.in_default-4.is)

pub returns-in_err-network : goal.returns-in_err-network
unfolding for265 text_field bytes_field name_at names
returns-in_err-network c =
    let w = goal.at.returns-in_err-network c in
    listed-refused _ c.from_residual-in_err-network.ensures.1 (all c.args.most _ ∙ after_type w.In-Some ∙ after_destination w.In-Some-2 ∙ after_user w.In-Some-3 ∙ after_kind w.In-Some-4 ∙ stop _ (c.in_err-network.ensures false))

pub overflow_add-e : goal.overflow_add-e
overflow_add-e c =
    let w = goal.at.overflow_add-e c in
    omega (arith, (kind w.In-Some-4).inside, c.well_formed.0)

pub slice_bounds-value32-end : goal.slice_bounds-value32-end
slice_bounds-value32-end c =
    let w = goal.at.slice_bounds-value32-end c in
    omega (arith, (kind w.In-Some-4).inside)

pub value32-requires : goal.value32-requires
unfolding number_field name_at names
value32-requires c =
    let w = goal.at.value32-requires c in
    let s = c.in-Some-4.kind in
    let e : s.at + s.len - s.at ≡ s.len = omega arith in
    rw e (omega (arith, (c.in_ok-kind.ensures.sized s (ap Ok c.in-Some-4.is)).0, length_part c.args.m.now s.at s.len (kind w.In-Some-4).inside))

pub tunnel_end-requires : goal.tunnel_end-requires
tunnel_end-requires c =
    let w = goal.at.tunnel_end-requires c in
    let p = c.requires in
    (p.0, user w.In-Some-3, p.1, p.2, p.3)

pub returns-then-value32-eq0 : goal.returns-then-value32-eq0
unfolding text_field bytes_field name_at names
returns-then-value32-eq0 c =
    let w = goal.at.returns-then-value32-eq0 c in
    let a = c.args in
    of-type-0 a.most _ (all c.args.most _ ∙ after_type w.In-Some ∙ after_destination w.In-Some-2 ∙ after_user w.In-Some-3 ∙ after_kind w.In-Some-4 ∙ after_visited w.In_ok-network) (sym (type w.After-value32 (kind w.In-Some-4)) ∙ c.if-value32-eq0.true)
    (c.is_some.ensures ∙ found-there _ (c.in_ok-network.ensures false)) (c.tunnel_end.ensures a.most c.routes_field-routes.ensures)

pub policy_end-requires : goal.policy_end-requires
policy_end-requires c =
    let w = goal.at.policy_end-requires c in
    let p = c.requires in
    (p.0, user w.In-Some-3, p.1)

pub returns : goal.returns
unfolding number_field name_at names
returns c =
    let w = goal.at.returns c in
    let a = c.args in
    let few : type_of (avps a.m.now) ≤ 1 = within-high 0 1 (type_of (avps a.m.now)) (number-in session_request_type 0 1 c.in_ok-kind.ensures c.in-Some-4.is) in
    let t = type w.After-value32 (kind w.In-Some-4) in
    of-type-1 a.most (all c.args.most _ ∙ after_type w.In-Some ∙ after_destination w.In-Some-2 ∙ after_user w.In-Some-3 ∙ after_kind w.In-Some-4 ∙ after_visited w.In_ok-network) (is_one (type_of (avps a.m.now)) (λ z. c.if-value32-eq0.false (t ∙ z)) few)
    (c.policy_end.ensures a.most c.routes_field-routes.ensures)
