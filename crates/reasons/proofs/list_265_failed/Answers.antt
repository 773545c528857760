-- A type that is not found is the first to fail, if none before it does; one that is found says which fields are required.
use mathlib.Core.Path.{◌≡◌, refl, ap, ◌∙◌}
use mathlib.Core.Bool.{true}
use mathlib.Core.List.{List, [], ◌∷◌}
use Prim.Native.Nat.{ℕ, ◌+◌, ◌-◌, ◌≤◌}
use native.Mathlib.Omega.{arith}
use Rattle.octets.specs.Numbers.{net32}
use Rattle.octets.specs.Texts.{part}
use Rattle.octets.proofs.Texts.{length_part}
use Rattle.message.specs.ReadingAMessage.{Field, avps, having, type_of, text_field, number_field, field_code, for265, auth_request_type, destination_host, user_name, session_request_type}
use Rattle.message.specs.Positions.{names, name_at}
use Rattle.message.specs.declared.Span.{Span}
use Rattle.std.specs.Prelude.{Ok}
use Rattle.octets.specs.Choice.{require}
use Rattle.message.specs.Failures.{failure_code}
use Rattle.message.specs.Spans.{bytes_field, code_of, Holds}
use Rattle.message.proofs.Failures.{failure-least}
use Rattle.order.specs.ChecksInOrder.{first_failed}
use Rattle.reasons.specs.declared.Reason.{Reason}
use Rattle.reasons.specs.Reasons.{check_named}
use Rattle.reasons.specs.Parts.{behind_type, first_of_fields}
use Rattle.reasons.proofs.Laws.{code-failed, code-none, code-some, field-one, fields-joined, field-stops, field-passes}
use Rattle.reasons.proofs.list_265_failed.Goals as goal

-- the fields before the type
abbrev before3 : List Field
before3 = number_field auth_request_type 2 2 ∷ text_field destination_host true ∷ text_field user_name true ∷ []

before : (m : List ℕ) (request host user both all : Reason)
    → check_named request ≡ first_of_fields m (number_field auth_request_type 2 2 ∷ [])
    → check_named host ≡ first_of_fields m (text_field destination_host true ∷ [])
    → check_named user ≡ first_of_fields m (text_field user_name true ∷ [])
    → check_named both ≡ first_failed (check_named host ∷ check_named user ∷ [])
    → check_named all ≡ first_failed (check_named request ∷ check_named both ∷ [])
    → check_named all ≡ first_of_fields m before3
before m request host user both all request-is host-is user-is both-is all-is =
    let join = fields-joined m in
    join (_ ∷ []) _ _ _ _ all-is request-is (join (_ ∷ []) (_ ∷ []) _ _ _ both-is host-is user-is)

-- the number in the span of the type
type : (m : List ℕ) (s : Span) (n : ℕ) → Holds m session_request_type s → n ≡ net32 (part m s.at s.len) 0 → n ≡ type_of (avps m)
type m s n h e = e ∙ ap (λ (v : List ℕ). net32 v 0) h.value

-- where the type is not found, its field is the first to fail behind those before it
stops : (m : List ℕ) (most n : ℕ) (request host user both all this last : Reason)
    → check_named request ≡ first_of_fields m (number_field auth_request_type 2 2 ∷ [])
    → check_named host ≡ first_of_fields m (text_field destination_host true ∷ [])
    → check_named user ≡ first_of_fields m (text_field user_name true ∷ [])
    → check_named both ≡ first_failed (check_named host ∷ check_named user ∷ [])
    → check_named all ≡ first_failed (check_named request ∷ check_named both ∷ [])
    → check_named this ≡ first_of_fields m (number_field session_request_type 0 1 ∷ [])
    → check_named last ≡ first_failed (check_named all ∷ check_named this ∷ [])
    → field_code (avps m) (number_field session_request_type 0 1) ≡ n → 1 ≤ n
    → check_named last ≡ first_of_fields m (for265 most (avps m))
unfolding for265 behind_type
stops m most n request host user both all this last request-is host-is user-is both-is all-is this-is last-is code least =
    let field = number_field session_request_type 0 1 in
    let fails = field-stops m field (behind_type most (type_of (avps m))) (λ z. omega (arith, least, code, z)) in
    let first = before m request host user both all request-is host-is user-is both-is all-is in
    fields-joined m before3 _ _ _ _ last-is first (this-is ∙ fails)

pub returns-in_default : goal.returns-in_default
unfolding text_field number_field bytes_field name_at names field_code
returns-in_default c =
    let m = c.args.m.now in
    let field = number_field session_request_type 0 1 in
    let g = c.number_field-g in
    let code = g.ensures.code ∙ code-failed true g.result c.in_default.field-0 c.in_default.is in
    let this = c.field_failed-this.ensures field (having session_request_type (avps m)) refl g.ensures.code ∙ field-one m field in
    stops m c.args.most (failure_code c.in_default.field-0) c.number_failed-request.result c.text_failed-host.result c.text_failed-user.result c.first_of.result c.first_of-before.result
    c.field_failed-this.result c.first_of-in_default.result
    c.number_failed-request.ensures c.text_failed-host.ensures c.text_failed-user.ensures c.first_of.ensures c.first_of-before.ensures this c.first_of-in_default.ensures
    code (failure-least c.in_default.field-0)

pub returns-in_default-found : goal.returns-in_default-found
unfolding text_field number_field bytes_field name_at names field_code require
returns-in_default-found c =
    let m = c.args.m.now in
    let field = number_field session_request_type 0 1 in
    let g = c.number_field-g in
    let code = g.ensures.code ∙ code-none true g.result c.in-Ok.found c.in-Ok.is c.in_default-found.is in
    let this = c.field_failed-this.ensures field (having session_request_type (avps m)) refl g.ensures.code ∙ field-one m field in
    stops m c.args.most 5005 c.number_failed-request.result c.text_failed-host.result c.text_failed-user.result c.first_of.result c.first_of-before.result
    c.field_failed-this.result c.first_of-in_default-found.result
    c.number_failed-request.ensures c.text_failed-host.ensures c.text_failed-user.ensures c.first_of.ensures c.first_of-before.ensures this c.first_of-in_default-found.ensures
    code (omega arith)

pub overflow_add-e : goal.overflow_add-e
unfolding number_field name_at names
overflow_add-e c =
    let s = c.in-Some.kind in
    let kind : Holds c.args.m.now session_request_type s = c.number_field-g.ensures.found s (c.in-Ok.is ∙ ap Ok c.in-Some.is) in
    omega (arith, kind.inside, c.well_formed.0)

pub slice_bounds-value32-end : goal.slice_bounds-value32-end
unfolding number_field name_at names
slice_bounds-value32-end c =
    let s = c.in-Some.kind in
    let kind : Holds c.args.m.now session_request_type s = c.number_field-g.ensures.found s (c.in-Ok.is ∙ ap Ok c.in-Some.is) in
    omega (arith, kind.inside)

pub value32-requires : goal.value32-requires
unfolding number_field name_at names
value32-requires c =
    let s = c.in-Some.kind in
    let r = c.number_field-g.ensures in
    let kind : Holds c.args.m.now session_request_type s = r.found s (c.in-Ok.is ∙ ap Ok c.in-Some.is) in
    let e : s.at + s.len - s.at ≡ s.len = omega arith in
    rw e (omega (arith, (r.sized s (c.in-Ok.is ∙ ap Ok c.in-Some.is)).0, length_part c.args.m.now s.at s.len kind.inside))

pub returns : goal.returns
unfolding for265 behind_type text_field number_field bytes_field name_at names code_of
returns c =
    let given = c.args in
    let m = c.args.m.now in
    let s = c.in-Some.kind in
    let field = number_field session_request_type 0 1 in
    let g = c.number_field-g in
    let code : field_code (avps m) field ≡ 0 = g.ensures.code ∙ code-some true g.result c.in-Ok.found s c.in-Ok.is c.in-Some.is in
    let kind : Holds m session_request_type s = g.ensures.found s (c.in-Ok.is ∙ ap Ok c.in-Some.is) in
    let e : s.at + s.len - s.at ≡ s.len = omega arith in
    let number = type m s c.value32.result kind (rw e at c.value32.ensures) in
    let last = c.end_failed.ensures ∙ ap (λ (n : ℕ). first_of_fields m (behind_type given.most n)) number in
    let first : check_named c.first_of-before.result ≡ first_of_fields m before3 =
    before m c.number_failed-request.result c.text_failed-host.result c.text_failed-user.result c.first_of.result c.first_of-before.result
    c.number_failed-request.ensures c.text_failed-host.ensures c.text_failed-user.ensures c.first_of.ensures c.first_of-before.ensures in
    fields-joined m before3 _ _ _ _ c.first_of-2.ensures first (last ∙ field-passes m field (behind_type given.most (type_of (avps m))) code)
