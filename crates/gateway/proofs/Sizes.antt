-- How long what a call writes is: an answer has at most 5,120 bytes, an AA-Request at most 1,280. So every room that passes number 3 holds them, and
-- both lengths fit 32 bits.
use mathlib.Core.Path.{◌≡◌, refl}
use Prim.Native.Nat.{ℕ, ◌≤◌}
use native.Mathlib.Omega.{arith}
use borrow.Author.Tests.{eqb-true}
use lib.Dec.{eqb}
use lib.ListN.{length, length-append}
use Rattle.octets.specs.Choice.{pick}
use Rattle.octets.proofs.Lists.{by-test}
use Rattle.message.specs.TheRooms.{answer_least}
use Rattle.message.specs.Codes.{plain}
use Rattle.message.specs.ReadingAMessage.{avps}
use Rattle.gateway.specs.TheGateway.{Access, Call, Left, Texts, answer, call_number, reading_code, reauthorize, replied, request, request_avps, silent, texts_of}
use Rattle.gateway.specs.Code.{has_proxies}
use Rattle.gateway.proofs.Calls.{Allowed, allowed}
use Rattle.gateway.proofs.Reading.{origins-short}
use Rattle.gateway.proofs.Writing.{access-most, body-fits, halves, length-answer, length-request, names-most}

answer-most : (c : Call) (code : ℕ) → Allowed c → length (answer c.message c.host c.realm (plain code)) ≤ answer_least
answer-most c code k =
    omega
    (arith, length-answer c.message c.host c.realm (plain code) k.least, body-fits c.message c.host c.realm code (has_proxies c.message) refl k.least k.most k.host-fits k.realm-fits)

request-most : (c : Call) → Allowed c → reading_code c.access.session c.message ≡ 0
    → length (request c.host c.realm (texts_of (avps c.message)) c.access c.hop c.end) ≤ 1280
unfolding texts_of
request-most c k e =
    let from : Texts = texts_of (avps c.message) in
    let a : Access = c.access in
    let o = origins-short a.session c.message e in
    let nm = names-most a.session c.host c.realm from.origin_host from.origin_realm k.session-fits k.host-fits k.realm-fits o.0 o.1 in
    let am = access-most a.user a.label a.visited k.user-fits (omega (arith, k.label-fits)) k.visited-fits in
    let l : length (request_avps c.host c.realm from a) ≤ 1260 = rw (← halves c.host c.realm from a) (simp length-append (omega (arith, nm, am))) in
    omega (arith, l, length-request c.host c.realm from a c.hop c.end)

abbrev Fits : Left → Type 0
Fits l = (l.size ≤ answer_least) × (l.request_size ≤ 1280)

pub sizes : (c : Call) → Fits (reauthorize c)
unfolding reauthorize replied silent pick
sizes c =
    by-test (eqb (call_number c) 0)
    (λ t. let k = allowed c (eqb-true (call_number c) 0 t) in
    by-test (eqb (reading_code c.access.session c.message) 0)
    (λ u. rw (t, u) (answer-most c 2001 k, request-most c k (eqb-true _ 0 u)))
    (λ u. rw (t, u) (answer-most c (reading_code c.access.session c.message) k, omega arith)))
    (λ t. rw t (omega arith, omega arith))
