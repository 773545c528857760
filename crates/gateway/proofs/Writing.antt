-- What is written: an AVP of 3GPP, the answer, the AA-Request in its two halves, and what a call leaves.
use mathlib.Core.Path.{◌≡◌, refl, sym, ap, ◌∙◌}
use mathlib.Core.Bool.{Bool, true}
use mathlib.Core.List.{List, [], ◌++◌, append_assoc, append-nil}
use Prim.Native.Nat.{ℕ, ◌+◌, ◌-◌, ◌≤◌}
use native.Mathlib.Omega.{arith}
use borrow.Author.Tests.{eq-eqb, ne_eqb}
use lib.Dec.{eqb}
use lib.ListN.{length, drop, length-append}
use Rattle.octets.specs.Choice.{pick}
use Rattle.octets.specs.Texts.{part, put, zeros}
use Rattle.octets.specs.Numbers.{in24, in32, up4}
use Rattle.octets.proofs.Lists.{by-test}
use Rattle.octets.proofs.Texts.{length-zeros, length_part, length-put, put_then, put-nothing}
use Rattle.message.specs.TheRooms.{answer_least}
use Rattle.message.specs.Codes.{Code, plain, kind_of, number_of}
use Rattle.message.specs.Kinds.{code_from}
use Rattle.message.specs.declared.Kind.TheVariants.{Plain}
use Rattle.message.specs.ReadingAMessage.{avps, origin_host, origin_realm, value_of, walk_code}
use Rattle.message.specs.WritingTheAnswer.{avp_bytes, result_avp, session_avp}
use Rattle.message.specs.CallsThatGetNoAnswer.{message_most}
use Rattle.message.proofs.Walks.{up4-least}
use Rattle.answers.specs.Answers.{Written, answer_head, copied}
use Rattle.answers.proofs.Proxies.{copied_is, copied-walked}
use Rattle.answers.proofs.Writing.{avp-most, copied-most, head-put, length-number, over_zeros, result-most, session-most, up4-128, up4-most, written-nothing, written-seven, written_then}
use Rattle.gateway.specs.TheGateway.{Access, Call, Texts, answer, answer_avps, call_number, header_code, proxy_avps, reading_code, reauthorize, replied, request, request_avps, texts_of, vendor_avp, visited_avp}
use Rattle.gateway.specs.Code.{Replied, Sendable, Sent, access_avps, from_of, has_proxies, leaves, name_avps, request_head, vendor_head}

-- AN AVP OF 3GPP

pub length-vendor : (code : ℕ) (v : List ℕ) → length (vendor_avp code v) ≡ 12 + up4 (length v)
unfolding vendor_avp in32 in24
length-vendor code v = simp (length-append, length-zeros) (omega (arith, up4-least (length v)))

-- its head and its value behind it, over zeros where its padding stands
pub vendor-put : (d : List ℕ) (at code : ℕ) (v : List ℕ) → at + length v + 16 ≤ length d
    → put (put (put d (at + 12 + up4 (length v) - 4) (zeros 4)) at (vendor_head code (12 + length v))) (at + 12) v ≡ put d at (vendor_avp code v)
unfolding vendor_avp vendor_head in32 in24
vendor-put d at code v h =
    let a : List ℕ = vendor_head code (12 + length v) in
    let l : length (a ++ v) ≡ 12 + length v = length-append a v in
    let n : ℕ = up4 (length v) - length v in
    let e : List ℕ = put d (at + 12 + up4 (length v) - 4) (zeros 4) in
    let le : length e ≡ length d = length-put d (at + 12 + up4 (length v) - 4) (zeros 4) (rw (length-zeros 4) (omega (arith, up4-most (length v)))) in
    put_then e at a v (at + 12) refl (omega (arith, le))
    ∙ over_zeros d at (a ++ v) (at + 12 + up4 (length v) - 4) 4 n (omega (arith, l, up4-least (length v))) (omega (arith, up4-most (length v))) (omega arith)
    (omega (arith, up4-most (length v)))
    ∙ ap (put d at) (append_assoc a v (zeros n))

pub vendor-most : (code : ℕ) (v : List ℕ) → length v ≤ 128 → length (vendor_avp code v) ≤ 140
vendor-most code v h = omega (arith, length-vendor code v, up4-128 (length v) h)

pub visited-none : (v : List ℕ) → length v ≡ 0 → visited_avp v ≡ []
unfolding visited_avp pick
visited-none v h = rw (eq-eqb (length v) 0 h)

pub visited-is : (v : List ℕ) → (length v ≡ 0 → ⊥) → visited_avp v ≡ vendor_avp 600 v
unfolding visited_avp pick
visited-is v h = rw (ne_eqb (length v) 0 h)

pub visited-most : (v : List ℕ) → length v ≤ 128 → length (visited_avp v) ≤ 140
unfolding visited_avp pick
visited-most v h = by-test (eqb (length v) 0) (λ t. rw t (omega arith)) (λ t. rw t (vendor-most 600 v h))

-- bytes written at the start of a room
put_front : (d s : List ℕ) → put d 0 s ≡ s ++ drop (length s) d
unfolding put
put_front d s =
    let z : 0 + length s ≡ length s = omega arith in
    ap (λ (x : ℕ). s ++ drop x d) z

-- THE ANSWER

pub copied-own : (m : List ℕ) (p : Bool) → p ≡ has_proxies m → copied p m ≡ proxy_avps m
unfolding has_proxies proxy_avps
copied-own m p e = copied_is (header_code m) m p e

pub own-walked : (m : List ℕ) (p : Bool) → p ≡ has_proxies m → p ≡ true → walk_code m ≡ 0
unfolding has_proxies
own-walked m p e t = copied-walked (header_code m) m p e t

pub length-answer : (m host realm : List ℕ) (c : Code) → 20 ≤ length m → length (answer m host realm c) ≡ 20 + length (answer_avps m host realm c)
unfolding answer in24
length-answer m host realm c h =
    let l : length (part m 5 15) ≡ 15 = length_part m 5 15 (omega arith) in
    rw (length-append (part m 5 15) (answer_avps m host realm c), l) (omega arith)

-- five writes, one behind the other
pub written-answer : (m host realm : List ℕ) (code : ℕ) (p : Bool) (d0 d1 d2 d3 d4 d5 : List ℕ) (p1 p2 p3 p4 p5 : ℕ) → p ≡ has_proxies m
    → 20 ≤ length m → length m ≤ message_most → length host ≤ 128 → length realm ≤ 128 → answer_least ≤ length d0
    → Written d0 d1 20 p1 (session_avp m) → Written d1 d2 p1 p2 (result_avp (plain code)) → Written d2 d3 p2 p3 (avp_bytes 264 host)
    → Written d3 d4 p3 p4 (avp_bytes 296 realm) → Written d4 d5 p4 p5 (copied p m)
    → Written d0 d5 20 p5 (answer_avps m host realm (plain code))
unfolding answer_avps
written-answer m host realm code p d0 d1 d2 d3 d4 d5 p1 p2 p3 p4 p5 e k l h r f w1 w2 w3 w4 w5 =
    let all =
    written-seven d0 d1 d2 d3 d4 d5 d5 d5 20 p1 p2 p3 p4 p5 p5 p5
    (session_avp m) (result_avp (plain code)) (avp_bytes 264 host) (avp_bytes 296 realm) (copied p m) [] []
    w1 w2 w3 w4 w5 (written-nothing d5 p5) (written-nothing d5 p5)
    (omega (arith, session-most m, result-most (plain code), avp-most 264 host h, avp-most 296 realm r, copied-most m p k)) in
    rw (append-nil (copied p m), copied-own m p e) at all

pub body-fits : (m host realm : List ℕ) (code : ℕ) (p : Bool) → p ≡ has_proxies m → 20 ≤ length m → length m ≤ message_most → length host ≤ 128 → length realm ≤ 128
    → 20 + length (answer_avps m host realm (plain code)) ≤ answer_least
unfolding answer_avps
body-fits m host realm code p e k l h r =
    let q : length (proxy_avps m) ≡ length (copied p m) = ap length (sym (copied-own m p e)) in
    simp length-append
    (omega (arith, session-most m, result-most (plain code), avp-most 264 host h, avp-most 296 realm r, copied-most m p k, q))

-- the header in front of them
pub answer-put : (m host realm : List ℕ) (code : ℕ) (before after last : List ℕ) (size : ℕ) → 20 ≤ length m
    → 20 + length (answer_avps m host realm (plain code)) ≤ length before
    → Written before after 20 size (answer_avps m host realm (plain code)) → last ≡ put after 0 (answer_head m (plain code) size)
    → Replied m host realm code size before last
unfolding answer answer_head in24
answer-put m host realm code before after last size h k w e =
    let b : List ℕ = answer_avps m host realm (plain code) in
    let n : size ≡ 20 + length b = w.place in
    let l : length (part m 5 15) ≡ 15 = length_part m 5 15 (omega arith) in
    let hl : length (answer_head m (plain code) size) ≡ 20 = rw l in
    let r1 : put after 0 (answer_head m (plain code) size) ≡ answer_head m (plain code) size ++ b ++ drop (length (answer_head m (plain code) size ++ b)) before =
    rw w.bytes-put (head-put before (answer_head m (plain code) size) b hl k) in
    let r2 = ap (λ (x : ℕ). answer_head m (plain code) x ++ b ++ drop (length (answer_head m (plain code) x ++ b)) before) n in
    record {
      length-is = n ∙ sym (length-answer m host realm (plain code) h);
      room-is = e ∙ r1 ∙ r2 ∙ sym (put_front before (answer m host realm (plain code)));
    }

-- THE AA-REQUEST

pub names-most : (session host realm from_host from_realm : List ℕ) → length session ≤ 128 → length host ≤ 128 → length realm ≤ 128 → length from_host ≤ 128 → length from_realm ≤ 128
    → length (name_avps session host realm from_host from_realm) ≤ 704
unfolding name_avps
names-most session host realm from_host from_realm s h r g f =
    simp length-append
    (omega
    (arith, avp-most 263 session s, length-number 258 1, avp-most 264 host h, avp-most 296 realm r, avp-most 283 from_realm f, length-number 274 2, avp-most 293 from_host g))

pub short : (n : ℕ) → length (in32 n) ≤ 128
unfolding in32
short n = omega arith

pub access-most : (user label visited : List ℕ) → length user ≤ 128 → length label ≤ 128 → length visited ≤ 128 → length (access_avps user label visited) ≤ 556
unfolding access_avps
access-most user label visited u l v =
    simp length-append (omega (arith, avp-most 1 user u, vendor-most 311 (in32 0) (short 0), visited-most visited v, vendor-most 100 label l))

-- four writes of the access, one behind the other
pub written-access : (user label visited : List ℕ) (d0 d1 d2 d3 d4 : List ℕ) (at p1 p2 p3 p4 : ℕ) → length user ≤ 128 → length label ≤ 128 → length visited ≤ 128 → at + 1024 ≤ length d0
    → Written d0 d1 at p1 (avp_bytes 1 user) → Written d1 d2 p1 p2 (vendor_avp 311 (in32 0)) → Written d2 d3 p2 p3 (visited_avp visited) → Written d3 d4 p3 p4 (vendor_avp 100 label)
    → Written d0 d4 at p4 (access_avps user label visited)
unfolding access_avps
written-access user label visited d0 d1 d2 d3 d4 at p1 p2 p3 p4 u l v f w1 w2 w3 w4 =
    let all =
    written-seven d0 d1 d2 d3 d4 d4 d4 d4 at p1 p2 p3 p4 p4 p4 p4
    (avp_bytes 1 user) (vendor_avp 311 (in32 0)) (visited_avp visited) (vendor_avp 100 label) [] [] []
    w1 w2 w3 w4 (written-nothing d4 p4) (written-nothing d4 p4) (written-nothing d4 p4)
    (omega (arith, avp-most 1 user u, vendor-most 311 (in32 0) (short 0), visited-most visited v, vendor-most 100 label l)) in
    rw (append-nil (vendor_avp 100 label)) at all

pub halves : (host realm : List ℕ) (from : Texts) (a : Access)
    → name_avps a.session host realm from.origin_host from.origin_realm ++ access_avps a.user a.label a.visited ≡ request_avps host realm from a
unfolding request_avps name_avps access_avps
halves host realm from a = simp append_assoc

pub length-request : (host realm : List ℕ) (from : Texts) (a : Access) (hop end : ℕ) → length (request host realm from a hop end) ≡ 20 + length (request_avps host realm from a)
unfolding request in24 in32
length-request host realm from a hop end = omega arith

-- both halves, and the header in front of them
pub request-put : (host realm : List ℕ) (from : Texts) (a : Access) (hop end : ℕ) (d0 d1 d2 d3 : List ℕ) (p1 p2 : ℕ) → Sendable host realm from a d0
    → Written d0 d1 20 p1 (name_avps a.session host realm from.origin_host from.origin_realm)
    → Written d1 d2 p1 p2 (access_avps a.user a.label a.visited)
    → d3 ≡ put d2 0 (request_head p2 hop end) → Sent host realm from a hop end p2 d0 d3
unfolding request request_head in24 in32
request-put host realm from a hop end d0 d1 d2 d3 p1 p2 s w1 w2 e =
    let nm = names-most a.session host realm from.origin_host from.origin_realm s.session-fits s.host-fits s.realm-fits s.from-host-fits s.from-realm-fits in
    let am = access-most a.user a.label a.visited s.user-fits s.label-fits s.visited-fits in
    let b : List ℕ = request_avps host realm from a in
    let w : Written d0 d2 20 p2 b = rw (halves host realm from a) at
    (written_then d0 d1 d2 20 p1 p2 (name_avps a.session host realm from.origin_host from.origin_realm) (access_avps a.user a.label a.visited) w1 w2 (omega (arith, nm, s.room_fits))) in
    let l : length b ≤ 1260 =
    rw (← halves host realm from a) (simp length-append (omega (arith, nm, am))) in
    let n : p2 ≡ 20 + length b = w.place in
    let r1 : put d2 0 (request_head p2 hop end) ≡ request_head p2 hop end ++ b ++ drop (length (request_head p2 hop end ++ b)) d0 =
    rw w.bytes-put (head-put d0 (request_head p2 hop end) b refl (omega (arith, l, s.room_fits))) in
    let r2 = ap (λ (x : ℕ). request_head x hop end ++ b ++ drop (length (request_head x hop end ++ b)) d0) n in
    record {
      length-is = n ∙ sym (length-request host realm from a hop end);
      room-is = e ∙ r1 ∙ r2 ∙ sym (put_front d0 (request host realm from a hop end));
    }

-- WHAT A CALL LEAVES

-- the AA-Request repeats of a Re-Auth-Request only where it came from
from_is : (host realm m : List ℕ) (a : Access) (hop end : ℕ)
    → request host realm (from_of (value_of origin_host (avps m)) (value_of origin_realm (avps m))) a hop end ≡ request host realm (texts_of (avps m)) a hop end
unfolding request request_avps texts_of
from_is host realm m a hop end = refl

module _ (c : Call) (z : call_number c ≡ 0) where
  pub leaves-refused : (code size : ℕ) (after : List ℕ) → reading_code c.access.session c.message ≡ code → 1 ≤ code
      → Replied c.message c.host c.realm code size c.answer after
      → leaves (record { code = code; kind = Plain; length = size; request_length = 0 }) after c.request ≡ reauthorize c
  unfolding leaves reauthorize replied pick kind_of code_from number_of
  leaves-refused code size after e h r =
      rw (z, e) (rw (ne_eqb code 0 (λ q. omega arith), r.length-is, r.room-is, put-nothing c.request 0))

  pub leaves-going-on : (size sent : ℕ) (h r after last : List ℕ) → reading_code c.access.session c.message ≡ 0
      → h ≡ value_of origin_host (avps c.message) → r ≡ value_of origin_realm (avps c.message)
      → Replied c.message c.host c.realm 2001 size c.answer after
      → Sent c.host c.realm (from_of h r) c.access c.hop c.end sent c.request last
      → leaves (record { code = 2001; kind = Plain; length = size; request_length = sent }) after last ≡ reauthorize c
  unfolding leaves reauthorize replied pick kind_of code_from number_of
  leaves-going-on size sent h r after last e eh er w s =
      let q : request c.host c.realm (from_of h r) c.access c.hop c.end ≡ request c.host c.realm (texts_of (avps c.message)) c.access c.hop c.end =
      rw (eh, er) (from_is c.host c.realm c.message c.access c.hop c.end) in
      rw (z, e) (rw (w.length-is, w.room-is, s.length-is, s.room-is, q))
