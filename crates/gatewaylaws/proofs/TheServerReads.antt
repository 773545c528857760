-- The theorem `ServerReads`: the walk reads the AVPs of an AA-Request as the gateway wrote them, at home and at a visited network, each passes
-- its test of the server's list, and what is asked is made of them.
use mathlib.Core.Path.{◌≡◌, refl, sym, ap, ◌∙◌}
use mathlib.Core.Bool.{true, not, ◌&&◌}
use mathlib.Core.List.{List, [], ◌∷◌, ◌++◌}
use Prim.Native.Nat.{ℕ, ◌+◌, ◌%◌, ◌≤◌}
use native.Mathlib.Omega.{arith}
use borrow.Author.Tests.{eqb-true, eqb-false, le-leb, leb-true}
use lib.Dec.{eqb, leb}
use lib.ListN.{length, get_or, length-append}
use Rattle.octets.specs.Choice.{pick, require, first_of, within}
use Rattle.octets.specs.Lists.{keep}
use Rattle.octets.specs.Numbers.{net24, net32, in24, in32, up4}
use Rattle.octets.proofs.Lists.{by-test, and_left, and_right, within_low, within-high}
use Rattle.message.specs.ReadingAMessage.{Avp, Request, Walk, anything, ask_of, avps, base, behind, body, command, each_code, field_code, fields, first_value, for265, for_both, having, header_code, is_one_of, known, known_avps, label_field, list_code, named_in01, number_field, number_in, present, read, reading_code, request as request-of, request_of, request_walk, same_name, starts_with, stopped, stopped_in, supported, tested_as, text_field, texts_field, tunnel, value_of, vendor, walk, walk_code}
use Rattle.message.specs.CallsThatGetNoAnswer.{message_number}
use Rattle.message.specs.WritingTheAnswer.{avp_bytes}
use Rattle.message.proofs.Heads.{number-none}
use Rattle.answers.proofs.Writing.{avp-most}
use Rattle.message.proofs.Listing.{above_zero}
use Rattle.message.proofs.Walks.{walks-agree}
use Rattle.abort.specs.TheDisconnectionsRules.{sent}
use Rattle.abort.proofs.Laid.{avp-four, avp-read, both-four}
use Rattle.gateway.specs.TheGateway.{Access, Texts, access_fits, request, request_avps, vendor_avp, visited_avp}
use Rattle.gateway.proofs.Writing.{length-vendor, vendor-most, visited-is, visited-most, visited-none}
use Rattle.gatewaylaws.specs.TheGatewaysRules.{NoNumber, Sendable, ServerReads}
use Rattle.gatewaylaws.proofs.TheGatewaysRules.{short, supports}
use Rattle.gatewaylaws.proofs.Vendors.{sent_vendor, vendor-last, vendor-read}

-- THE ACCESS

record Parts (a : Access) : Type 0 where
  session-least : 1 ≤ length a.session
  session-most : length a.session ≤ 128
  user-least : 1 ≤ length a.user
  user-most : length a.user ≤ 128
  label-least : 1 ≤ length a.label
  label-most : length a.label ≤ 100
  visited-most : length a.visited ≤ 128

parts : (a : Access) → access_fits a ≡ true → Parts a
unfolding access_fits
parts a e =
    let last = within 1 100 (length a.label) && leb (length a.visited) 128 in
    let rest = within 1 128 (length a.user) && last in
    let r = and_right (within 1 128 (length a.session)) rest e in
    let l = and_right (within 1 128 (length a.user)) last r in
    let s = and_left (within 1 128 (length a.session)) rest e in
    let u = and_left (within 1 128 (length a.user)) last r in
    let b = and_left (within 1 100 (length a.label)) (leb (length a.visited) 128) l in
    record {
      session-least = within_low 1 128 (length a.session) s;
      session-most = within-high 1 128 (length a.session) s;
      user-least = within_low 1 128 (length a.user) u;
      user-most = within-high 1 128 (length a.user) u;
      label-least = within_low 1 100 (length a.label) b;
      label-most = within-high 1 100 (length a.label) b;
      visited-most = leb-true (length a.visited) 128 (and_right (within 1 100 (length a.label)) (leb (length a.visited) 128) l);
    }

-- THE WALK

-- the last two as they are read, and the nine before them
last_two : Access → List Avp
last_two a = pick (eqb (length a.visited) 0) (sent_vendor 100 a.label ∷ []) (sent_vendor 600 a.visited ∷ sent_vendor 100 a.label ∷ [])

nine : (host realm : List ℕ) → Texts → Access → (rest : List Avp) → List Avp
nine host realm from a rest =
    sent 263 a.session
    ∷ sent 258 (in32 1)
    ∷ sent 264 host
    ∷ sent 296 realm
    ∷ sent 283 from.origin_realm
    ∷ sent 274 (in32 2)
    ∷ sent 293 from.origin_host
    ∷ sent 1 a.user
    ∷ sent_vendor 311 (in32 0)
    ∷ rest

tail-walked : (a : Access) → Parts a → walk (visited_avp a.visited ++ vendor_avp 100 a.label) ≡ record { avps = last_two a; code = 0 }
unfolding last_two pick behind
tail-walked a p =
    let l : length a.label ≤ 128 = omega (arith, p.label-most) in
    by-test (eqb (length a.visited) 0)
    (λ t. rw (t, visited-none a.visited (eqb-true (length a.visited) 0 t)) (vendor-last 100 a.label (omega arith) l))
    (λ t.
    rw (t, visited-is a.visited (eqb-false (length a.visited) 0 t))
    (vendor-read 600 a.visited (vendor_avp 100 a.label) (omega arith) p.visited-most ∙ ap (behind (sent_vendor 600 a.visited)) (vendor-last 100 a.label (omega arith) l)))

walked : (host realm : List ℕ) (from : Texts) (a : Access) → Sendable host realm from a → Parts a
    → walk (request_avps host realm from a) ≡ record { avps = nine host realm from a (last_two a); code = 0 }
unfolding request_avps nine behind
walked host realm from a s p =
    avp-read 263 a.session _ (omega arith) p.session-most
    ∙ ap (behind (sent 263 a.session))
    (avp-read 258 (in32 1) _ (omega arith) (short 1)
    ∙ ap (behind (sent 258 (in32 1)))
    (avp-read 264 host _ (omega arith) s.host-fits.most
    ∙ ap (behind (sent 264 host))
    (avp-read 296 realm _ (omega arith) s.realm-fits.most
    ∙ ap (behind (sent 296 realm))
    (avp-read 283 from.origin_realm _ (omega arith) s.from-realm-fits.most
    ∙ ap (behind (sent 283 from.origin_realm))
    (avp-read 274 (in32 2) _ (omega arith) (short 2)
    ∙ ap (behind (sent 274 (in32 2)))
    (avp-read 293 from.origin_host _ (omega arith) s.from-host-fits.most
    ∙ ap (behind (sent 293 from.origin_host))
    (avp-read 1 a.user _ (omega arith) p.user-most
    ∙ ap (behind (sent 1 a.user))
    (vendor-read 311 (in32 0) _ (omega arith) (short 0)
    ∙ ap (behind (sent_vendor 311 (in32 0))) (tail-walked a p)))))))))

-- all of them are supported
supports-vendor : (code : ℕ) (v : List ℕ) → known (vendor 10415 code) ≡ true → supported (sent_vendor code v) ≡ true
unfolding supported sent_vendor
supports-vendor code v k = rw k

known-base : (known (base 263) ≡ true) × (known (base 258) ≡ true) × (known (base 264) ≡ true) × (known (base 296) ≡ true) × (known (base 283) ≡ true) × (known (base 274) ≡ true) × (known (base 293) ≡ true) × (known (base 1) ≡ true)
unfolding known known_avps named_in01 is_one_of same_name
known-base = (refl, refl, refl, refl, refl, refl, refl, refl)

known-vendor : (known (vendor 10415 311) ≡ true) × (known (vendor 10415 600) ≡ true) × (known (vendor 10415 100) ≡ true)
unfolding known known_avps named_in01 is_one_of same_name
known-vendor = (refl, refl, refl)

nine-pass : (host realm : List ℕ) (from : Texts) (a : Access) (rest : List Avp) → stopped_in rest 0 ≡ record { avps = rest; code = 0 }
    → stopped_in (nine host realm from a rest) 0 ≡ record { avps = nine host realm from a rest; code = 0 }
unfolding stopped_in nine behind pick
nine-pass host realm from a rest e =
    rw (supports 263 a.session known-base.0, supports 258 (in32 1) known-base.1, supports 264 host known-base.2, supports 296 realm known-base.3, supports 283 from.origin_realm known-base.4, supports 274 (in32 2) known-base.5, supports 293 from.origin_host known-base.6, supports 1 a.user known-base.7, supports-vendor 311 (in32 0) known-vendor.0, e)

last-pass : (a : Access) → stopped_in (last_two a) 0 ≡ record { avps = last_two a; code = 0 }
unfolding stopped_in last_two behind pick
last-pass a =
    by-test (eqb (length a.visited) 0)
    (λ t. rw t (rw (supports-vendor 100 a.label known-vendor.2)))
    (λ t. rw t (rw (supports-vendor 600 a.visited known-vendor.1, supports-vendor 100 a.label known-vendor.2)))

module _ (host realm : List ℕ) (from : Texts) (a : Access) (hop end : ℕ) (s : Sendable host realm from a) (p : Parts a) where
  body_is : body (request host realm from a hop end) ≡ request_avps host realm from a
  unfolding request in24 in32
  body_is = refl

  request-walked : request_walk (body (request host realm from a hop end)) ≡ record { avps = nine host realm from a (last_two a); code = 0 }
  unfolding stopped
  request-walked =
      ap (λ (x : List ℕ). request_walk x) body_is ∙ walks-agree (request_avps host realm from a) ∙ ap stopped (walked host realm from a s p)
      ∙ nine-pass host realm from a (last_two a) (last-pass a)

  avps-are : avps (request host realm from a hop end) ≡ nine host realm from a (last_two a)
  unfolding avps
  avps-are = ap (λ (w : Walk). w.avps) request-walked

  walk-passes : walk_code (request host realm from a hop end) ≡ 0
  unfolding walk_code
  walk-passes = ap (λ (w : Walk). w.code) request-walked

  header-passes : header_code (request host realm from a hop end) ≡ 0
  unfolding header_code request net24 net32 in24 in32 first_of require pick
  header-passes = refl

  command-is : command (request host realm from a hop end) ≡ 265
  unfolding request net24 in24 in32
  command-is = refl

  -- THE LIST

  at_home : (most : ℕ) → list_code most 265 (nine host realm from a (sent_vendor 100 a.label ∷ [])) ≡ 0
  unfolding list_code fields for_both for265 text_field label_field number_field texts_field number_in anything field_code tested_as each_code having keep first_value value_of same_name nine sent sent_vendor starts_with first_of require pick within net32 in32
  at_home most = rw (le-leb 1 (length a.session) p.session-least, le-leb (length a.session) 128 p.session-most, le-leb 1 (length (host)) s.host-fits.least, le-leb (length (host)) 128 s.host-fits.most, le-leb 1 (length (realm)) s.realm-fits.least, le-leb (length (realm)) 128 s.realm-fits.most, le-leb 1 (length from.origin_realm) s.from-realm-fits.least, le-leb (length from.origin_realm) 128 s.from-realm-fits.most, le-leb 1 (length from.origin_host) s.from-host-fits.least, le-leb (length from.origin_host) 128 s.from-host-fits.most, le-leb 1 (length a.user) p.user-least, le-leb (length a.user) 128 p.user-most, le-leb 1 (length a.label) p.label-least, le-leb (length a.label) 100 p.label-most)

  abroad : (most : ℕ) → 1 ≤ length a.visited → list_code most 265 (nine host realm from a (sent_vendor 600 a.visited ∷ sent_vendor 100 a.label ∷ [])) ≡ 0
  unfolding list_code fields for_both for265 text_field label_field number_field texts_field number_in anything field_code tested_as each_code having keep first_value value_of same_name nine sent sent_vendor starts_with first_of require pick within net32 in32
  abroad most v = rw (le-leb 1 (length a.session) p.session-least, le-leb (length a.session) 128 p.session-most, le-leb 1 (length (host)) s.host-fits.least, le-leb (length (host)) 128 s.host-fits.most, le-leb 1 (length (realm)) s.realm-fits.least, le-leb (length (realm)) 128 s.realm-fits.most, le-leb 1 (length from.origin_realm) s.from-realm-fits.least, le-leb (length from.origin_realm) 128 s.from-realm-fits.most, le-leb 1 (length from.origin_host) s.from-host-fits.least, le-leb (length from.origin_host) 128 s.from-host-fits.most, le-leb 1 (length a.user) p.user-least, le-leb (length a.user) 128 p.user-most, le-leb 1 (length a.label) p.label-least, le-leb (length a.label) 100 p.label-most, le-leb 1 (length a.visited) v, le-leb (length a.visited) 128 p.visited-most)

  asked : Request
  asked = record { user = a.user; ask = tunnel a.session host realm a.label (not (eqb (length a.visited) 0)) }

  list-passes : (most : ℕ) → list_code most 265 (nine host realm from a (last_two a)) ≡ 0
  unfolding last_two pick
  list-passes most =
      by-test (eqb (length a.visited) 0)
      (λ t. rw t (at_home most))
      (λ t. rw t (abroad most (above_zero (length a.visited) (eqb-false (length a.visited) 0 t))))

  asked_is : request_of 265 (nine host realm from a (last_two a)) ≡ asked
  unfolding asked last_two request_of ask_of present value_of first_value having keep same_name nine sent sent_vendor pick net32 in32
  asked_is =
      by-test (eqb (length a.visited) 0)
      (λ t. rw t)
      (λ t. rw t)

  reading-passes : (most : ℕ) → reading_code most (request host realm from a hop end) ≡ 0
  unfolding reading_code first_of pick
  reading-passes most = rw (header-passes, walk-passes, command-is, avps-are) (rw (list-passes most))

  is_read : (most : ℕ) → read most (request host realm from a hop end) ≡ request-of asked
  unfolding read pick
  is_read most = rw (reading-passes most, command-is, avps-are, asked_is)

pub server-reads : ServerReads
unfolding asked
server-reads most host realm from a hop end s = is_read host realm from a hop end s (parts a s.access-fits) most

-- ITS LENGTH

vendor-four : (code : ℕ) (v : List ℕ) → length (vendor_avp code v) % 4 ≡ 0
unfolding up4
vendor-four code v = omega (arith, length-vendor code v)

visited-four : (v : List ℕ) → length (visited_avp v) % 4 ≡ 0
visited-four v =
    by-test (eqb (length v) 0)
    (λ t. rw (visited-none v (eqb-true (length v) 0 t)))
    (λ t. rw (visited-is v (eqb-false (length v) 0 t)) (vendor-four 600 v))

module _ (host realm : List ℕ) (from : Texts) (a : Access) (hop end : ℕ) (s : Sendable host realm from a) (p : Parts a) where
  halves-length : length (request_avps host realm from a)
      ≡ length (avp_bytes 263 a.session) + (length (avp_bytes 258 (in32 1)) + (length (avp_bytes 264 host) + (length (avp_bytes 296 realm) + (length (avp_bytes 283 from.origin_realm) + (length (avp_bytes 274 (in32 2)) + (length (avp_bytes 293 from.origin_host) + (length (avp_bytes 1 a.user) + (length (vendor_avp 311 (in32 0)) + (length (visited_avp a.visited) + length (vendor_avp 100 a.label))))))))))
  unfolding request_avps
  halves-length = simp length-append

  avps-four : length (request_avps host realm from a) % 4 ≡ 0
  avps-four =
      rw halves-length
      (both-four _ _ (avp-four 263 a.session) (both-four _ _ (avp-four 258 (in32 1)) (both-four _ _ (avp-four 264 host) (both-four _ _ (avp-four 296 realm) (both-four _ _ (avp-four 283 from.origin_realm) (both-four _ _ (avp-four 274 (in32 2)) (both-four _ _ (avp-four 293 from.origin_host) (both-four _ _ (avp-four 1 a.user) (both-four _ _ (vendor-four 311 (in32 0)) (both-four _ _ (visited-four a.visited) (vendor-four 100 a.label)))))))))))

  avps-most : length (request_avps host realm from a) ≤ 1508
  avps-most =
      let l : length a.label ≤ 128 = omega (arith, p.label-most) in
      omega (arith, halves-length, avp-most 263 a.session p.session-most, avp-most 258 (in32 1) (short 1), avp-most 264 host s.host-fits.most, avp-most 296 realm s.realm-fits.most, avp-most 283 from.origin_realm s.from-realm-fits.most, avp-most 274 (in32 2) (short 2), avp-most 293 from.origin_host s.from-host-fits.most, avp-most 1 a.user p.user-most, vendor-most 311 (in32 0) (short 0), visited-most a.visited p.visited-most, vendor-most 100 a.label l)

  length-is : length (request host realm from a hop end) ≡ 20 + length (request_avps host realm from a)
  unfolding request in24 in32
  length-is = omega arith

  size_is : net24 (request host realm from a hop end) 1 ≡ 20 + length (request_avps host realm from a)
  unfolding request in24 in32 net24
  size_is = omega (arith, avps-most)

  version-is : get_or (request host realm from a hop end) 0 0 ≡ 1
  unfolding request in24 in32
  version-is = refl

  flags-are : get_or (request host realm from a hop end) 4 0 ≡ 192
  unfolding request in24 in32
  flags-are = refl

  no-number-of : message_number (request host realm from a hop end) ≡ 0
  no-number-of =
      let m : List ℕ = request host realm from a hop end in
      number-none m (omega (arith, length-is)) (omega (arith, length-is, avps-most)) version-is (size_is ∙ sym length-is)
      (rw length-is (both-four 20 (length (request_avps host realm from a)) refl avps-four)) (rw flags-are (omega arith))

pub no_number : NoNumber
no_number host realm from a hop end s = no-number-of host realm from a hop end s (parts a s.access-fits)
