-- The theorem of specs/TheGatewaysRules: the walk reads the seven AVPs as they were laid out, and each passes its test.
use mathlib.Core.Path.{◌≡◌, refl, sym, ap, ◌∙◌}
use mathlib.Core.Bool.{true}
use mathlib.Core.List.{List, [], ◌∷◌}
use Prim.Native.Nat.{ℕ, ◌+◌, ◌%◌, ◌≤◌}
use native.Mathlib.Omega.{arith}
use borrow.Author.Tests.{eq-eqb, le-leb}
use lib.Dec.{eqb}
use lib.ListN.{length, get_or, length-append}
use Rattle.octets.specs.Choice.{pick, require, first_of, within}
use Rattle.octets.specs.Lists.{keep}
use Rattle.octets.specs.Numbers.{net24, net32, in24, in32}
use Rattle.octets.specs.Texts.{same}
use Rattle.octets.proofs.Lists.{same_refl}
use Rattle.message.specs.ReadingAMessage.{Avp, Walk, anything, avps, base, behind, each_code, field_code, first_value, for_both, having, is_one_of, codes_of_aa_request, codes_of_termination, known, known_avps, named_in01, number_field, number_in, request_walk, same_name, starts_with, stopped, stopped_in, supported, tested_as, text_field, value_of, walk, walk_code}
use Rattle.message.specs.Codes.{plain}
use Rattle.message.specs.WritingTheAnswer.{avp_bytes}
use Rattle.message.proofs.Heads.{number-none}
use Rattle.message.proofs.Walks.{walks-agree}
use Rattle.answers.proofs.Writing.{avp-most}
use Rattle.abort.specs.TheDisconnection.{header}
use Rattle.abort.specs.TheDisconnectionsRules.{sent}
use Rattle.abort.proofs.Laid.{avp-four, avp-read, both-four, last-read, body-read}
use Rattle.gateway.specs.TheGateway.{Texts, call_number, fields, header_code, list_code, reading_code, reauthorize, replied, request, texts_of}
use Rattle.gatewaylaws.specs.TheGatewaysRules.{Fit, GoesOn, LaidOutNoNumber, ReadAsLaidOut, re_auth_avps, re_auth_request}

-- the seven as they are read
sent_avps : Texts → List Avp
sent_avps t =
    sent 263 t.session
    ∷ sent 258 (in32 1)
    ∷ sent 264 t.origin_host
    ∷ sent 296 t.origin_realm
    ∷ sent 283 t.destination_realm
    ∷ sent 293 t.destination_host
    ∷ sent 285 (in32 0)
    ∷ []

-- THE WALK

pub short : (n : ℕ) → length (in32 n) ≤ 128
unfolding in32
short n = omega arith

walked : (t : Texts) → Fit t → walk (re_auth_avps t) ≡ record { avps = sent_avps t; code = 0 }
unfolding re_auth_avps sent_avps behind
walked t f =
    avp-read 263 t.session _ (omega arith) f.session.most
    ∙ ap (behind (sent 263 t.session))
    (avp-read 258 (in32 1) _ (omega arith) (short 1)
    ∙ ap (behind (sent 258 (in32 1)))
    (avp-read 264 t.origin_host _ (omega arith) f.origin_host.most
    ∙ ap (behind (sent 264 t.origin_host))
    (avp-read 296 t.origin_realm _ (omega arith) f.origin_realm.most
    ∙ ap (behind (sent 296 t.origin_realm))
    (avp-read 283 t.destination_realm _ (omega arith) f.destination_realm.most
    ∙ ap (behind (sent 283 t.destination_realm))
    (avp-read 293 t.destination_host _ (omega arith) f.destination_host.most
    ∙ ap (behind (sent 293 t.destination_host)) (last-read 285 (in32 0) (omega arith) (short 0)))))))

-- one that is known is supported
pub supports : (code : ℕ) (v : List ℕ) → known (base code) ≡ true → supported (sent code v) ≡ true
unfolding supported sent
supports code v k = rw k

seven-known : (known (base 263) ≡ true) × (known (base 258) ≡ true) × (known (base 264) ≡ true) × (known (base 296) ≡ true) × (known (base 283) ≡ true) × (known (base 293) ≡ true) × (known (base 285) ≡ true)
unfolding known known_avps named_in01 codes_of_aa_request codes_of_termination is_one_of same_name
seven-known = (refl, refl, refl, refl, refl, refl, refl)

none-stops : (t : Texts) → stopped (record { avps = sent_avps t; code = 0 }) ≡ record { avps = sent_avps t; code = 0 }
unfolding stopped stopped_in sent_avps behind pick
none-stops t =
    let s = seven-known in
    rw (supports 263 t.session s.0, supports 258 (in32 1) s.1, supports 264 t.origin_host s.2, supports 296 t.origin_realm s.3, supports 283 t.destination_realm s.4, supports 293 t.destination_host s.5, supports 285 (in32 0) s.6)

request-walked : (t : Texts) → Fit t → request_walk (re_auth_avps t) ≡ record { avps = sent_avps t; code = 0 }
request-walked t f = walks-agree (re_auth_avps t) ∙ ap stopped (walked t f) ∙ none-stops t

module _ (t : Texts) (hop end : ℕ) (f : Fit t) where
  avps-are : avps (re_auth_request t hop end) ≡ sent_avps t
  unfolding avps re_auth_request
  avps-are =
      ap (λ (s : List ℕ). (request_walk s).avps) (body-read (20 + length (re_auth_avps t)) 192 258 hop end (re_auth_avps t))
      ∙ ap (λ (w : Walk). w.avps) (request-walked t f)

  walk-passes : walk_code (re_auth_request t hop end) ≡ 0
  unfolding walk_code re_auth_request
  walk-passes =
      ap (λ (s : List ℕ). (request_walk s).code) (body-read (20 + length (re_auth_avps t)) 192 258 hop end (re_auth_avps t))
      ∙ ap (λ (w : Walk). w.code) (request-walked t f)

  -- THE TESTS

  header-passes : header_code (re_auth_request t hop end) ≡ 0
  unfolding header_code re_auth_request header net24 net32 in24 in32 first_of require pick
  header-passes = refl

  list-passes : list_code (sent_avps t) ≡ 0
  unfolding list_code fields for_both text_field number_field number_in anything field_code tested_as each_code having keep same_name sent_avps sent starts_with first_of require pick within net32 in32
  list-passes =
      rw (le-leb 1 (length t.session) f.session.least, le-leb (length t.session) 128 f.session.most, le-leb 1 (length t.origin_host) f.origin_host.least, le-leb (length t.origin_host) 128 f.origin_host.most, le-leb 1 (length t.origin_realm) f.origin_realm.least, le-leb (length t.origin_realm) 128 f.origin_realm.most, le-leb 1 (length t.destination_realm) f.destination_realm.least, le-leb (length t.destination_realm) 128 f.destination_realm.most, le-leb 1 (length t.destination_host) f.destination_host.least, le-leb (length t.destination_host) 128 f.destination_host.most)

  session-same : same (value_of (base 263) (sent_avps t)) t.session ≡ true
  unfolding value_of first_value having keep same_name sent_avps sent pick
  session-same = same_refl t.session

  texts-are : texts_of (sent_avps t) ≡ t
  unfolding texts_of value_of first_value having keep same_name sent_avps sent pick
  texts-are = refl

  reading-passes : reading_code t.session (re_auth_request t hop end) ≡ 0
  unfolding reading_code require first_of pick
  reading-passes = rw (header-passes, walk-passes, avps-are) (rw (list-passes, session-same))

pub read-as-laid-out : ReadAsLaidOut
read-as-laid-out t hop end f = (reading-passes t hop end f, ap texts_of (avps-are t hop end f) ∙ texts-are t hop end f)

-- ITS LENGTH

module _ (t : Texts) (hop end : ℕ) (f : Fit t) where
  pieces-length : length (re_auth_avps t)
      ≡ length (avp_bytes 263 t.session) + (length (avp_bytes 258 (in32 1)) + (length (avp_bytes 264 t.origin_host) + (length (avp_bytes 296 t.origin_realm) + (length (avp_bytes 283 t.destination_realm) + (length (avp_bytes 293 t.destination_host) + length (avp_bytes 285 (in32 0)))))))
  unfolding re_auth_avps
  pieces-length = simp length-append

  by-fours : length (re_auth_avps t) % 4 ≡ 0
  by-fours =
      rw pieces-length
      (both-four _ _ (avp-four 263 t.session) (both-four _ _ (avp-four 258 (in32 1)) (both-four _ _ (avp-four 264 t.origin_host) (both-four _ _ (avp-four 296 t.origin_realm) (both-four _ _ (avp-four 283 t.destination_realm) (both-four _ _ (avp-four 293 t.destination_host) (avp-four 285 (in32 0))))))))

  not-long : length (re_auth_avps t) ≤ 952
  not-long =
      omega (arith, pieces-length, avp-most 263 t.session f.session.most, avp-most 258 (in32 1) (short 1), avp-most 264 t.origin_host f.origin_host.most, avp-most 296 t.origin_realm f.origin_realm.most, avp-most 283 t.destination_realm f.destination_realm.most, avp-most 293 t.destination_host f.destination_host.most, avp-most 285 (in32 0) (short 0))

  length-is : length (re_auth_request t hop end) ≡ 20 + length (re_auth_avps t)
  unfolding re_auth_request header in24 in32
  length-is = omega arith

  size_is : net24 (re_auth_request t hop end) 1 ≡ 20 + length (re_auth_avps t)
  unfolding re_auth_request header in24 in32 net24
  size_is = omega (arith, not-long)

  version-is : get_or (re_auth_request t hop end) 0 0 ≡ 1
  unfolding re_auth_request header in24 in32
  version-is = refl

  flags-are : get_or (re_auth_request t hop end) 4 0 ≡ 192
  unfolding re_auth_request header in24 in32
  flags-are = refl

pub laid-out-no-number : LaidOutNoNumber
laid-out-no-number t hop end f =
    number-none (re_auth_request t hop end) (omega (arith, length-is t hop end f)) (omega (arith, length-is t hop end f, not-long t hop end f)) (version-is t hop end f)
    (size_is t hop end f ∙ sym (length-is t hop end f)) (rw (length-is t hop end f) (both-four 20 (length (re_auth_avps t)) refl (by-fours t hop end f))) (rw (flags-are t hop end f) (omega arith))

-- THE CALL

pub goes_on : GoesOn
unfolding reauthorize pick
goes_on c t hop end f n m s =
    let none : eqb (call_number c) 0 ≡ true = eq-eqb (call_number c) 0 n in
    let read : reading_code c.access.session c.message ≡ 0 = ap (λ (x : List ℕ). reading_code x c.message) s ∙ ap (reading_code t.session) m ∙ reading-passes t hop end f in
    let passes : eqb (reading_code c.access.session c.message) 0 ≡ true = eq-eqb (reading_code c.access.session c.message) 0 read in
    let texts : texts_of (avps c.message) ≡ t = ap (λ (x : List ℕ). texts_of (avps x)) m ∙ (read-as-laid-out t hop end f).1 in
    rw (none, passes) (ap (λ (x : Texts). replied c (plain 2001) (request c.host c.realm x c.access c.hop c.end)) texts)
