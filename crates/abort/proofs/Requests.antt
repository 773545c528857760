-- What a call of `write` finds and leaves: its numbers, a law for each way out of the tests; the texts lent; the request in the room.
use mathlib.Core.Path.{◌≡◌, refl, sym, ap, ◌∙◌}
use mathlib.Core.Bool.{true, false, ◌&&◌}
use mathlib.Core.List.{List, [], ◌++◌, append-nil}
use Prim.Native.Nat.{ℕ, ◌+◌, ◌-◌, ◌≤◌, ◌<◌}
use native.Mathlib.Omega.{arith}
use borrow.Author.Tests.{leb-true, le-leb, lt-leb, ne_eqb}
use lib.Dec.{leb}
use lib.ListN.{length, take, drop, length-append}
use Rattle.octets.specs.Choice.{pick, require, first_of, within}
use Rattle.octets.specs.Texts.{put}
use Rattle.octets.specs.Numbers.{in24, in32}
use Rattle.octets.proofs.Lists.{and_left, and_right, within-high}
use Rattle.octets.proofs.Choice.{first_passes, others-pass, passed}
use Rattle.octets.proofs.Texts.{length_part}
use Rattle.message.specs.TheRooms.{long_notice}
use Rattle.message.specs.WritingTheAnswer.{avp_bytes}
use Rattle.answers.specs.Answers.{Written as WrittenTo}
use Rattle.answers.proofs.Writing.{length-number, avp-most, written-nothing, written-seven, head-put}
use Rattle.abort.specs.TheDisconnection.{abort_least, Cut, abort_number, Abort, abort_of, abort_avps, header, abort_request, write_abort}
use Rattle.abort.specs.Code.{cut_of, saying, leaves, Short, Sent}

-- THE NUMBERS

module _ (host realm : List ℕ) (c : Cut) (room : List ℕ) where
  pub number-host : within 1 128 (length host) ≡ false → abort_number host realm c room ≡ 2
  unfolding abort_number first_of require pick
  number-host h = rw h

  module _ (h : within 1 128 (length host) ≡ true) where
    pub number-realm : within 1 128 (length realm) ≡ false → abort_number host realm c room ≡ 2
    unfolding abort_number first_of require pick
    number-realm r = rw (h, r)

    module _ (r : within 1 128 (length realm) ≡ true) where
      pub number-notice : length c.notice < long_notice → abort_number host realm c room ≡ 4
      unfolding abort_number first_of require pick
      number-notice n = rw (h, r, lt-leb long_notice (length c.notice) n)

      module _ (n : long_notice ≤ length c.notice) where
        pub number-session : within 1 128 c.cut_session ≡ false → abort_number host realm c room ≡ 22
        unfolding abort_number first_of require pick
        number-session s = rw (h, r, le-leb long_notice (length c.notice) n, s)

        module _ (s : within 1 128 c.cut_session ≡ true) where
          pub number-gateway : within 1 128 c.cut_host ≡ false → abort_number host realm c room ≡ 22
          unfolding abort_number first_of require pick
          number-gateway g = rw (h, r, le-leb long_notice (length c.notice) n, s, g)

          module _ (g : within 1 128 c.cut_host ≡ true) where
            pub number-gateway-realm : within 1 128 c.cut_realm ≡ false → abort_number host realm c room ≡ 22
            unfolding abort_number first_of require pick
            number-gateway-realm q = rw (h, r, le-leb long_notice (length c.notice) n, s, g, q)

            module _ (q : within 1 128 c.cut_realm ≡ true) where
              pub number-room : length room < abort_least → abort_number host realm c room ≡ 23
              unfolding abort_number first_of require pick
              number-room l = rw (h, r, le-leb long_notice (length c.notice) n, s, g, q, lt-leb abort_least (length room) l)

              pub number-none : abort_least ≤ length room → abort_number host realm c room ≡ 0
              unfolding abort_number first_of require pick
              number-none l = rw (h, r, le-leb long_notice (length c.notice) n, s, g, q, le-leb abort_least (length room) l)

-- what a call that passes has
pub record Allowed (host realm : List ℕ) (c : Cut) (room : List ℕ) : Type 0 where
  pub host-fits : length host ≤ 128
  pub realm-fits : length realm ≤ 128
  pub notice-fits : long_notice ≤ length c.notice
  pub session-fits : c.cut_session ≤ 128
  pub gateway-host-fits : c.cut_host ≤ 128
  pub gateway-realm-fits : c.cut_realm ≤ 128
  pub room_fits : abort_least ≤ length room

pub allowed : (host realm : List ℕ) (c : Cut) (room : List ℕ) → abort_number host realm c room ≡ 0 → Allowed host realm c room
unfolding abort_number
allowed host realm c room e =
    let names = within 1 128 (length host) && within 1 128 (length realm) in
    let cuts = within 1 128 c.cut_host && within 1 128 c.cut_realm in
    let lengths = within 1 128 c.cut_session && cuts in
    let e1 = others-pass (require names 2) _ e in
    let e2 = others-pass (require (leb long_notice (length c.notice)) 4) _ e1 in
    let e3 = others-pass (require lengths 22) _ e2 in
    let n : names ≡ true = passed names 2 (omega arith) (first_passes (require names 2) _ e) in
    let l : lengths ≡ true = passed lengths 22 (omega arith) (first_passes (require lengths 22) _ e2) in
    let k : cuts ≡ true = and_right (within 1 128 c.cut_session) cuts l in
    record {
      host-fits = within-high 1 128 (length host) (and_left (within 1 128 (length host)) (within 1 128 (length realm)) n);
      realm-fits = within-high 1 128 (length realm) (and_right (within 1 128 (length host)) (within 1 128 (length realm)) n);
      notice-fits = leb-true long_notice (length c.notice) (passed (leb long_notice (length c.notice)) 4 (omega arith) (first_passes (require (leb long_notice (length c.notice)) 4) _ e1));
      session-fits = within-high 1 128 c.cut_session (and_left (within 1 128 c.cut_session) cuts l);
      gateway-host-fits = within-high 1 128 c.cut_host (and_left (within 1 128 c.cut_host) (within 1 128 c.cut_realm) k);
      gateway-realm-fits = within-high 1 128 c.cut_realm (and_right (within 1 128 c.cut_host) (within 1 128 c.cut_realm) k);
      room_fits = leb-true abort_least (length room) (passed (leb abort_least (length room)) 23 (omega arith) (first_passes (require (leb abort_least (length room)) 23) _ e3));
    }

-- THE TEXTS

pub short : (host realm : List ℕ) (c : Cut) (hop end : ℕ) (room : List ℕ) → Allowed host realm c room → Short (abort_of host realm c hop end)
unfolding abort_of
short host realm c hop end room a =
    record {
      host-fits = a.host-fits;
      realm-fits = a.realm-fits;
      session-fits = omega (arith, a.session-fits, length_part c.notice 0 c.cut_session (omega (arith, a.session-fits, a.notice-fits)));
      gateway-host-fits = omega (arith, a.gateway-host-fits, length_part c.notice 128 c.cut_host (omega (arith, a.gateway-host-fits, a.notice-fits)));
      gateway-realm-fits = omega (arith, a.gateway-realm-fits, length_part c.notice 256 c.cut_realm (omega (arith, a.gateway-realm-fits, a.notice-fits)));
    }

-- what the texts say as they are lent
pub says-lent : (host realm notice : List ℕ) (cut_session cut_host cut_realm hop end : ℕ)
    → saying host realm (take (cut_session - 0) (drop 0 notice)) (take (128 + cut_host - 128) (drop 128 notice)) (take (256 + cut_realm - 256) (drop 256 notice)) hop end
    ≡ abort_of host realm (cut_of notice cut_session cut_host cut_realm) hop end
unfolding abort_of
says-lent host realm notice s g r hop end =
    let p : s - 0 ≡ s = omega arith in
    let q : 128 + g - 128 ≡ g = omega arith in
    let t : 256 + r - 256 ≡ r = omega arith in
    rw (p, q, t)

pub short-same : (a b : Abort) → a ≡ b → Short b → Short a
short-same a b e s = rw e s

pub sent-same : (a b : Abort) (size : ℕ) (before after : List ℕ) → a ≡ b → Sent a size before after → Sent b size before after
sent-same a b size before after e s = rw e at s

-- THE REQUEST

pub length-header : (n flags command hop end : ℕ) → length (header n flags command hop end) ≡ 20
unfolding header in24 in32
length-header n flags command hop end = refl

pub length-avps : (a : Abort)
    → length (abort_avps a)
    ≡ length (avp_bytes 263 a.session) + (length (avp_bytes 264 a.host) + (length (avp_bytes 296 a.realm) + (length (avp_bytes 283 a.gateway_realm) + (length (avp_bytes 293 a.gateway_host) + length (avp_bytes 258 (in32 1))))))
unfolding abort_avps
length-avps a = simp length-append

pub avps-most : (a : Abort) → Short a → length (abort_avps a) ≤ 692
avps-most a s =
    omega
    (arith, length-avps a, avp-most 263 a.session s.session-fits, avp-most 264 a.host s.host-fits, avp-most 296 a.realm s.realm-fits, avp-most 283 a.gateway_realm s.gateway-realm-fits, avp-most 293 a.gateway_host s.gateway-host-fits, length-number 258 1)

pub length-request : (a : Abort) → length (abort_request a) ≡ 20 + length (abort_avps a)
unfolding abort_request
length-request a =
    length-append (header (20 + length (abort_avps a)) 192 274 a.hop a.end) (abort_avps a)
    ∙ rw (length-header (20 + length (abort_avps a)) 192 274 a.hop a.end)

-- six writes, one behind the other
pub written-six : (a : Abort) (d0 d1 d2 d3 d4 d5 d6 : List ℕ) (p1 p2 p3 p4 p5 p6 : ℕ) → Short a → abort_least ≤ length d0
    → WrittenTo d0 d1 20 p1 (avp_bytes 263 a.session) → WrittenTo d1 d2 p1 p2 (avp_bytes 264 a.host) → WrittenTo d2 d3 p2 p3 (avp_bytes 296 a.realm)
    → WrittenTo d3 d4 p3 p4 (avp_bytes 283 a.gateway_realm) → WrittenTo d4 d5 p4 p5 (avp_bytes 293 a.gateway_host) → WrittenTo d5 d6 p5 p6 (avp_bytes 258 (in32 1))
    → WrittenTo d0 d6 20 p6 (abort_avps a)
unfolding abort_avps
written-six a d0 d1 d2 d3 d4 d5 d6 p1 p2 p3 p4 p5 p6 s h w1 w2 w3 w4 w5 w6 =
    let all =
    written-seven d0 d1 d2 d3 d4 d5 d6 d6 20 p1 p2 p3 p4 p5 p6 p6
    (avp_bytes 263 a.session) (avp_bytes 264 a.host) (avp_bytes 296 a.realm) (avp_bytes 283 a.gateway_realm) (avp_bytes 293 a.gateway_host) (avp_bytes 258 (in32 1)) []
    w1 w2 w3 w4 w5 w6 (written-nothing d6 p6)
    (omega (arith, length-avps a, avps-most a s)) in
    rw (append-nil (avp_bytes 258 (in32 1))) at all

-- the header in front of them
pub request-put : (a : Abort) (before after last : List ℕ) (size : ℕ) → Short a → abort_least ≤ length before → WrittenTo before after 20 size (abort_avps a)
    → last ≡ put after 0 (header size 192 274 a.hop a.end) → Sent a size before last
unfolding abort_request
request-put a before after last size s h w e =
    let n : size ≡ 20 + length (abort_avps a) = w.place in
    let r : put after 0 (header size 192 274 a.hop a.end)
    ≡ header size 192 274 a.hop a.end ++ abort_avps a ++ drop (length (header size 192 274 a.hop a.end ++ abort_avps a)) before =
    rw w.bytes-put (head-put before (header size 192 274 a.hop a.end) (abort_avps a) (length-header size 192 274 a.hop a.end) (omega (arith, avps-most a s))) in
    record {
      length-is = n ∙ sym (length-request a);
      room-is = e ∙ r ∙ ap (λ (x : ℕ). header x 192 274 a.hop a.end ++ abort_avps a ++ drop (length (header x 192 274 a.hop a.end ++ abort_avps a)) before) n;
    }

-- WHAT A CALL LEAVES

module _ (host realm : List ℕ) (c : Cut) (hop end : ℕ) (room : List ℕ) where
  pub write-refused : (n : ℕ) → n ≡ abort_number host realm c room → (n ≡ 0 → ⊥) → leaves (record { number = n; length = 0 }) room ≡ write_abort host realm c hop end room
  unfolding leaves write_abort pick
  write-refused n e h = rw (← e, ne_eqb n 0 h)

  pub write-sent : (size : ℕ) (after : List ℕ) → abort_number host realm c room ≡ 0 → Sent (abort_of host realm c hop end) size room after
      → leaves (record { number = 0; length = size }) after ≡ write_abort host realm c hop end room
  unfolding leaves write_abort pick
  write-sent size after e s = rw (e, s.length-is, s.room-is)
