-- The theorems of specs/TheDisconnectionsRules.
use mathlib.Core.Path.{◌≡◌, refl, sym, ap, ◌∙◌}
use mathlib.Core.Bool.{true, ◌&&◌}
use mathlib.Core.List.{List, [], ◌∷◌, ◌++◌}
use Prim.Native.Nat.{ℕ, ◌+◌, ◌%◌, ◌≤◌, ◌<◌}
use native.Mathlib.Omega.{arith}
use borrow.Author.Tests.{eqb-true, eq-eqb}
use lib.Dec.{eqb}
use lib.ListN.{length, drop, length-append}
use lib.Seq.{take_at}
use Rattle.octets.specs.Choice.{pick}
use Rattle.octets.specs.Lists.{keep}
use Rattle.octets.specs.Numbers.{net24, net32, in32}
use Rattle.octets.specs.Texts.{same}
use Rattle.octets.proofs.Lists.{by-test, and_left, and_right, both, same_refl, same-eq}
use Rattle.message.specs.CallsThatGetNoAnswer.{message_number}
use Rattle.message.specs.ReadingAMessage.{same_name, session_id, Walk, behind, walk, command, body, having, first_value, value_of, starts_with}
use Rattle.message.specs.WritingTheAnswer.{avp_bytes}
use Rattle.message.proofs.Heads.{number-answer}
use Rattle.answers.proofs.Writing.{length-number, avp-most}
use Rattle.abort.specs.TheDisconnection.{Cut, abort_number, Abort, abort_of, abort_avps, header, abort_request, Left, write_abort, answers_to, once, answers_for, belongs}
use Rattle.abort.specs.Code.{leaves, Short}
use Rattle.abort.specs.declared.Written.{Written}
use Rattle.abort.specs.TheDisconnectionsRules.{written, sent, sent_avps, ReadAsWritten, TrueLength, answer_avps, abort_answer, AnswerBelongs, NoOthers, OneWriting, OneVerdict}
use Rattle.abort.proofs.Requests.{allowed, short, length-avps, avps-most, length-header, length-request}
use Rattle.abort.proofs.Laid.{avp-read, last-read, version-read, flags-are, size-read, command-read, hop-read, end_read, body-read, avp-four, both-four}

-- WHAT WAS WRITTEN

module _ (host realm : List ℕ) (c : Cut) (hop end : ℕ) (room : List ℕ) (e : abort_number host realm c room ≡ 0) where
  size_is : (write_abort host realm c hop end room).size ≡ length (abort_request (abort_of host realm c hop end))
  unfolding write_abort pick
  size_is = rw e

  written_is : written (write_abort host realm c hop end room) ≡ abort_request (abort_of host realm c hop end)
  unfolding written write_abort pick
  written_is =
      rw e
      (take_at (abort_request (abort_of host realm c hop end)) (drop (length (abort_request (abort_of host realm c hop end))) room)
      (length (abort_request (abort_of host realm c hop end))) refl)

  is-short : Short (abort_of host realm c hop end)
  is-short = short host realm c hop end room (allowed host realm c room e)

avps-read : (a : Abort) → Short a → walk (abort_avps a) ≡ record { avps = sent_avps a; code = 0 }
unfolding abort_avps sent_avps behind in32
avps-read a s =
    avp-read 263 a.session _ (omega arith) s.session-fits
    ∙ ap (behind (sent 263 a.session))
    (avp-read 264 a.host _ (omega arith) s.host-fits
    ∙ ap (behind (sent 264 a.host))
    (avp-read 296 a.realm _ (omega arith) s.realm-fits
    ∙ ap (behind (sent 296 a.realm))
    (avp-read 283 a.gateway_realm _ (omega arith) s.gateway-realm-fits
    ∙ ap (behind (sent 283 a.gateway_realm))
    (avp-read 293 a.gateway_host _ (omega arith) s.gateway-host-fits
    ∙ ap (behind (sent 293 a.gateway_host)) (last-read 258 (in32 1) (omega arith) (omega arith))))))

pub read-as-written : ReadAsWritten
unfolding abort_request
read-as-written host realm c hop end room e =
    let a : Abort = abort_of host realm c hop end in
    ap (λ (m : List ℕ). walk (body m)) (written_is host realm c hop end room e)
    ∙ ap (λ (s : List ℕ). walk s) (body-read (20 + length (abort_avps a)) 192 274 a.hop a.end (abort_avps a))
    ∙ avps-read a (is-short host realm c hop end room e)

-- ITS LENGTH

pub true-length : TrueLength
unfolding abort_request
true-length host realm c hop end room e =
    let a : Abort = abort_of host realm c hop end in
    let w = written_is host realm c hop end room e in
    let z = size_is host realm c hop end room e in
    let n : length (abort_request a) ≡ 20 + length (abort_avps a) = length-request a in
    let most : length (abort_avps a) ≤ 692 = avps-most a (is-short host realm c hop end room e) in
    let four : length (abort_avps a) % 4 ≡ 0 =
    rw (length-avps a)
    (both-four _ _ (avp-four 263 a.session)
    (both-four _ _ (avp-four 264 a.host)
    (both-four _ _ (avp-four 296 a.realm)
    (both-four _ _ (avp-four 283 a.gateway_realm) (both-four _ _ (avp-four 293 a.gateway_host) (avp-four 258 (in32 1))))))) in (
      ap (λ (m : List ℕ). net24 m 1) w ∙ size-read (20 + length (abort_avps a)) 192 274 a.hop a.end (abort_avps a) (omega arith) ∙ sym n ∙ sym z,
      ap length w ∙ sym z,
      omega (arith, z, n, four),
      omega (arith, z, n, most),
    )

-- THE GATEWAY'S ANSWER

module _ (code : ℕ) (a : Abort) (s : Short a) where
  answer-length : length (abort_answer code a) ≡ 20 + length (answer_avps code a)
  unfolding abort_answer
  answer-length =
      length-append (header (20 + length (answer_avps code a)) 64 274 a.hop a.end) (answer_avps code a)
      ∙ rw (length-header (20 + length (answer_avps code a)) 64 274 a.hop a.end)

  answer-parts : length (answer_avps code a)
      ≡ length (avp_bytes 263 a.session) + (length (avp_bytes 268 (in32 code)) + (length (avp_bytes 264 a.gateway_host) + length (avp_bytes 296 a.gateway_realm)))
  unfolding answer_avps
  answer-parts = simp length-append

  answer-most : length (answer_avps code a) ≤ 420
  answer-most =
      omega
      (arith, answer-parts, length-number 268 code, avp-most 263 a.session s.session-fits, avp-most 264 a.gateway_host s.gateway-host-fits, avp-most 296 a.gateway_realm s.gateway-realm-fits)

  answer-four : length (answer_avps code a) % 4 ≡ 0
  answer-four = omega (arith, answer-parts, avp-four 268 (in32 code), avp-four 263 a.session, avp-four 264 a.gateway_host, avp-four 296 a.gateway_realm)

  answer-number : message_number (abort_answer code a) ≡ 8
  unfolding abort_answer
  answer-number =
      let n : ℕ = 20 + length (answer_avps code a) in
      let m : List ℕ = header n 64 274 a.hop a.end ++ answer_avps code a in
      let l : length m ≡ n = answer-length in
      number-answer m (omega (arith, l)) (omega (arith, l, answer-most)) (version-read n 64 274 a.hop a.end (answer_avps code a))
      (size-read n 64 274 a.hop a.end (answer_avps code a) (omega (arith, answer-most)) ∙ sym l)
      (omega (arith, l, answer-four))
      (omega (arith, flags-are n 64 274 a.hop a.end (answer_avps code a)))

  answer-read : walk (body (abort_answer code a))
      ≡ record { avps = sent 263 a.session ∷ sent 268 (in32 code) ∷ sent 264 a.gateway_host ∷ sent 296 a.gateway_realm ∷ []; code = 0 }
  unfolding abort_answer answer_avps behind in32
  answer-read =
      ap (λ (t : List ℕ). walk t) (body-read (20 + length (answer_avps code a)) 64 274 a.hop a.end (answer_avps code a))
      ∙ avp-read 263 a.session _ (omega arith) s.session-fits
      ∙ ap (behind (sent 263 a.session))
      (avp-read 268 (in32 code) _ (omega arith) (omega arith)
      ∙ ap (behind (sent 268 (in32 code)))
      (avp-read 264 a.gateway_host _ (omega arith) s.gateway-host-fits
      ∙ ap (behind (sent 264 a.gateway_host)) (last-read 296 a.gateway_realm (omega arith) s.gateway-realm-fits)))

  answer-for : answers_for a.session (walk (body (abort_answer code a))) ≡ true
  unfolding answers_for starts_with once value_of first_value having keep pick same_name sent in32
  answer-for = rw (answer-read, same_refl a.session)

  answer-to : a.hop < 4294967296 → a.end < 4294967296 → answers_to a.hop a.end (abort_answer code a) ≡ true
  unfolding answers_to abort_answer
  answer-to h k =
      let n : ℕ = 20 + length (answer_avps code a) in
      both (eq-eqb (message_number (abort_answer code a)) 8 answer-number)
      (both (eq-eqb (command (abort_answer code a)) 274 (command-read n 64 274 a.hop a.end (answer_avps code a) (omega arith)))
      (both (eq-eqb (net32 (abort_answer code a) 12) a.hop (hop-read n 64 274 a.hop a.end (answer_avps code a) h))
      (eq-eqb (net32 (abort_answer code a) 16) a.end (end_read n 64 274 a.hop a.end (answer_avps code a) k))))

pub answer-belongs : AnswerBelongs
unfolding belongs
answer-belongs code a s h k = both (answer-to code a s h k) (answer-for code a s)

-- NO OTHER REQUEST'S

-- what an answer that belongs has
record Told (answer session : List ℕ) (hop end : ℕ) : Type 0 where
  pub session-is : value_of session_id (walk (body answer)).avps ≡ session
  pub hop-is : net32 answer 12 ≡ hop
  pub end_is : net32 answer 16 ≡ end

told : (answer session : List ℕ) (hop end : ℕ) → belongs answer session hop end ≡ true → Told answer session hop end
unfolding belongs answers_to answers_for
told answer session hop end e =
    let w : Walk = walk (body answer) in
    let t = and_left (eqb (message_number answer) 8 && (eqb (command answer) 274 && (eqb (net32 answer 12) hop && eqb (net32 answer 16) end))) _ e in
    let i : eqb (net32 answer 12) hop && eqb (net32 answer 16) end ≡ true = and_right (eqb (command answer) 274) _ (and_right (eqb (message_number answer) 8) _ t) in
    let f = and_right (eqb (message_number answer) 8 && (eqb (command answer) 274 && (eqb (net32 answer 12) hop && eqb (net32 answer 16) end))) _ e in
    let v = and_right (once session_id w.avps) _ (and_right (starts_with session_id w.avps) _ (and_right (eqb w.code 0) _ f)) in
    record {
      session-is = same-eq (value_of session_id w.avps) session (and_left (same (value_of session_id w.avps) session) _ v);
      hop-is = eqb-true (net32 answer 12) hop (and_left (eqb (net32 answer 12) hop) _ i);
      end_is = eqb-true (net32 answer 16) end (and_right (eqb (net32 answer 12) hop) _ i);
    }

pub no-others : NoOthers
no-others answer session other hop end hop2 end2 e d =
    by-test (belongs answer other hop2 end2)
    (λ f.
    let p = told answer session hop end e in
    let q = told answer other hop2 end2 f in
    absurd (d (sym p.session-is ∙ q.session-is, sym p.hop-is ∙ q.hop-is, sym p.end_is ∙ q.end_is)))
    (λ f. f)

-- NO SECOND ANSWER

-- number and length, read back from what was left
abbrev written_back : Left → Written
written_back l = record { number = l.number; length = l.size }

one_left : (w v : Written) (r q : List ℕ) → leaves w r ≡ leaves v q → (w ≡ v) × (r ≡ q)
unfolding leaves
one_left w v r q e = (ap written_back e, ap (λ (l : Left). l.room) e)

pub one-writing : OneWriting
one-writing host realm c hop end room w v r q d e = one_left w v r q (d ∙ sym e)

pub one-verdict : OneVerdict
one-verdict answer session hop end b c d e = d ∙ sym e
