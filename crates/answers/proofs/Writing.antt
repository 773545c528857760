-- The answer's parts, each a write behind the one before, and what they come to.
use mathlib.Core.Path.{◌≡◌, refl, sym, ap, ◌∙◌}
use mathlib.Core.Bool.{Bool, true, false, ◌&&◌, not}
use mathlib.Core.List.{List, [], ◌++◌, append_assoc, append-nil}
use Prim.Native.Nat.{ℕ, zero, suc, ◌+◌, ◌-◌, ◌≤◌}
use native.Mathlib.Omega.{arith}
use borrow.Author.Tests.{eqb-true, eq-eqb, ne_eqb}
use lib.Dec.{eqb}
use lib.ListN.{length, take, drop, replicate, length-append, length-drop, length-replicate, replicate-append-replicate}
use lib.Seq.{drop_at, take-append-le, drop-append-le, drop-append-add, take-take, length-take-le}
use Rattle.octets.specs.Choice.{pick, within}
use Rattle.octets.specs.Lists.{keep}
use Rattle.octets.specs.Texts.{part, zeros, put}
use Rattle.octets.specs.Numbers.{in24, in32, up4}
use Rattle.octets.proofs.Lists.{by-test, and_left, and_right, within-high}
use Rattle.octets.proofs.Texts.{length-zeros, length_part, length-put, put_then, put-nothing}
use Rattle.message.specs.TheRooms.{answer_least}
use Rattle.message.specs.Codes.{Code, none, plain, experimental, number_of}
use Rattle.message.specs.ReadingAMessage.{command, header_code, Name, same_name, behind, walk_one, walk_up_to, walk_by, avp_length, avp_code, avp_of, request_code, avps, walk_code, having, value_of, session_id, user_name, proxy_info}
use Rattle.message.specs.WritingTheAnswer.{avp_bytes, session_avp, is3xxx, auth_avps, result_avp, subscription_avp, all_bytes, proxy_avps, answer_body, answer_flags, answer, answer_room}
use Rattle.message.specs.declared.Span.{Span}
use Rattle.message.specs.declared.Kind.{Kind}
use Rattle.message.specs.declared.Kind.TheVariants.{NoAnswer, Plain, Experimental}
use Rattle.message.specs.Spans.{Holds}
use Rattle.message.specs.Kinds.{code_from}
use Rattle.message.specs.CallsThatGetNoAnswer.{message_most}
use Rattle.answers.specs.Answers.{head_bytes, answer_head, copied, Written, Answerable, Answered}
use Rattle.message.proofs.Walks.{Passed, passes, up4-least, request-four}

-- LENGTHS

pub length-avp : (code : ℕ) (v : List ℕ) → length (avp_bytes code v) ≡ 8 + up4 (length v)
unfolding avp_bytes in32 in24
length-avp code v = simp (length-append, length-zeros) (omega (arith, up4-least (length v)))

pub up4-most : (n : ℕ) → up4 n ≤ n + 3
unfolding up4
up4-most n = omega arith

pub length-number : (code n : ℕ) → length (avp_bytes code (in32 n)) ≡ 12
unfolding avp_bytes in32 in24 up4 zeros
length-number code n = refl

-- WRITES

drop-zeros : (k n : ℕ) → n ≤ k → drop (k - n) (zeros k) ≡ zeros n
unfolding zeros
drop-zeros k n h =
    let e : k - n + n ≡ k = omega arith in
    ap (λ (x : ℕ). drop (k - n) (replicate x 0)) (sym e)
    ∙ ap (drop (k - n)) (sym (replicate-append-replicate (k - n) n 0))
    ∙ drop_at (replicate (k - n) 0) (replicate n 0) (k - n) (length-replicate (k - n) 0)

pub written-nothing : (d : List ℕ) (at : ℕ) → Written d d at at []
written-nothing d at = record { place = omega arith; bytes-put = sym (put-nothing d at) }

pub written_none : (d : List ℕ) (at : ℕ) (s : List ℕ) → s ≡ [] → Written d d at at s
written_none d at s e = rw e (written-nothing d at)

-- one write behind another
pub written_then : (d e f : List ℕ) (at k n : ℕ) (a b : List ℕ) → Written d e at k a → Written e f k n b → at + length a ≤ length d → Written d f at n (a ++ b)
written_then d e f at k n a b p q h =
    record {
      place = q.place ∙ rw (p.place, length-append) (omega arith);
      bytes-put = q.bytes-put ∙ rw p.bytes-put (put_then d at a b k p.place h);
    }

-- bytes written over zeros that end behind them
pub over_zeros : (d : List ℕ) (at : ℕ) (s : List ℕ) (q k n : ℕ) → q + k ≡ at + length s + n → n ≤ k → at ≤ q → q + k ≤ length d
    → put (put d q (zeros k)) at s ≡ put d at (s ++ zeros n)
unfolding put
over_zeros d at s q k n e h l r =
    let f : List ℕ = take q d in
    let b : List ℕ = drop (q + length (zeros k)) d in
    let lf : length f ≡ q = length-take-le q d (omega arith) in
    let lz : length (zeros k) ≡ k = length-zeros k in
    let ln : length (s ++ zeros n) ≡ length s + n = length-append s (zeros n) ∙ rw (length-zeros n) in
    let front : take at (f ++ (zeros k ++ b)) ≡ take at d = take-append-le at f (zeros k ++ b) (omega (arith, lf)) ∙ take-take at q d l in
    let split : at + length s ≡ length f + (k - n) = omega (arith, lf) in
    let rest : drop (k - n) (zeros k) ≡ zeros n = drop-zeros k n h in
    let back : drop (at + length s) (f ++ (zeros k ++ b)) ≡ zeros n ++ b =
    ap (λ (x : ℕ). drop x (f ++ (zeros k ++ b))) split
    ∙ drop-append-add f (zeros k ++ b) (k - n)
    ∙ drop-append-le (k - n) (zeros k) b (omega (arith, lz))
    ∙ ap (λ (x : List ℕ). x ++ b) rest in
    let end : q + length (zeros k) ≡ at + length (s ++ zeros n) = omega (arith, lz, ln) in
    rw (front, back, end) (simp append_assoc)

-- the head of an AVP and its value behind it, over zeros where its padding stands
pub avp-put : (d : List ℕ) (at code : ℕ) (v : List ℕ) → at + length v + 12 ≤ length d
    → put (put (put d (at + 8 + up4 (length v) - 4) (zeros 4)) at (head_bytes code (8 + length v))) (at + 8) v ≡ put d at (avp_bytes code v)
unfolding avp_bytes head_bytes in32 in24
avp-put d at code v h =
    let a : List ℕ = head_bytes code (8 + length v) in
    let l : length (a ++ v) ≡ 8 + length v = length-append a v in
    let n : ℕ = up4 (length v) - length v in
    let e : List ℕ = put d (at + 8 + up4 (length v) - 4) (zeros 4) in
    let le : length e ≡ length d = length-put d (at + 8 + up4 (length v) - 4) (zeros 4) (rw (length-zeros 4) (omega (arith, up4-most (length v)))) in
    put_then e at a v (at + 8) refl (omega (arith, le))
    ∙ over_zeros d at (a ++ v) (at + 8 + up4 (length v) - 4) 4 n (omega (arith, l, up4-least (length v))) (omega (arith, up4-most (length v))) (omega arith)
    (omega (arith, up4-most (length v)))
    ∙ ap (put d at) (append_assoc a v (zeros n))

-- a group: a value that ends on a multiple of 4 has no padding
pub group-put : (d e f : List ℕ) (at n code size : ℕ) (v : List ℕ) → e ≡ put d at (head_bytes code size) → size ≡ 8 + length v → up4 (length v) ≡ length v
    → at + 8 ≤ length d → Written e f (at + 8) n v → Written d f at n (avp_bytes code v)
unfolding avp_bytes head_bytes in32 in24 zeros
group-put d e f at n code size v p s u h w =
    let z : up4 (length v) - length v ≡ 0 = omega (arith, u) in
    let q : Written d f at n (head_bytes code size ++ v) =
    written_then d e f at (at + 8) n (head_bytes code size) v (record { place = refl; bytes-put = p }) w h in
    rw (z, append-nil v, ← s) q

-- THE CODE BY ITS NUMBER

pub number-from : (k : Kind) (n : ℕ) → number_of (code_from k n) ≡ n
unfolding code_from number_of
number-from NoAnswer n = refl
number-from Plain n = refl
number-from Experimental n = refl

pub auth-from : (m : List ℕ) (k : Kind) (n : ℕ) → auth_avps m (plain n) ≡ auth_avps m (code_from k n)
unfolding auth_avps is3xxx number_of code_from
auth-from m NoAnswer n = refl
auth-from m Plain n = refl
auth-from m Experimental n = refl

pub subscription-from : (m : List ℕ) (k : Kind) (n : ℕ) → subscription_avp m (plain n) ≡ subscription_avp m (code_from k n)
unfolding subscription_avp number_of code_from
subscription-from m NoAnswer n = refl
subscription-from m Plain n = refl
subscription-from m Experimental n = refl

pub head-from : (m : List ℕ) (k : Kind) (n size : ℕ) → answer_head m (plain n) size ≡ answer_head m (code_from k n) size
unfolding answer_head answer_flags is3xxx number_of code_from
head-from m NoAnswer n size = refl
head-from m Plain n size = refl
head-from m Experimental n size = refl

-- AUTH AND SUBSCRIPTION

module _ (m : List ℕ) (n : ℕ) where
  pub auth-other : (command m ≡ 265 → ⊥) → auth_avps m (plain n) ≡ []
  unfolding auth_avps pick
  auth-other h = rw (ne_eqb (command m) 265 h)

  pub auth-3xxx : command m ≡ 265 → is3xxx (plain n) ≡ true → auth_avps m (plain n) ≡ []
  unfolding auth_avps pick
  auth-3xxx h e = rw (eq-eqb (command m) 265 h, e)

  pub auth-is : command m ≡ 265 → is3xxx (plain n) ≡ false → auth_avps m (plain n) ≡ avp_bytes 258 (in32 1) ++ avp_bytes 274 (in32 2)
  unfolding auth_avps pick
  auth-is h e = rw (eq-eqb (command m) 265 h, e)

  pub subscription-other : (command m ≡ 265 → ⊥) → subscription_avp m (plain n) ≡ []
  unfolding subscription_avp pick
  subscription-other h = rw (ne_eqb (command m) 265 h)

  pub subscription-fail : (n ≡ 2001 → ⊥) → subscription_avp m (plain n) ≡ []
  unfolding subscription_avp pick number_of
  subscription-fail h = rw (ne_eqb n 2001 h) (by-test (eqb (command m) 265) (λ e. rw e) (λ e. rw e))

  pub subscription-is : command m ≡ 265 → n ≡ 2001 → subscription_avp m (plain n) ≡ avp_bytes 443 (avp_bytes 450 (in32 1) ++ avp_bytes 444 (value_of user_name (avps m)))
  unfolding subscription_avp pick number_of
  subscription-is h k = rw (eq-eqb (command m) 265 h, eq-eqb n 2001 k)

pub subscription-length : (v : List ℕ) → length (avp_bytes 450 (in32 1) ++ avp_bytes 444 v) ≡ 20 + up4 (length v)
subscription-length v = length-append (avp_bytes 450 (in32 1)) (avp_bytes 444 v) ∙ rw (length-number 450 1, length-avp 444 v) (omega arith)

pub up4-twice : (n : ℕ) → up4 (20 + up4 n) ≡ 20 + up4 n
unfolding up4
up4-twice n = omega arith

-- A walk's AVPs are no longer than its bytes.
bytes-length : (s : List ℕ) → Passed s → length (avp_of s).bytes ≡ up4 (avp_length s)
unfolding avp_of
bytes-length s p = length-take-le (up4 (avp_length s)) s p.whole

bytes-walk : (k : ℕ) (n : Name) (s : List ℕ) → length (all_bytes (having n (walk_up_to request_code k s).avps)) ≤ length s
unfolding walk_up_to walk_one pick having keep all_bytes behind
bytes-walk zero n s = omega arith
bytes-walk (suc k) n s =
    by-test (eqb (length s) 0)
    (λ z. rw z (omega arith))
    (λ z.
    by-test (eqb (request_code s) 0)
    (λ t.
    let p : Passed s = passes s (request-four s (eqb-true (request_code s) 0 t)) in
    let r = bytes-walk k n (drop (up4 (avp_length s)) s) in
    let r2 : length (all_bytes (having n (walk_up_to request_code k (drop (up4 (avp_length s)) s)).avps)) ≤ length s - up4 (avp_length s) = rw length-drop at r in
    by-test (same_name n (avp_of s).name)
    (λ u. rw (z, t, u) (rw (length-append, bytes-length s p) (omega (arith, p.whole))))
    (λ u. rw (z, t, u) (omega (arith, p.whole))))
    (λ t. rw (z, t) (omega arith)))

pub copied-most : (m : List ℕ) (p : Bool) → 20 ≤ length m → length (copied p m) ≤ length m - 20
unfolding copied pick avps walk_by
copied-most m p h =
    by-test p
    (λ t. rw t (let b = bytes-walk (suc (length (drop 20 m))) proxy_info (drop 20 m) in omega (arith, b, length-drop 20 m)))
    (λ t. rw t (omega arith))

proxies-most : (m : List ℕ) → 20 ≤ length m → length (proxy_avps m) ≤ length m - 20
unfolding proxy_avps copied
proxies-most m h = copied-most m (eqb (header_code m) 0 && eqb (walk_code m) 0) h

-- HOW LONG AN ANSWER IS

pub up4-128 : (n : ℕ) → n ≤ 128 → up4 n ≤ 128
unfolding up4
up4-128 n h = omega arith

pub avp-most : (code : ℕ) (v : List ℕ) → length v ≤ 128 → length (avp_bytes code v) ≤ 136
avp-most code v h = omega (arith, length-avp code v, up4-128 (length v) h)

pub session-most : (m : List ℕ) → length (session_avp m) ≤ 136
unfolding session_avp pick
session-most m =
    let v : List ℕ = (avp_of (drop 20 m)).value in
    by-test (eqb (avp_code (drop 20 m)) 0 && (same_name session_id (avp_of (drop 20 m)).name && within 1 128 (length v)))
    (λ t.
    let r = and_right (eqb (avp_code (drop 20 m)) 0) (same_name session_id (avp_of (drop 20 m)).name && within 1 128 (length v)) t in
    rw t (avp-most 263 v (within-high 1 128 (length v) (and_right (same_name session_id (avp_of (drop 20 m)).name) (within 1 128 (length v)) r))))
    (λ t. rw t (omega arith))

pub auth-most : (m : List ℕ) (c : Code) → length (auth_avps m c) ≤ 24
unfolding auth_avps pick avp_bytes in32 in24 up4 zeros
auth-most m c = by-test (eqb (command m) 265 && not (is3xxx c)) (λ t. rw t (omega arith)) (λ t. rw t (omega arith))

pub result-most : (c : Code) → length (result_avp c) ≤ 32
unfolding result_avp avp_bytes in32 in24 up4 zeros
result-most (none n) = omega arith
result-most (plain n) = omega arith
result-most (experimental n) = omega arith

pub subscription-most : (m : List ℕ) (c : Code) → (command m ≡ 265 → number_of c ≡ 2001 → length (value_of user_name (avps m)) ≤ 128) → length (subscription_avp m c) ≤ 156
unfolding subscription_avp pick
subscription-most m c h =
    let v : List ℕ = value_of user_name (avps m) in
    by-test (eqb (command m) 265 && eqb (number_of c) 2001)
    (λ t.
    let p = eqb-true (command m) 265 (and_left (eqb (command m) 265) (eqb (number_of c) 2001) t) in
    let q = eqb-true (number_of c) 2001 (and_right (eqb (command m) 265) (eqb (number_of c) 2001) t) in
    let k = subscription-length v in
    let l : length (avp_bytes 443 (avp_bytes 450 (in32 1) ++ avp_bytes 444 v)) ≡ 28 + up4 (length v) =
    length-avp 443 (avp_bytes 450 (in32 1) ++ avp_bytes 444 v) ∙ rw (k, up4-twice (length v)) (omega arith) in
    rw t (omega (arith, l, up4-128 (length v) (h p q))))
    (λ t. rw t (omega arith))

pub length-body : (m host realm : List ℕ) (c : Code)
    → length (answer_body m host realm c)
    ≡ length (session_avp m) + (length (auth_avps m c) + (length (result_avp c) + (length (avp_bytes 264 host) + (length (avp_bytes 296 realm) + (length (subscription_avp m c) + length (proxy_avps m))))))
unfolding answer_body
length-body m host realm c = simp length-append

pub body-fits : (m host realm : List ℕ) (c : Code) → 20 ≤ length m → length m ≤ message_most → length host ≤ 128 → length realm ≤ 128
    → (command m ≡ 265 → number_of c ≡ 2001 → length (value_of user_name (avps m)) ≤ 128) → 20 + length (answer_body m host realm c) ≤ answer_least
body-fits m host realm c h k p q u =
    omega
    (arith, length-body m host realm c, session-most m, auth-most m c, result-most c, avp-most 264 host p, avp-most 296 realm q, subscription-most m c u, proxies-most m h)

pub length-answer : (m host realm : List ℕ) (c : Code) → 20 ≤ length m → length (answer m host realm c) ≡ 20 + length (answer_body m host realm c)
unfolding answer in24
length-answer m host realm c h =
    let l : length (part m 5 15) ≡ 15 = length_part m 5 15 (omega arith) in
    rw (length-append (part m 5 15) (answer_body m host realm c), l) (omega arith)

-- every answer fits the room that a call must bring
pub answer-fits : (m host realm : List ℕ) (c : Code) → 20 ≤ length m → length m ≤ message_most → length host ≤ 128 → length realm ≤ 128
    → (command m ≡ 265 → number_of c ≡ 2001 → length (value_of user_name (avps m)) ≤ 128) → length (answer m host realm c) ≤ answer_least
answer-fits m host realm c h k p q u = omega (arith, length-answer m host realm c h, body-fits m host realm c h k p q u)

-- THE WHOLE ANSWER

-- seven writes, one behind the other
pub written-seven : (d0 d1 d2 d3 d4 d5 d6 d7 : List ℕ) (p0 p1 p2 p3 p4 p5 p6 p7 : ℕ) (a b c d e f g : List ℕ)
    → Written d0 d1 p0 p1 a → Written d1 d2 p1 p2 b → Written d2 d3 p2 p3 c → Written d3 d4 p3 p4 d → Written d4 d5 p4 p5 e → Written d5 d6 p5 p6 f → Written d6 d7 p6 p7 g
    → p0 + (length a + (length b + (length c + (length d + (length e + (length f + length g)))))) ≤ length d0
    → Written d0 d7 p0 p7 (a ++ (b ++ (c ++ (d ++ (e ++ (f ++ g))))))
written-seven d0 d1 d2 d3 d4 d5 d6 d7 p0 p1 p2 p3 p4 p5 p6 p7 a b c d e f g w1 w2 w3 w4 w5 w6 w7 h =
    let v2 = written_then d0 d1 d2 p0 p1 p2 a b w1 w2 (omega arith) in
    let v3 = written_then d0 d2 d3 p0 p2 p3 (a ++ b) c v2 w3 (rw length-append (omega arith)) in
    let v4 = written_then d0 d3 d4 p0 p3 p4 (a ++ b ++ c) d v3 w4 (simp length-append (omega arith)) in
    let v5 = written_then d0 d4 d5 p0 p4 p5 (a ++ b ++ c ++ d) e v4 w5 (simp length-append (omega arith)) in
    let v6 = written_then d0 d5 d6 p0 p5 p6 (a ++ b ++ c ++ d ++ e) f v5 w6 (simp length-append (omega arith)) in
    let v7 = written_then d0 d6 d7 p0 p6 p7 (a ++ b ++ c ++ d ++ e ++ f) g v6 w7 (simp length-append (omega arith)) in
    let r : a ++ b ++ c ++ d ++ e ++ f ++ g ≡ a ++ (b ++ (c ++ (d ++ (e ++ (f ++ g))))) = simp append_assoc in
    rw r at v7

-- the header in front of what was written behind it
pub head-put : (d h b : List ℕ) → length h ≡ 20 → 20 + length b ≤ length d → put (put d 20 b) 0 h ≡ h ++ b ++ drop (length (h ++ b)) d
unfolding put
head-put d h b l k =
    let t : length (take 20 d) ≡ 20 = length-take-le 20 d (omega arith) in
    let z : 0 + length h ≡ 20 = omega (arith, l) in
    let s : length (h ++ b) ≡ 20 + length b = length-append h b ∙ rw l in
    rw (z, drop_at (take 20 d) (b ++ drop (20 + length b) d) 20 t, s, append_assoc h b (drop (20 + length b) d))

pub answer-put : (m host realm : List ℕ) (c : Code) (before after last : List ℕ) (size : ℕ) → 20 ≤ length m → 20 + length (answer_body m host realm c) ≤ length before
    → Written before after 20 size (answer_body m host realm c) → last ≡ put after 0 (answer_head m c size) → Answered m host realm c size before last
unfolding answer_room answer answer_head in24
answer-put m host realm c before after last size h k w e =
    let b : List ℕ = answer_body m host realm c in
    let n : size ≡ 20 + length b = w.place in
    let l : length (part m 5 15) ≡ 15 = length_part m 5 15 (omega arith) in
    let hl : length (answer_head m c size) ≡ 20 = rw l in
    let r1 : put after 0 (answer_head m c size) ≡ answer_head m c size ++ b ++ drop (length (answer_head m c size ++ b)) before =
    rw w.bytes-put (head-put before (answer_head m c size) b hl k) in
    record {
      length-is = n ∙ sym (length-answer m host realm c h);
      room-is = e ∙ r1 ∙ ap (λ (x : ℕ). answer_head m c x ++ b ++ drop (length (answer_head m c x ++ b)) before) n;
    }

-- the name that an answer repeats is short enough
pub user-short : (m host realm : List ℕ) (code : ℕ) (user : Span) (proxies : Bool) (room : List ℕ) → Answerable m host realm code user proxies room
    → command m ≡ 265 → code ≡ 2001 → length (value_of user_name (avps m)) ≤ 128
user-short m host realm code user proxies room a p q =
    let h : Holds m user_name user = a.named p q in
    rw (← h.value) (omega (arith, length_part m user.at user.len h.inside, a.short p q))

pub answerable-fits : (m host realm : List ℕ) (k : Kind) (code : ℕ) (user : Span) (proxies : Bool) (room : List ℕ) → Answerable m host realm code user proxies room
    → 20 + length (answer_body m host realm (code_from k code)) ≤ length room
answerable-fits m host realm k code user proxies room a =
    let f = body-fits m host realm (code_from k code) a.least a.most a.host-fits a.realm-fits
    (λ p q. user-short m host realm code user proxies room a p (sym (number-from k code) ∙ q)) in
    omega (arith, f, a.room_fits)
