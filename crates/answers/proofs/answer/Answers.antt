-- Seven writes one behind the other, then the header in front: no place is past the room, since every part is bounded (`one` to `six`).
use mathlib.Core.Path.{◌≡◌, ◌∙◌, ap}
use Prim.Native.Nat.{◌≤◌}
use native.Mathlib.Omega.{arith}
use lib.ListN.{length}
use Rattle.octets.specs.Texts.{put}
use Rattle.message.specs.Codes.{plain, number_of}
use Rattle.message.specs.WritingTheAnswer.{avp_bytes, session_avp, auth_avps, result_avp, subscription_avp, proxy_avps, answer_body}
use Rattle.message.specs.Kinds.{code_from}
use Rattle.answers.proofs.Writing.{session-most, auth-most, result-most, avp-most, subscription-most, length-body, copied-most, auth-from, subscription-from, head-from, user-short, answerable-fits, written-seven, answer-put}
use Rattle.answers.proofs.Proxies.{copied-told, proxies-walked}
use Rattle.answers.proofs.answer.Goals as goal
use Rattle.answers.proofs.answer.Goals.{After-put_session-a, After-put_auth-b, After-put_result-c, After-put_avp-d, After-put_avp-e, After-put_subscription-f}

one : (p : After-put_session-a) → (p.put_session-a.result ≤ 156) × (length p.put_session-a.new.room ≡ length p.args.room.now)
one p = (omega (arith, p.put_session-a.ensures.place, session-most p.args.m.now), p.put_session-a.auto.room)

two : (p : After-put_auth-b) → (p.put_session-a.result ≤ 156) × (length p.put_session-a.new.room ≡ length p.args.room.now) → (p.put_auth-b.result ≤ 180) × (length p.put_auth-b.new.room ≡ length p.args.room.now)
two p e =
    let s = p.args in
    let q = e in
    (omega (arith, p.put_auth-b.ensures.place, auth-most s.m.now (plain s.code), q.0), p.put_auth-b.auto.room ∙ q.1)

three : (p : After-put_result-c) → (p.put_auth-b.result ≤ 180) × (length p.put_auth-b.new.room ≡ length p.args.room.now) → (p.put_result-c.result ≤ 212) × (length p.put_result-c.new.room ≡ length p.args.room.now)
three p e =
    let s = p.args in
    let q = e in
    (omega (arith, p.put_result-c.ensures.place, result-most (code_from s.kind s.code), q.0), p.put_result-c.auto.room ∙ q.1)

four : (p : After-put_avp-d) → (p.put_result-c.result ≤ 212) × (length p.put_result-c.new.room ≡ length p.args.room.now) → (p.put_avp-d.result ≤ 348) × (length p.put_avp-d.new.room ≡ length p.args.room.now)
four p e =
    let q = e in
    (omega (arith, p.put_avp-d.ensures.place, avp-most 264 p.args.host.now p.requires.host-fits, q.0), p.put_avp-d.auto.room ∙ q.1)

five : (p : After-put_avp-e) → (p.put_avp-d.result ≤ 348) × (length p.put_avp-d.new.room ≡ length p.args.room.now) → (p.put_avp-e.result ≤ 484) × (length p.put_avp-e.new.room ≡ length p.args.room.now)
five p e =
    let q = e in
    (omega (arith, p.put_avp-e.ensures.place, avp-most 296 p.args.realm.now p.requires.realm-fits, q.0), p.put_avp-e.auto.room ∙ q.1)

six : (p : After-put_subscription-f) → (p.put_avp-e.result ≤ 484) × (length p.put_avp-e.new.room ≡ length p.args.room.now) → (p.put_subscription-f.result ≤ 640) × (length p.put_subscription-f.new.room ≡ length p.args.room.now)
unfolding number_of
six p e =
    let a = p.args in
    let q = e in
    let u = user-short a.m.now a.host.now a.realm.now a.code a.user a.proxies a.room.now p.requires in (
      omega (arith, p.put_subscription-f.ensures.place, subscription-most a.m.now (plain a.code) u, q.0),
      p.put_subscription-f.auto.room ∙ q.1,
    )

-- what stands in the room comes before the bounds: a wrong answer is refused here
pub returns : goal.returns
unfolding answer_body
returns c =
    let a = c.args in
    let m = c.args.m.now in
    let host = c.args.host.now in
    let realm = c.args.realm.now in
    let room = c.args.room.now in
    let k = c.args.kind in
    let n = c.args.code in
    let w1 = c.put_session-a in
    let w2 = c.put_auth-b in
    let w3 = c.put_result-c in
    let w4 = c.put_avp-d in
    let w5 = c.put_avp-e in
    let w6 = c.put_subscription-f in
    let w7 = c.put_proxies-size in
    let fits = answerable-fits m host realm k n a.user a.proxies room c.requires in
    let all =
    written-seven room w1.new.room w2.new.room w3.new.room w4.new.room w5.new.room w6.new.room w7.new.room
    20 w1.result w2.result w3.result w4.result w5.result w6.result w7.result
    (session_avp m) (auth_avps m (code_from k n)) (result_avp (code_from k n)) (avp_bytes 264 host) (avp_bytes 296 realm) (subscription_avp m (code_from k n))
    (proxy_avps m)
    w1.ensures (rw (auth-from m k n) at w2.ensures) w3.ensures w4.ensures w5.ensures (rw (subscription-from m k n) at w6.ensures)
    (rw (copied-told m a.proxies c.requires.to-copy) at w7.ensures)
    (omega (arith, fits, length-body m host realm (code_from k n))) in
    answer-put m host realm (code_from k n) room w7.new.room c.put_header.new.room w7.result c.requires.least
    fits all
    (c.put_header.ensures ∙ ap (put w7.new.room 0) (head-from m k n w7.result))

pub put_session-a-requires : goal.put_session-a-requires
put_session-a-requires c =
    (c.requires.least, omega (arith, c.requires.room_fits))

pub put_auth-b-requires : goal.put_auth-b-requires
put_auth-b-requires c =
    let w = goal.at.put_auth-b-requires c in
    let p = one w.After-put_session-a in (
      c.requires.least,
      omega (arith, p.0, p.1, c.requires.room_fits),
    )

pub put_result-c-requires : goal.put_result-c-requires
put_result-c-requires c =
    let w = goal.at.put_result-c-requires c in
    let p = two w.After-put_auth-b (one w.After-put_session-a) in
    let s = c.requires in
    (omega (arith, p.0, p.1, s.room_fits), s.small)

pub put_avp-d-requires : goal.put_avp-d-requires
put_avp-d-requires c =
    let w = goal.at.put_avp-d-requires c in
    let p = three w.After-put_result-c (two w.After-put_auth-b (one w.After-put_session-a)) in
    (omega (arith, c.requires.host-fits), omega (arith, p.0, p.1, c.requires.room_fits, c.requires.host-fits))

pub put_avp-e-requires : goal.put_avp-e-requires
put_avp-e-requires c =
    let w = goal.at.put_avp-e-requires c in
    let p = four w.After-put_avp-d (three w.After-put_result-c (two w.After-put_auth-b (one w.After-put_session-a))) in
    (omega (arith, c.requires.realm-fits), omega (arith, p.0, p.1, c.requires.room_fits, c.requires.realm-fits))

pub put_subscription-f-requires : goal.put_subscription-f-requires
put_subscription-f-requires c =
    let w = goal.at.put_subscription-f-requires c in
    let p = five w.After-put_avp-e (four w.After-put_avp-d (three w.After-put_result-c (two w.After-put_auth-b (one w.After-put_session-a)))) in
    let s = c.requires in
    (s.least, omega (arith, p.0, p.1, s.room_fits), s.named, s.short)

pub put_proxies-size-requires : goal.put_proxies-size-requires
put_proxies-size-requires c =
    let w = goal.at.put_proxies-size-requires c in
    let p = six w.After-put_subscription-f (five w.After-put_avp-e (four w.After-put_avp-d (three w.After-put_result-c (two w.After-put_auth-b (one w.After-put_session-a))))) in
    let s = c.requires in
    let a = c.args in
    (s.least, omega (arith, p.0, p.1, s.room_fits, s.most), λ t. proxies-walked a.m.now a.proxies s.to-copy t)

pub put_header-requires : goal.put_header-requires
put_header-requires c =
    let w = goal.at.put_header-requires c in
    let p = six w.After-put_subscription-f (five w.After-put_avp-e (four w.After-put_avp-d (three w.After-put_result-c (two w.After-put_auth-b (one w.After-put_session-a))))) in
    let s = c.requires in
    let a = c.args in (
      s.least,
      omega (arith, p.1, c.put_proxies-size.auto.room, s.room_fits),
      omega (arith, p.0, c.put_proxies-size.ensures.place, copied-most a.m.now a.proxies s.least, s.most),
    )

pub shape_of-room : goal.shape_of-room
shape_of-room c =
    let w = goal.at.shape_of-room c in
    c.put_header.auto.room ∙ c.put_proxies-size.auto.room
    ∙ (six w.After-put_subscription-f (five w.After-put_avp-e (four w.After-put_avp-d (three w.After-put_result-c (two w.After-put_auth-b (one w.After-put_session-a)))))).1
