-- Five writes, one behind the other, then the header in front: no place is past the room, since each is bounded.
use native.Mathlib.Omega.{arith}
use Rattle.message.specs.Codes.{plain}
use Rattle.answers.proofs.Writing.{avp-most, copied-most, result-most, session-most}
use Rattle.gateway.proofs.Writing.{answer-put, body-fits, own-walked, written-answer}
use Rattle.gateway.proofs.put_answer.Goals as goal

-- what stands in the room comes before the bounds: a wrong answer is refused here
pub returns : goal.returns
returns c =
    let given = c.args in
    let put-session-was = c.put_session-a in
    let put-code-was = c.put_code-b in
    let put-avp-was = c.put_avp-c in
    let put-avp2-was = c.put_avp-d in
    let put-proxies-was = c.put_proxies-size in
    let pre-was = c.requires in
    let put-header-was = c.put_header in
    let all = written-answer given.m.now given.host.now given.realm.now given.code given.proxies given.room.now put-session-was.new.room put-code-was.new.room put-avp-was.new.room put-avp2-was.new.room put-proxies-was.new.room
    put-session-was.result put-code-was.result put-avp-was.result put-avp2-was.result put-proxies-was.result
    pre-was.to-copy pre-was.least pre-was.most pre-was.host-fits pre-was.realm-fits pre-was.room_fits
    put-session-was.ensures put-code-was.ensures put-avp-was.ensures put-avp2-was.ensures put-proxies-was.ensures in
    answer-put given.m.now given.host.now given.realm.now given.code given.room.now put-proxies-was.new.room put-header-was.new.room put-proxies-was.result pre-was.least
    (omega (arith, body-fits given.m.now given.host.now given.realm.now given.code given.proxies pre-was.to-copy pre-was.least pre-was.most pre-was.host-fits pre-was.realm-fits, pre-was.room_fits)) all put-header-was.ensures

pub put_code-b-requires : goal.put_code-b-requires
put_code-b-requires c =
    let pre-was = c.requires in
    let put-session-was = c.put_session-a in
    let given = c.args in
    omega (arith, pre-was.room_fits, put-session-was.ensures.place, session-most given.m.now, put-session-was.auto.room)

pub put_avp-c-requires : goal.put_avp-c-requires
put_avp-c-requires c =
    let pre-was = c.requires in
    let put-session-was = c.put_session-a in
    let given = c.args in
    let put-code-was = c.put_code-b in
    (omega (arith, pre-was.host-fits), omega (arith, pre-was.room_fits, pre-was.host-fits, put-session-was.ensures.place, session-most given.m.now, put-session-was.auto.room, put-code-was.ensures.place, result-most (plain given.code), put-code-was.auto.room))

pub put_avp-d-requires : goal.put_avp-d-requires
put_avp-d-requires c =
    let pre-was = c.requires in
    let put-session-was = c.put_session-a in
    let given = c.args in
    let put-code-was = c.put_code-b in
    let put-avp-was = c.put_avp-c in
    (omega (arith, pre-was.realm-fits), omega (arith, pre-was.room_fits, pre-was.realm-fits, put-session-was.ensures.place, session-most given.m.now, put-session-was.auto.room, put-code-was.ensures.place, result-most (plain given.code), put-code-was.auto.room, put-avp-was.ensures.place, avp-most 264 given.host.now pre-was.host-fits, put-avp-was.auto.room))

pub put_proxies-size-requires : goal.put_proxies-size-requires
put_proxies-size-requires c =
    let pre-was = c.requires in
    let put-session-was = c.put_session-a in
    let given = c.args in
    let put-code-was = c.put_code-b in
    let put-avp-was = c.put_avp-c in
    let put-avp2-was = c.put_avp-d in
    (pre-was.least, omega (arith, pre-was.room_fits, pre-was.most, put-session-was.ensures.place, session-most given.m.now, put-session-was.auto.room, put-code-was.ensures.place, result-most (plain given.code), put-code-was.auto.room, put-avp-was.ensures.place, avp-most 264 given.host.now pre-was.host-fits, put-avp-was.auto.room, put-avp2-was.ensures.place, avp-most 296 given.realm.now pre-was.realm-fits, put-avp2-was.auto.room), λ t. own-walked given.m.now given.proxies pre-was.to-copy t)

pub put_header-requires : goal.put_header-requires
put_header-requires c =
    let pre-was = c.requires in
    let put-session-was = c.put_session-a in
    let put-code-was = c.put_code-b in
    let put-avp-was = c.put_avp-c in
    let put-avp2-was = c.put_avp-d in
    let put-proxies-was = c.put_proxies-size in
    let given = c.args in
    (pre-was.least, omega (arith, pre-was.room_fits, put-session-was.auto.room, put-code-was.auto.room, put-avp-was.auto.room, put-avp2-was.auto.room, put-proxies-was.auto.room), omega (arith, pre-was.most, put-session-was.ensures.place, session-most given.m.now, put-session-was.auto.room, put-code-was.ensures.place, result-most (plain given.code), put-code-was.auto.room, put-avp-was.ensures.place, avp-most 264 given.host.now pre-was.host-fits, put-avp-was.auto.room, put-avp2-was.ensures.place, avp-most 296 given.realm.now pre-was.realm-fits, put-avp2-was.auto.room, put-proxies-was.ensures.place, copied-most given.m.now given.proxies pre-was.least, put-proxies-was.auto.room))
