-- Six AVPs, one behind the other, then the header in front: no place is past the room, since each is bounded.
use native.Mathlib.Omega.{arith}
use Rattle.answers.proofs.Writing.{avp-most, length-number}
use Rattle.abort.specs.Code.{saying}
use Rattle.abort.proofs.Requests.{written-six, request-put}
use Rattle.abort.proofs.put_request.Goals as goal

pub returns : goal.returns
returns c =
    let given = c.args in
    let put-avp-was = c.put_avp-a in
    let put-avp2-was = c.put_avp-b in
    let put-avp3-was = c.put_avp-c in
    let put-avp4-was = c.put_avp-d in
    let put-avp5-was = c.put_avp-e in
    let put-number-was = c.put_number-size in
    let pre-was = c.requires in
    let put-header-was = c.put_header in
    let a = saying given.host.now given.realm.now given.session.now given.gateway_host.now given.gateway_realm.now given.hop given.end in
    let all =
    written-six a given.room.now put-avp-was.new.room put-avp2-was.new.room put-avp3-was.new.room put-avp4-was.new.room put-avp5-was.new.room put-number-was.new.room put-avp-was.result put-avp2-was.result put-avp3-was.result put-avp4-was.result put-avp5-was.result put-number-was.result pre-was.0 pre-was.1 put-avp-was.ensures put-avp2-was.ensures put-avp3-was.ensures put-avp4-was.ensures put-avp5-was.ensures put-number-was.ensures in
    request-put a given.room.now put-number-was.new.room put-header-was.new.room put-number-was.result pre-was.0 pre-was.1 all put-header-was.ensures

pub put_avp-b-requires : goal.put_avp-b-requires
put_avp-b-requires c =
    let pre-was = c.requires in
    let put-avp-was = c.put_avp-a in
    let given = c.args in
    (omega (arith, pre-was.0.host-fits), omega (arith, pre-was.0.host-fits, pre-was.1, put-avp-was.ensures.place, avp-most 263 given.session.now pre-was.0.session-fits, put-avp-was.auto.room))

pub put_avp-c-requires : goal.put_avp-c-requires
put_avp-c-requires c =
    let pre-was = c.requires in
    let put-avp-was = c.put_avp-a in
    let given = c.args in
    let put-avp2-was = c.put_avp-b in
    (omega (arith, pre-was.0.realm-fits), omega (arith, pre-was.0.realm-fits, pre-was.1, put-avp-was.ensures.place, avp-most 263 given.session.now pre-was.0.session-fits, put-avp-was.auto.room, put-avp2-was.ensures.place, avp-most 264 given.host.now pre-was.0.host-fits, put-avp2-was.auto.room))

pub put_avp-d-requires : goal.put_avp-d-requires
put_avp-d-requires c =
    let pre-was = c.requires in
    let put-avp-was = c.put_avp-a in
    let given = c.args in
    let put-avp2-was = c.put_avp-b in
    let put-avp3-was = c.put_avp-c in
    (omega (arith, pre-was.0.gateway-realm-fits), omega (arith, pre-was.0.gateway-realm-fits, pre-was.1, put-avp-was.ensures.place, avp-most 263 given.session.now pre-was.0.session-fits, put-avp-was.auto.room, put-avp2-was.ensures.place, avp-most 264 given.host.now pre-was.0.host-fits, put-avp2-was.auto.room, put-avp3-was.ensures.place, avp-most 296 given.realm.now pre-was.0.realm-fits, put-avp3-was.auto.room))

pub put_avp-e-requires : goal.put_avp-e-requires
put_avp-e-requires c =
    let pre-was = c.requires in
    let put-avp-was = c.put_avp-a in
    let given = c.args in
    let put-avp2-was = c.put_avp-b in
    let put-avp3-was = c.put_avp-c in
    let put-avp4-was = c.put_avp-d in
    (omega (arith, pre-was.0.gateway-host-fits), omega (arith, pre-was.0.gateway-host-fits, pre-was.1, put-avp-was.ensures.place, avp-most 263 given.session.now pre-was.0.session-fits, put-avp-was.auto.room, put-avp2-was.ensures.place, avp-most 264 given.host.now pre-was.0.host-fits, put-avp2-was.auto.room, put-avp3-was.ensures.place, avp-most 296 given.realm.now pre-was.0.realm-fits, put-avp3-was.auto.room, put-avp4-was.ensures.place, avp-most 283 given.gateway_realm.now pre-was.0.gateway-realm-fits, put-avp4-was.auto.room))

pub put_number-size-requires : goal.put_number-size-requires
put_number-size-requires c =
    let pre-was = c.requires in
    let put-avp-was = c.put_avp-a in
    let given = c.args in
    let put-avp2-was = c.put_avp-b in
    let put-avp3-was = c.put_avp-c in
    let put-avp4-was = c.put_avp-d in
    let put-avp5-was = c.put_avp-e in
    (omega (arith, pre-was.1, put-avp-was.ensures.place, avp-most 263 given.session.now pre-was.0.session-fits, put-avp-was.auto.room, put-avp2-was.ensures.place, avp-most 264 given.host.now pre-was.0.host-fits, put-avp2-was.auto.room, put-avp3-was.ensures.place, avp-most 296 given.realm.now pre-was.0.realm-fits, put-avp3-was.auto.room, put-avp4-was.ensures.place, avp-most 283 given.gateway_realm.now pre-was.0.gateway-realm-fits, put-avp4-was.auto.room, put-avp5-was.ensures.place, avp-most 293 given.gateway_host.now pre-was.0.gateway-host-fits, put-avp5-was.auto.room), omega arith)

pub put_header-requires : goal.put_header-requires
put_header-requires c =
    let pre-was = c.requires in
    let put-avp-was = c.put_avp-a in
    let put-avp2-was = c.put_avp-b in
    let put-avp3-was = c.put_avp-c in
    let put-avp4-was = c.put_avp-d in
    let put-avp5-was = c.put_avp-e in
    let put-number-was = c.put_number-size in
    let given = c.args in
    (omega (arith, pre-was.1, put-avp-was.auto.room, put-avp2-was.auto.room, put-avp3-was.auto.room, put-avp4-was.auto.room, put-avp5-was.auto.room, put-number-was.auto.room), omega (arith, pre-was.1, put-avp-was.ensures.place, avp-most 263 given.session.now pre-was.0.session-fits, put-avp2-was.ensures.place, avp-most 264 given.host.now pre-was.0.host-fits, put-avp3-was.ensures.place, avp-most 296 given.realm.now pre-was.0.realm-fits, put-avp4-was.ensures.place, avp-most 283 given.gateway_realm.now pre-was.0.gateway-realm-fits, put-avp5-was.ensures.place, avp-most 293 given.gateway_host.now pre-was.0.gateway-host-fits, put-number-was.ensures.place, length-number 258 1))
