-- Seven AVPs, one behind the other: no place is past the room, since each is bounded.
use native.Mathlib.Omega.{arith}
use Rattle.octets.specs.Numbers.{in32}
use Rattle.message.specs.WritingTheAnswer.{avp_bytes}
use Rattle.answers.proofs.Writing.{avp-most, length-number, written-seven}
use Rattle.gateway.specs.Code.{name_avps}
use Rattle.gateway.proofs.put_names.Goals as goal

-- what stands in the room comes before the bounds: a wrong request is refused here
pub returns : goal.returns
unfolding name_avps
returns c =
    let given = c.args in
    let put-avp-was = c.put_avp-a in
    let put-number-was = c.put_number-b in
    let put-avp2-was = c.put_avp-c in
    let put-avp3-was = c.put_avp-d in
    let put-avp4-was = c.put_avp-e in
    let put-number2-was = c.put_number-f in
    let put-avp5-was = c.put_avp in
    let pre-was = c.requires in
    written-seven given.room.now put-avp-was.new.room put-number-was.new.room put-avp2-was.new.room put-avp3-was.new.room put-avp4-was.new.room put-number2-was.new.room put-avp5-was.new.room 20 put-avp-was.result put-number-was.result put-avp2-was.result put-avp3-was.result put-avp4-was.result put-number2-was.result put-avp5-was.result
    (avp_bytes 263 given.session.now) (avp_bytes 258 (in32 1)) (avp_bytes 264 given.host.now) (avp_bytes 296 given.realm.now) (avp_bytes 283 given.from_realm.now) (avp_bytes 274 (in32 2)) (avp_bytes 293 given.from_host.now)
    put-avp-was.ensures put-number-was.ensures put-avp2-was.ensures put-avp3-was.ensures put-avp4-was.ensures put-number2-was.ensures put-avp5-was.ensures
    (omega (arith, pre-was.5, avp-most 263 given.session.now pre-was.0, length-number 258 1, avp-most 264 given.host.now pre-was.1, avp-most 296 given.realm.now pre-was.2, avp-most 283 given.from_realm.now pre-was.4, length-number 274 2, avp-most 293 given.from_host.now pre-was.3))

pub put_number-b-requires : goal.put_number-b-requires
put_number-b-requires c =
    let pre-was = c.requires in
    let put-avp-was = c.put_avp-a in
    let given = c.args in
    (omega (arith, pre-was.5, put-avp-was.ensures.place, avp-most 263 given.session.now pre-was.0, put-avp-was.auto.room), omega arith)

pub put_avp-c-requires : goal.put_avp-c-requires
put_avp-c-requires c =
    let pre-was = c.requires in
    let put-avp-was = c.put_avp-a in
    let given = c.args in
    let put-number-was = c.put_number-b in
    (omega (arith, pre-was.1), omega (arith, pre-was.5, pre-was.1, put-avp-was.ensures.place, avp-most 263 given.session.now pre-was.0, put-avp-was.auto.room, put-number-was.ensures.place, length-number 258 1, put-number-was.auto.room))

pub put_avp-d-requires : goal.put_avp-d-requires
put_avp-d-requires c =
    let pre-was = c.requires in
    let put-avp-was = c.put_avp-a in
    let given = c.args in
    let put-number-was = c.put_number-b in
    let put-avp2-was = c.put_avp-c in
    (omega (arith, pre-was.2), omega (arith, pre-was.5, pre-was.2, put-avp-was.ensures.place, avp-most 263 given.session.now pre-was.0, put-avp-was.auto.room, put-number-was.ensures.place, length-number 258 1, put-number-was.auto.room, put-avp2-was.ensures.place, avp-most 264 given.host.now pre-was.1, put-avp2-was.auto.room))

pub put_avp-e-requires : goal.put_avp-e-requires
put_avp-e-requires c =
    let pre-was = c.requires in
    let put-avp-was = c.put_avp-a in
    let given = c.args in
    let put-number-was = c.put_number-b in
    let put-avp2-was = c.put_avp-c in
    let put-avp3-was = c.put_avp-d in
    (omega (arith, pre-was.4), omega (arith, pre-was.5, pre-was.4, put-avp-was.ensures.place, avp-most 263 given.session.now pre-was.0, put-avp-was.auto.room, put-number-was.ensures.place, length-number 258 1, put-number-was.auto.room, put-avp2-was.ensures.place, avp-most 264 given.host.now pre-was.1, put-avp2-was.auto.room, put-avp3-was.ensures.place, avp-most 296 given.realm.now pre-was.2, put-avp3-was.auto.room))

pub put_number-f-requires : goal.put_number-f-requires
put_number-f-requires c =
    let pre-was = c.requires in
    let put-avp-was = c.put_avp-a in
    let given = c.args in
    let put-number-was = c.put_number-b in
    let put-avp2-was = c.put_avp-c in
    let put-avp3-was = c.put_avp-d in
    let put-avp4-was = c.put_avp-e in
    (omega (arith, pre-was.5, put-avp-was.ensures.place, avp-most 263 given.session.now pre-was.0, put-avp-was.auto.room, put-number-was.ensures.place, length-number 258 1, put-number-was.auto.room, put-avp2-was.ensures.place, avp-most 264 given.host.now pre-was.1, put-avp2-was.auto.room, put-avp3-was.ensures.place, avp-most 296 given.realm.now pre-was.2, put-avp3-was.auto.room, put-avp4-was.ensures.place, avp-most 283 given.from_realm.now pre-was.4, put-avp4-was.auto.room), omega arith)

pub put_avp-requires : goal.put_avp-requires
put_avp-requires c =
    let pre-was = c.requires in
    let put-avp-was = c.put_avp-a in
    let given = c.args in
    let put-number-was = c.put_number-b in
    let put-avp2-was = c.put_avp-c in
    let put-avp3-was = c.put_avp-d in
    let put-avp4-was = c.put_avp-e in
    let put-number2-was = c.put_number-f in
    (omega (arith, pre-was.3), omega (arith, pre-was.5, pre-was.3, put-avp-was.ensures.place, avp-most 263 given.session.now pre-was.0, put-avp-was.auto.room, put-number-was.ensures.place, length-number 258 1, put-number-was.auto.room, put-avp2-was.ensures.place, avp-most 264 given.host.now pre-was.1, put-avp2-was.auto.room, put-avp3-was.ensures.place, avp-most 296 given.realm.now pre-was.2, put-avp3-was.auto.room, put-avp4-was.ensures.place, avp-most 283 given.from_realm.now pre-was.4, put-avp4-was.auto.room, put-number2-was.ensures.place, length-number 274 2, put-number2-was.auto.room))
