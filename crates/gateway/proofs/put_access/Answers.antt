-- Four AVPs, one behind the other: no place is past the room, since each is bounded.
use native.Mathlib.Omega.{arith}
use Rattle.octets.specs.Numbers.{in32}
use Rattle.answers.specs.Answers.{Written}
use Rattle.answers.proofs.Writing.{avp-most}
use Rattle.gateway.specs.TheGateway.{vendor_avp}
use Rattle.gateway.proofs.Writing.{short, vendor-most, visited-most, written-access}
use Rattle.gateway.proofs.put_access.Goals as goal

-- what stands in the room comes before the bounds: a wrong request is refused here
pub returns : goal.returns
unfolding in32
returns c =
    let given = c.args in
    let put-avp-was = c.put_avp-a in
    let put-vendor-was = c.put_vendor-b in
    let put-visited-was = c.put_visited-c in
    let put-vendor2-was = c.put_vendor in
    let pre-was = c.requires in
    written-access given.user.now given.label.now given.visited.now given.room.now put-avp-was.new.room put-vendor-was.new.room put-visited-was.new.room put-vendor2-was.new.room given.at put-avp-was.result put-vendor-was.result put-visited-was.result put-vendor2-was.result pre-was.0 pre-was.1 pre-was.2 pre-was.3 put-avp-was.ensures put-vendor-was.ensures put-visited-was.ensures put-vendor2-was.ensures

pub put_vendor-b-requires : goal.put_vendor-b-requires
put_vendor-b-requires c =
    let pre-was = c.requires in
    let put-avp-was = c.put_avp-a in
    let given = c.args in
    (omega arith, omega (arith, pre-was.3, put-avp-was.ensures.place, avp-most 1 given.user.now pre-was.0, put-avp-was.auto.room))

pub put_visited-c-requires : goal.put_visited-c-requires
unfolding in32
put_visited-c-requires c =
    let put-avp-was = c.put_avp-a in
    let put-vendor-was = c.put_vendor-b in
    let pre-was = c.requires in
    let given = c.args in
    let v : Written put-avp-was.new.room put-vendor-was.new.room put-avp-was.result put-vendor-was.result (vendor_avp 311 (in32 0)) = put-vendor-was.ensures in
    (omega (arith, pre-was.2), omega (arith, pre-was.3, pre-was.2, put-avp-was.ensures.place, avp-most 1 given.user.now pre-was.0, put-avp-was.auto.room, v.place, vendor-most 311 (in32 0) (short 0), put-vendor-was.auto.room))

pub put_vendor-requires : goal.put_vendor-requires
unfolding in32
put_vendor-requires c =
    let put-avp-was = c.put_avp-a in
    let put-vendor-was = c.put_vendor-b in
    let pre-was = c.requires in
    let given = c.args in
    let put-visited-was = c.put_visited-c in
    let v : Written put-avp-was.new.room put-vendor-was.new.room put-avp-was.result put-vendor-was.result (vendor_avp 311 (in32 0)) = put-vendor-was.ensures in
    (omega (arith, pre-was.1), omega (arith, pre-was.3, pre-was.1, put-avp-was.ensures.place, avp-most 1 given.user.now pre-was.0, put-avp-was.auto.room, v.place, vendor-most 311 (in32 0) (short 0), put-vendor-was.auto.room, put-visited-was.ensures.place, visited-most given.visited.now pre-was.2, put-visited-was.auto.room))
