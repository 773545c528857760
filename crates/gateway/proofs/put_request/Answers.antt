-- Both halves of the AVPs, then the header in front.
use native.Mathlib.Omega.{arith}
use Rattle.gateway.specs.Code.{access_of, from_of}
use Rattle.gateway.proofs.Writing.{access-most, names-most, request-put}
use Rattle.gateway.proofs.put_request.Goals as goal

pub put_access-size-requires : goal.put_access-size-requires
put_access-size-requires c =
    let pre-was = c.requires in
    let put-names-was = c.put_names-a in
    let given = c.args in
    (pre-was.user-fits, pre-was.label-fits, pre-was.visited-fits, omega (arith, put-names-was.ensures.place, names-most given.session.now given.host.now given.realm.now given.from_host.now given.from_realm.now pre-was.session-fits pre-was.host-fits pre-was.realm-fits pre-was.from-host-fits pre-was.from-realm-fits, put-names-was.auto.room, pre-was.room_fits))

pub put_request_head-requires : goal.put_request_head-requires
put_request_head-requires c =
    let put-names-was = c.put_names-a in
    let put-access-was = c.put_access-size in
    let pre-was = c.requires in
    let given = c.args in
    (omega (arith, put-names-was.auto.room, put-access-was.auto.room, pre-was.room_fits), omega (arith, put-names-was.ensures.place, names-most given.session.now given.host.now given.realm.now given.from_host.now given.from_realm.now pre-was.session-fits pre-was.host-fits pre-was.realm-fits pre-was.from-host-fits pre-was.from-realm-fits, put-access-was.ensures.place, access-most given.user.now given.label.now given.visited.now pre-was.user-fits pre-was.label-fits pre-was.visited-fits))

pub returns : goal.returns
returns c =
    let given = c.args in
    let put-names-was = c.put_names-a in
    let put-access-was = c.put_access-size in
    let put-request-head-was = c.put_request_head in
    let pre-was = c.requires in
    request-put given.host.now given.realm.now (from_of given.from_host.now given.from_realm.now) (access_of given.session.now given.user.now given.label.now given.visited.now) given.hop given.end given.room.now put-names-was.new.room put-access-was.new.room put-request-head-was.new.room put-names-was.result put-access-was.result (pre-was) put-names-was.ensures put-access-was.ensures put-request-head-was.ensures
