-- The number decides; with 0 the three texts lie inside the notice, and what is lent of it is what the definition takes.
use mathlib.Core.Path.{◌≡◌, refl, sym, ◌∙◌}
use native.Mathlib.Omega.{arith}
use Rattle.abort.specs.TheDisconnection.{abort_number}
use Rattle.abort.specs.Code.{cut_of}
use Rattle.abort.proofs.Requests.{Allowed, allowed, short, says-lent, short-same, sent-same, write-refused, write-sent}
use Rattle.abort.proofs.write.Goals as goal
use Rattle.abort.proofs.write.Goals.{In_default}

-- with number 0 all tests pass
zero : (p : In_default)
    → abort_number p.args.host.now p.args.realm.now (cut_of p.args.notice.now p.args.cut_session p.args.cut_host p.args.cut_realm) p.args.room.now ≡ 0
zero p = p.in_default.ensures p.args.room.now refl

fits : (p : In_default)
    → Allowed p.args.host.now p.args.realm.now (cut_of p.args.notice.now p.args.cut_session p.args.cut_host p.args.cut_realm) p.args.room.now
fits p =
    let given = p.args in
    allowed given.host.now given.realm.now (cut_of given.notice.now given.cut_session given.cut_host given.cut_realm) given.room.now (zero p)

pub returns-in-Some : goal.returns-in-Some
returns-in-Some c =
    let given = c.args in
    let refused = c.in-Some.ensures given.room.now refl in
    write-refused given.host.now given.realm.now (cut_of given.notice.now given.cut_session given.cut_host given.cut_realm) given.hop given.end
    given.room.now c.in-Some.number refused.0 refused.1

pub returns : goal.returns
returns c =
    let w = goal.at.returns c in
    let given = c.args in
    let cut = cut_of given.notice.now given.cut_session given.cut_host given.cut_realm in
    let put-request-was = c.put_request-length in
    write-sent given.host.now given.realm.now cut given.hop given.end given.room.now put-request-was.result
    put-request-was.new.room (zero w.In_default)
    (sent-same _ _ _ _ _ (says-lent given.host.now given.realm.now given.notice.now given.cut_session given.cut_host given.cut_realm given.hop given.end)
    put-request-was.ensures)

pub overflow_add-host_end : goal.overflow_add-host_end
overflow_add-host_end c = omega (arith, (fits c).gateway-host-fits)

pub overflow_add-realm_end : goal.overflow_add-realm_end
overflow_add-realm_end c = omega (arith, (fits c).gateway-realm-fits)

pub slice_bounds-session-end : goal.slice_bounds-session-end
slice_bounds-session-end c = let f = fits c in omega (arith, f.session-fits, f.notice-fits)

pub slice_bounds-gateway_host-end : goal.slice_bounds-gateway_host-end
slice_bounds-gateway_host-end c =
    let w = goal.at.slice_bounds-gateway_host-end c in
    let f = fits w.In_default in omega (arith, f.gateway-host-fits, f.notice-fits)

pub slice_bounds-gateway_realm-end : goal.slice_bounds-gateway_realm-end
slice_bounds-gateway_realm-end c =
    let w = goal.at.slice_bounds-gateway_realm-end c in
    let f = fits w.In_default in omega (arith, f.gateway-realm-fits, f.notice-fits)

pub put_request-length-requires : goal.put_request-length-requires
put_request-length-requires c =
    let w = goal.at.put_request-length-requires c in
    let given = c.args in
    let cut = cut_of given.notice.now given.cut_session given.cut_host given.cut_realm in
    let f = fits w.In_default in (
      short-same _ _ (says-lent given.host.now given.realm.now given.notice.now given.cut_session given.cut_host given.cut_realm given.hop given.end)
          (short given.host.now given.realm.now cut given.hop given.end given.room.now f),
      f.room_fits,
    )
