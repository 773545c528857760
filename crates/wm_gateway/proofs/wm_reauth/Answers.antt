-- What the gateway leaves; both lengths fit 32 bits by far, by `sizes` of the gateway.
use mathlib.Core.Path.{◌≡◌, ap}
use native.Mathlib.Omega.{arith}
use Rattle.gateway.specs.Code.{call_of, leaves}
use Rattle.gateway.specs.TheGateway.{Call, Left, reauthorize}
use Rattle.gateway.proofs.Sizes.{sizes}
use Rattle.wm_gateway.specs.InC.{leaves_in_c}
use Rattle.wm_gateway.proofs.wm_reauth.Goals as goal

pub narrow-length-requires : goal.narrow-length-requires
unfolding leaves
narrow-length-requires c =
    let given = c.args in
    let reauthorize-was = c.reauthorize-g in
    let call : Call = (call_of given.host.now given.realm.now given.session.now given.user.now given.label.now given.visited.now given.message.now given.hop given.end given.answer.now given.request.now) in
    let size : reauthorize-was.result.length ≡ (reauthorize call).size = ap (λ (l : Left). l.size) reauthorize-was.ensures in
    omega (arith, size, (sizes call).0)

pub narrow-request_length-requires : goal.narrow-request_length-requires
unfolding leaves
narrow-request_length-requires c =
    let given = c.args in
    let reauthorize-was = c.reauthorize-g in
    let call : Call = (call_of given.host.now given.realm.now given.session.now given.user.now given.label.now given.visited.now given.message.now given.hop given.end given.answer.now given.request.now) in
    let size : reauthorize-was.result.request_length ≡ (reauthorize call).request_size = ap (λ (l : Left). l.request_size) reauthorize-was.ensures in
    omega (arith, size, (sizes call).1)

pub returns : goal.returns
unfolding leaves_in_c leaves
returns c =
    let reauthorize-was = c.reauthorize-g in
    rw (c.kind_number.ensures reauthorize-was.result.code, c.narrow-request_length.ensures, c.narrow-length.ensures) reauthorize-was.ensures
