-- What the request leaves; its length fits 32 bits by far, by `abort-small` of Small.
use mathlib.Core.Path.{◌≡◌, ap}
use native.Mathlib.Omega.{arith}
use Rattle.abort.specs.Code.{cut_of, leaves}
use Rattle.abort.specs.TheDisconnection.{Left, write_abort}
use Rattle.wm.specs.InC.{written_in_c}
use Rattle.wm.proofs.Small.{abort-small}
use Rattle.wm.proofs.wm_abort.Goals as goal

pub narrow-length-requires : goal.narrow-length-requires
unfolding leaves
narrow-length-requires c =
    let given = c.args in
    let write-was = c.write-w in
    let cut = cut_of given.notice.now given.cut_session given.cut_host given.cut_realm in
    let size : write-was.result.length ≡ (write_abort given.host.now given.realm.now cut given.hop given.end given.room.now).size =
    ap (λ (l : Left). l.size) write-was.ensures in
    omega (arith, size, abort-small given.host.now given.realm.now cut given.hop given.end given.room.now)

pub returns : goal.returns
unfolding written_in_c leaves
returns c = rw c.narrow-length.ensures c.write-w.ensures
