-- None, or one AVP of 3GPP.
use native.Mathlib.Omega.{arith}
use Rattle.gateway.specs.TheGateway.{visited_avp}
use Rattle.answers.proofs.Writing.{written_none}
use Rattle.gateway.proofs.Writing.{visited-none, visited-is}
use Rattle.gateway.proofs.put_visited.Goals as goal

pub returns-then-visited-eq0 : goal.returns-then-visited-eq0
returns-then-visited-eq0 c =
    let given = c.args in
    let test1 = c.if-visited-eq0 in
    written_none given.room.now given.at (visited_avp given.visited.now) (visited-none given.visited.now (omega (arith, test1.true)))

pub returns : goal.returns
returns c =
    let given = c.args in
    let test1 = c.if-visited-eq0 in
    let put-vendor-was = c.put_vendor in
    rw (visited-is given.visited.now test1.false) put-vendor-was.ensures
