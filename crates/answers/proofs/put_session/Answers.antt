-- The first AVP as session_length reads it.
use mathlib.Core.Path.{◌≡◌}
use Prim.Native.Nat.{◌+◌, ◌-◌}
use native.Mathlib.Omega.{arith}
use Rattle.octets.proofs.Texts.{length_part}
use Rattle.message.specs.WritingTheAnswer.{session_avp}
use Rattle.answers.proofs.Writing.{written_none}
use Rattle.answers.proofs.put_session.Goals as goal

pub returns-in_default : goal.returns-in_default
returns-in_default c =
    let a = c.args in
    written_none a.room.now 20 (session_avp a.m.now) c.in_default.ensures

pub slice_bounds-put_avp-end : goal.slice_bounds-put_avp-end
slice_bounds-put_avp-end c = c.in-Some.ensures.inside

pub put_avp-requires : goal.put_avp-requires
put_avp-requires c =
    let n = c.in-Some.n in
    let q = c.in-Some.ensures in
    let k = length_part c.args.m.now 28 (20 + n - 28) (omega (arith, q.inside, q.least)) in
    (omega (arith, k, q.most), omega (arith, k, q.most, c.requires.1))

pub returns : goal.returns
returns c =
    let n = c.in-Some.n in
    let q = c.in-Some.ensures in
    let e : 20 + n - 28 ≡ n - 8 = omega (arith, q.least) in
    rw q.some (rw e at c.put_avp.ensures)
