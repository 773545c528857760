use mathlib.Core.Path.{sym, ◌∙◌}
use native.Mathlib.Omega.{arith}
use Rattle.octets.specs.Numbers.{up4}
use Rattle.answers.specs.Answers.{copied}
use Rattle.answers.proofs.Writing.{written_none}
use Rattle.answers.proofs.Proxies.{copied-not, copied-start, next-in, copied_none, copied-over, copied-one, copied_all, stretch-fits}
use Rattle.answers.proofs.put_proxies.Goals as goal

pub returns-then-not-proxies : goal.returns-then-not-proxies
returns-then-not-proxies c =
    let a = c.args in
    written_none a.room.now a.at (copied a.proxies a.m.now) (copied-not a.m.now a.proxies (c.if-not-proxies.true))

pub loop-from-init : goal.loop-from-init
loop-from-init c =
    let a = c.args in
    copied_none a.m.now a.room.now a.at (c.requires.2 (c.if-not-proxies.false)) c.requires.0 c.requires.1

pub read24-requires : goal.read24-requires
read24-requires c =
    let l = c.loop-from in
    let m = c.args.m.now in
    let n = next-in m l.from c.loop-from-test.true l.invariant.passed in
    omega (arith, n.0, n.1)

pub overflow_add-next-in-loop-from : goal.overflow_add-next-in-loop-from
unfolding up4
overflow_add-next-in-loop-from c =
    let l = c.loop-from in
    let m = c.args.m.now in
    let n = next-in m l.from c.loop-from-test.true l.invariant.passed in
    omega (arith, n.1, c.read24.ensures.0, c.read24.ensures.1, c.loop-from.invariant.inside)

pub is_proxy-requires : goal.is_proxy-requires
is_proxy-requires c =
    let l = c.loop-from in
    let m = c.args.m.now in
    let n = next-in m l.from c.loop-from-test.true l.invariant.passed in
    omega (arith, n.0, n.1)

pub put_stretch-to-requires : goal.put_stretch-to-requires
put_stretch-to-requires c =
    let l = c.loop-from in
    let a = c.args in
    (l.invariant.open_is, l.invariant.inside, stretch-fits a.m.now a.room.now l.room a.at l.to l.start l.from l.invariant)

pub loop-from-smaller-then-not-is_proxy : goal.loop-from-smaller-then-not-is_proxy
unfolding up4
loop-from-smaller-then-not-is_proxy c =
    let l = c.loop-from in
    let m = c.args.m.now in
    let n = next-in m l.from c.loop-from-test.true l.invariant.passed in
    omega (arith, n.0, n.1, c.read24.ensures.0)

pub loop-from-preserved-then-not-is_proxy : goal.loop-from-preserved-then-not-is_proxy
unfolding up4
loop-from-preserved-then-not-is_proxy c =
    let l = c.loop-from in
    let a = c.args in
    let q = c.is_proxy in
    let w = c.put_stretch-to in
    rw c.read24.ensures.0
    (copied-over a.m.now a.room.now l.room a.at l.to l.start l.from l.invariant c.loop-from-test.true _ w.result
    (sym q.ensures ∙ c.if-not-is_proxy.true) w.ensures)

pub loop-from-smaller : goal.loop-from-smaller
unfolding up4
loop-from-smaller c =
    let l = c.loop-from in
    let m = c.args.m.now in
    let n = next-in m l.from c.loop-from-test.true l.invariant.passed in
    omega (arith, n.0, n.1, c.read24.ensures.0)

pub loop-from-preserved : goal.loop-from-preserved
unfolding up4
loop-from-preserved c =
    let l = c.loop-from in
    let a = c.args in
    let q = c.is_proxy in
    rw c.read24.ensures.0
    (copied-one a.m.now a.room.now l.room a.at l.to l.start l.from l.invariant c.loop-from-test.true
    (sym q.ensures ∙ c.if-not-is_proxy.false))

pub put_stretch-requires : goal.put_stretch-requires
put_stretch-requires c =
    let l = c.loop-from in
    let a = c.args in
    (l.invariant.open_is, l.invariant.inside, stretch-fits a.m.now a.room.now l.room a.at l.to l.start l.from l.invariant)

pub shape_of-room : goal.shape_of-room
shape_of-room c = c.put_stretch.auto.room ∙ c.loop-from.invariant.same

pub returns : goal.returns
returns c =
    let l = c.loop-from in
    let a = c.args in
    let w = c.put_stretch in
    let t = c.if-not-proxies.false in
    rw (copied-start a.m.now a.proxies t)
    (copied_all a.m.now a.room.now l.room a.at l.to l.start l.from l.invariant _ w.result c.loop-from-test.false w.ensures)
