-- Where the slot says "not at all", there is none; where it says "more than once", and more than one is allowed, by the second walk; else by the slot.
use native.Mathlib.Omega.{arith}
use Rattle.message.proofs.Policies.{slot-empty}
use Rattle.message.proofs.routes_field.Goals as goal
use Rattle.message.proofs.routes_field.Goals.{then-index-eq1+else-most-gt1, else-index-eq1}

pub bounds-index-14 : goal.bounds-index-14
bounds-index-14 c = omega (arith, c.requires.4.size)

pub returns-then-index-eq0 : goal.returns-then-index-eq0
returns-then-index-eq0 c =
    slot-empty c.args.m.now c.args.index.now c.args.most c.requires.4 c.requires.2 c.if-index-eq0.true

pub bounds-index-14-2 : goal.bounds-index-14-2
bounds-index-14-2 c = omega (arith, c.requires.4.size)

pub all_routes-requires : goal.all_routes-requires
all_routes-requires c =
    let p = c.requires in
    (p.0, p.1, p.3)

pub returns-then-most-gt1 : goal.returns-then-most-gt1
returns-then-most-gt1 c = c.all_routes.ensures

pub one_route-requires : goal.one_route-requires
one_route-requires c = c.requires.4

pub returns : goal.returns
returns c =
    c.one_route.ensures c.args.most c.requires.2
    (λ z.
    elim c.if-index-eq1.branch [
      | then-index-eq1+else-most-gt1 w ↦ omega (arith, w.if-most-gt1.false, c.requires.2)
      | else-index-eq1 w ↦ absurd (w.if-index-eq1.false z)
    ])
