use mathlib.Core.Path.{◌≡◌, refl, sym, ◌∙◌}
use mathlib.Core.Bool.{true, false}
use Prim.Native.Nat.{◌+◌}
use native.Mathlib.Omega.{arith}
use lib.ListN.{drop}
use Rattle.octets.specs.Numbers.{net24, up4}
use Rattle.message.specs.ReadingAMessage.{same_name, routing_policy, avp_of}
use Rattle.message.proofs.Policies.{ends-here, code_here, next_here, passes_on, another, length-here, route-here, route-none}
use Rattle.message.proofs.route_from.Goals as goal

pub loop-at-init : goal.loop-at-init
loop-at-init c =
    let p = c.requires in
    (p.0, p.1, refl, p.2)

pub overflow_add-at : goal.overflow_add-at
overflow_add-at c =
    let n = next_here c.args.m.now c.loop-at.at c.loop-at-test.true c.loop-at.invariant.3 in
    omega (arith, n.0, n.1)

pub read24-n-requires : goal.read24-n-requires
read24-n-requires c =
    let n = next_here c.args.m.now c.loop-at.at c.loop-at-test.true c.loop-at.invariant.3 in
    omega (arith, n.0, n.1)

pub overflow_add-next-in-loop-at : goal.overflow_add-next-in-loop-at
unfolding up4
overflow_add-next-in-loop-at c =
    let n = next_here c.args.m.now c.loop-at.at c.loop-at-test.true c.loop-at.invariant.3 in
    omega (arith, n.1, c.read24-n.ensures.0)

pub is_route-requires : goal.is_route-requires
is_route-requires c =
    (c.loop-at.invariant.1, code_here c.args.m.now c.loop-at.at c.loop-at-test.true c.loop-at.invariant.3)

pub overflow_add-result : goal.overflow_add-result
overflow_add-result c =
    let m = c.args.m.now in
    let s : same_name routing_policy (avp_of (drop c.loop-at.at m)).name ≡ true = sym c.is_route.ensures ∙ c.if-is_route.true in
    let n = length-here m c.loop-at.at c.loop-at-test.true c.loop-at.invariant.3 s in
    omega (arith, n.0, n.1)

pub overflow_sub-result : goal.overflow_sub-result
overflow_sub-result c =
    let m = c.args.m.now in
    let s : same_name routing_policy (avp_of (drop c.loop-at.at m)).name ≡ true = sym c.is_route.ensures ∙ c.if-is_route.true in
    let n = length-here m c.loop-at.at c.loop-at-test.true c.loop-at.invariant.3 s in
    omega (arith, n.0, c.read24-n.ensures.0)

pub returns-then-is_route : goal.returns-then-is_route
unfolding up4
returns-then-is_route c =
    let m = c.args.m.now in
    let s : same_name routing_policy (avp_of (drop c.loop-at.at m)).name ≡ true = sym c.is_route.ensures ∙ c.if-is_route.true in
    let e : c.read24-n.result ≡ net24 m (c.loop-at.at + 5) = c.read24-n.ensures.0 in
    rw e (route-here m c.loop-at.at c.loop-at-test.true c.loop-at.invariant.3 s c.args.from c.loop-at.invariant.2 c.loop-at.invariant.0)

pub loop-at-smaller : goal.loop-at-smaller
unfolding up4
loop-at-smaller c =
    let n = next_here c.args.m.now c.loop-at.at c.loop-at-test.true c.loop-at.invariant.3 in
    omega (arith, n.0, n.1, c.read24-n.ensures.0)

pub loop-at-preserved : goal.loop-at-preserved
unfolding up4
loop-at-preserved c =
    let m = c.args.m.now in
    let i = c.loop-at-test.true in
    let s : same_name routing_policy (avp_of (drop c.loop-at.at m)).name ≡ false = sym c.is_route.ensures ∙ c.if-is_route.false in
    let e : c.read24-n.result ≡ net24 m (c.loop-at.at + 5) = c.read24-n.ensures.0 in
    let n = next_here m c.loop-at.at i c.loop-at.invariant.3 in
    rw e (omega (arith, n.0, c.loop-at.invariant.0), n.1, another m c.loop-at.at i c.loop-at.invariant.3 s ∙ c.loop-at.invariant.2, passes_on m c.loop-at.at i c.loop-at.invariant.3)

pub returns : goal.returns
returns c =
    let m = c.args.m.now in
    let e = ends-here m c.loop-at.at c.loop-at-test.false in
    route-none m c.args.from (omega (arith, c.requires.0, c.requires.1)) (sym c.loop-at.invariant.2 ∙ e.0)
