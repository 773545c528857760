use mathlib.Core.Path.{◌≡◌, sym, ap, ◌∙◌}
use mathlib.Core.Bool.{Bool}
use Prim.Native.Nat.{◌+◌, ◌≤◌}
use native.Mathlib.Omega.{arith}
use lib.ListN.{drop}
use Rattle.likeness.specs.Code.{avp_at, named_from}
use Rattle.likeness.proofs.Places.{stands, reaches, passes-here, next-is}
use Rattle.likeness.proofs.Named.{one_less, count-here, count_none}
use Rattle.octets.specs.Choice.{pick}
use Rattle.octets.specs.Numbers.{up4}
use Rattle.message.specs.ReadingAMessage.{same_name, avp_length}
use Rattle.likeness.proofs.named_from.Goals as goal

pub loop-next-init : goal.loop-next-init
loop-next-init c =
    let next-at-was = c.next_at-next in
    (omega arith, next-at-was.ensures, omega arith)

pub same_name-requires : goal.same_name-requires
same_name-requires c =
    let pre-was = c.requires in
    let given = c.args in
    let loop-was = c.loop-next in
    let loop-test-was = c.loop-next-test in
    (pre-was, stands given.m.now loop-was.p (passes-here given.m.now loop-was.p (λ z. loop-test-was.true (loop-was.invariant.1 ∙ z))))

pub overflow_add-n : goal.overflow_add-n
overflow_add-n c =
    let given = c.args in
    let loop-was = c.loop-next in
    let loop-test-was = c.loop-next-test in
    let one-if-was = c.one_if-n in
    let same-name-was = c.same_name in
    let k = passes-here given.m.now loop-was.p (λ z. loop-test-was.true (loop-was.invariant.1 ∙ z)) in
    let s = stands given.m.now loop-was.p k in
    let o : one-if-was.result ≤ 1 = one_less same-name-was.result one-if-was.result one-if-was.ensures in
    omega (arith, s.eight, o, loop-was.invariant.2)

pub loop-next-smaller : goal.loop-next-smaller
loop-next-smaller c =
    let given = c.args in
    let loop-was = c.loop-next in
    let loop-test-was = c.loop-next-test in
    let k = passes-here given.m.now loop-was.p (λ z. loop-test-was.true (loop-was.invariant.1 ∙ z)) in
    let r = reaches given.m.now loop-was.p k in
    let e : loop-was.next ≡ loop-was.p + up4 (avp_length (drop loop-was.p given.m.now)) = loop-was.invariant.1 ∙ next-is given.m.now loop-was.p k in
    omega (arith, r.0, r.1, e)

pub loop-next-preserved : goal.loop-next-preserved
loop-next-preserved c =
    let given = c.args in
    let loop-was = c.loop-next in
    let loop-test-was = c.loop-next-test in
    let one-if-was = c.one_if-n in
    let same-name-was = c.same_name in
    let next-at2-was = c.next_at-next-in-loop-next in
    let k = passes-here given.m.now loop-was.p (λ z. loop-test-was.true (loop-was.invariant.1 ∙ z)) in
    let r = reaches given.m.now loop-was.p k in
    let e : loop-was.next ≡ loop-was.p + up4 (avp_length (drop loop-was.p given.m.now)) = loop-was.invariant.1 ∙ next-is given.m.now loop-was.p k in
    let o : one-if-was.result ≤ 1 = one_less same-name-was.result one-if-was.result one-if-was.ensures in
    let one : one-if-was.result ≡ pick (same_name (avp_at given.other.now given.at).name (avp_at given.m.now loop-was.p).name) 1 0 = one-if-was.ensures ∙ ap (λ (b : Bool). pick b 1 0) same-name-was.ensures in
    let c : named_from (avp_at given.other.now given.at).name given.m.now loop-was.p ≡ pick (same_name (avp_at given.other.now given.at).name (avp_at given.m.now loop-was.p).name) 1 0 + named_from (avp_at given.other.now given.at).name given.m.now loop-was.next = count-here (avp_at given.other.now given.at).name given.m.now loop-was.p loop-was.next (sym loop-was.invariant.1) loop-test-was.true in
    (omega (arith, one, c, loop-was.invariant.0), next-at2-was.ensures, omega (arith, o, r.0, e, loop-was.invariant.2))

pub returns : goal.returns
returns c =
    let given = c.args in
    let loop-was = c.loop-next in
    let loop-test-was = c.loop-next-test in
    let z : named_from (avp_at given.other.now given.at).name given.m.now loop-was.p ≡ 0 = count_none (avp_at given.other.now given.at).name given.m.now loop-was.p (sym loop-was.invariant.1 ∙ loop-test-was.false) in
    omega (arith, z, loop-was.invariant.0)
