use mathlib.Core.Path.{◌≡◌, refl, sym, ap, ◌∙◌}
use mathlib.Core.Bool.{Bool, true, false, ◌&&◌}
use Prim.Native.Nat.{ℕ, ◌+◌, ◌-◌}
use native.Mathlib.Omega.{arith}
use lib.Dec.{eqb}
use lib.ListN.{drop}
use Rattle.likeness.specs.Code.{avp_at, avps_from}
use Rattle.likeness.proofs.Places.{stands, reaches, passes-here, next-is}
use Rattle.likeness.proofs.Named.{met-here, met-on, none-met}
use Rattle.octets.specs.Choice.{pick}
use Rattle.octets.specs.Numbers.{up4}
use Rattle.message.specs.ReadingAMessage.{same_name, avp_length, having}
use Rattle.likeness.specs.TheSameAnswer.{first_is}
use Rattle.likeness.proofs.met_by.Goals as goal

pub loop-next-init : goal.loop-next-init
loop-next-init c =
    let next-at-was = c.next_at-next in
    (next-at-was.ensures, refl)

pub same_name-same-requires : goal.same_name-same-requires
same_name-same-requires c =
    let pre-was = c.requires in
    let given = c.args in
    let loop-was = c.loop-next in
    let loop-test-was = c.loop-next-test in
    (pre-was, stands given.ours.now loop-was.p (passes-here given.ours.now loop-was.p (λ z. loop-test-was.true (loop-was.invariant.0 ∙ z))))

pub same_avp-requires : goal.same_avp-requires
same_avp-requires c =
    let given = c.args in
    let loop-was = c.loop-next in
    let loop-test-was = c.loop-next-test in
    let pre-was = c.requires in
    (stands given.ours.now loop-was.p (passes-here given.ours.now loop-was.p (λ z. loop-test-was.true (loop-was.invariant.0 ∙ z))), pre-was)

pub returns-then-is_it : goal.returns-then-is_it
returns-then-is_it c =
    let given = c.args in
    let loop-was = c.loop-next in
    let same-name-was = c.same_name-same in
    let is-it-was = c.is_it in
    let test1 = c.if-is_it in
    let same-avp-was = c.same_avp in
    let loop-test-was = c.loop-next-test in
    let it : same_name (avp_at given.theirs.now given.at).name (avp_at given.ours.now loop-was.p).name && eqb loop-was.left 0 ≡ true = ap (λ (b : Bool). b && eqb loop-was.left 0) (sym same-name-was.ensures) ∙ sym is-it-was.ensures ∙ test1.true in
    same-avp-was.ensures ∙ sym (met-here (avp_at given.theirs.now given.at).name given.ours.now loop-was.p (avp_at given.theirs.now given.at) loop-was.left loop-was.next (sym loop-was.invariant.0) loop-test-was.true it) ∙ loop-was.invariant.1

pub loop-next-smaller : goal.loop-next-smaller
loop-next-smaller c =
    let given = c.args in
    let loop-was = c.loop-next in
    let loop-test-was = c.loop-next-test in
    let k = passes-here given.ours.now loop-was.p (λ z. loop-test-was.true (loop-was.invariant.0 ∙ z)) in
    let r = reaches given.ours.now loop-was.p k in
    let e : loop-was.next ≡ loop-was.p + up4 (avp_length (drop loop-was.p given.ours.now)) = loop-was.invariant.0 ∙ next-is given.ours.now loop-was.p k in
    omega (arith, r.0, r.1, e)

pub loop-next-preserved : goal.loop-next-preserved
loop-next-preserved c =
    let given = c.args in
    let loop-was = c.loop-next in
    let same-name-was = c.same_name-same in
    let is-it-was = c.is_it in
    let test1 = c.if-is_it in
    let one-if-was = c.one_if in
    let minus-was = c.minus-left in
    let next-at2-was = c.next_at-next-in-loop-next in
    let loop-test-was = c.loop-next-test in
    let it : same_name (avp_at given.theirs.now given.at).name (avp_at given.ours.now loop-was.p).name && eqb loop-was.left 0 ≡ false = ap (λ (b : Bool). b && eqb loop-was.left 0) (sym same-name-was.ensures) ∙ sym is-it-was.ensures ∙ test1.false in
    let one : one-if-was.result ≡ pick (same_name (avp_at given.theirs.now given.at).name (avp_at given.ours.now loop-was.p).name) 1 0 = one-if-was.ensures ∙ ap (λ (b : Bool). pick b 1 0) same-name-was.ensures in
    let l : minus-was.result ≡ loop-was.left - pick (same_name (avp_at given.theirs.now given.at).name (avp_at given.ours.now loop-was.p).name) 1 0 = minus-was.ensures ∙ ap (λ (x : ℕ). loop-was.left - x) one in
    (next-at2-was.ensures, ap (λ (x : ℕ). first_is (drop x (having (avp_at given.theirs.now given.at).name (avps_from given.ours.now loop-was.next))) (avp_at given.theirs.now given.at)) l ∙ met-on (avp_at given.theirs.now given.at).name given.ours.now loop-was.p (avp_at given.theirs.now given.at) loop-was.left loop-was.next (sym loop-was.invariant.0) loop-test-was.true it ∙ loop-was.invariant.1)

pub returns : goal.returns
returns c =
    let given = c.args in
    let loop-was = c.loop-next in
    let loop-test-was = c.loop-next-test in
    sym (none-met (avp_at given.theirs.now given.at).name given.ours.now loop-was.p (avp_at given.theirs.now given.at) loop-was.left (sym loop-was.invariant.0 ∙ loop-test-was.false)) ∙ loop-was.invariant.1
