-- The divisor is not 0, since it divides the openings.
use mathlib.Core.Path.{◌≡◌}
use mathlib.Core.Bool.{true, false}
use Prim.Native.Nat.{◌<◌}
use native.Mathlib.Omega.{arith}
use native.Mathlib.Nat.{pos_of_ne-zero}
use borrow.Author.Tests.{eq-eqb, ne_eqb}
use lib.Dec.{eqb}
use Rattle.octets.specs.Choice.{pick}
use Rattle.report.specs.Rates.{lowest, divisor}
use Rattle.report.specs.Code.{ratio_said}
use Rattle.report.proofs.Divisors.{positive}
use Rattle.report.proofs.lowest_of.Goals as goal

pub returns-then-opened-eq0 : goal.returns-then-opened-eq0
unfolding ratio_said lowest pick
returns-then-opened-eq0 c = let e : eqb c.args.opened 0 ≡ true = eq-eqb _ 0 c.if-opened-eq0.true in
    rw e

pub nonzero_div-result : goal.nonzero_div-result
nonzero_div-result c = let a = c.args in
    let some : 0 < c.divisor_of-d.result = rw c.divisor_of-d.ensures (positive a.cuts a.opened (pos_of_ne-zero c.if-opened-eq0.false)) in
    omega arith

pub nonzero_div-result-2 : goal.nonzero_div-result-2
nonzero_div-result-2 c = let a = c.args in
    let some : 0 < c.divisor_of-d.result = rw c.divisor_of-d.ensures (positive a.cuts a.opened (pos_of_ne-zero c.if-opened-eq0.false)) in
    omega arith

pub returns : goal.returns
unfolding ratio_said lowest pick
returns c = let a = c.args in
    let e : eqb a.opened 0 ≡ false = ne_eqb _ 0 c.if-opened-eq0.false in
    let d : c.divisor_of-d.result ≡ divisor a.cuts a.opened = c.divisor_of-d.ensures in
    rw (e, d)
