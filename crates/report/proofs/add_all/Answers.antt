use mathlib.Core.Path.{◌≡◌, refl, sym, ◌∙◌}
use mathlib.Core.List.{List}
use Prim.Native.Nat.{ℕ, ◌+◌, ◌<◌}
use native.Mathlib.Omega.{arith}
use lib.ListN.{length, get_or, length-set}
use Rattle.report.specs.TheReport.{plus}
use Rattle.report.proofs.Writing.{done-read, done-step, done-last, cell-held, cell-plus}
use Rattle.report.proofs.Counting.{length-plus}
use Rattle.report.proofs.add_all.Goals as goal

pub loop-i-init : goal.loop-i-init
loop-i-init c = (c.requires.0, refl)

pub overflow_add-report : goal.overflow_add-report
overflow_add-report c = let a = c.args in
    let i = c.loop-i.i in
    let all : List ℕ = plus a.report.now a.more.now in
    let was : get_or c.loop-i.report i 0 ≡ get_or a.report.now i 0 =
    rw c.loop-i.invariant.1 (done-read all a.report.now (length-plus a.report.now a.more.now ∙ sym c.requires.0) i (omega arith)) in
    let fits : get_or c.loop-i.report i 0 + get_or a.more.now i 0 < 18446744073709551616 =
    omega (arith, cell-held all i c.requires.2 (omega arith), cell-plus a.report.now a.more.now i (omega arith)) in
    record { fits = fits }

pub loop-i-preserved : goal.loop-i-preserved
loop-i-preserved c = let a = c.args in
    let i = c.loop-i.i in
    let all : List ℕ = plus a.report.now a.more.now in
    let n : length all ≡ length a.report.now = length-plus a.report.now a.more.now ∙ sym c.requires.0 in
    let was : get_or c.loop-i.report i 0 ≡ get_or a.report.now i 0 = rw c.loop-i.invariant.1 (done-read all a.report.now n i (omega arith)) in
    let is : get_or c.loop-i.report i 0 + get_or a.more.now i 0 ≡ get_or all i 0 = omega (arith, cell-plus a.report.now a.more.now i (omega arith)) in (
      simp length-set c.loop-i.invariant.0,
      rw c.loop-i.invariant.1 (done-step all a.report.now n i _ (omega arith) (rw c.loop-i.invariant.1 at is)),
    )

pub returns : goal.returns
returns c = let a = c.args in
    let n : length (plus a.report.now a.more.now) ≡ length a.report.now = length-plus a.report.now a.more.now ∙ sym c.requires.0 in
    c.loop-i.invariant.1 ∙ done-last (plus a.report.now a.more.now) a.report.now n c.loop-i.i (omega arith) (λ j u v. absurd (omega arith))
