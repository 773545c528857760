use mathlib.Core.Path.{◌≡◌, refl, sym, ap, ◌∙◌}
use mathlib.Core.Bool.{true}
use mathlib.Core.List.{List, [], ◌∷◌}
use Prim.Native.Nat.{ℕ, ◌+◌}
use native.Mathlib.Omega.{arith}
use lib.ListN.{length, get_or, drop}
use Rattle.octets.specs.Lists.{every}
use Rattle.report.specs.Code.{told_by, told_of}
use Rattle.report.specs.TheReport.{with, hour_right, held}
use Rattle.report.proofs.Loops.{next, none_left}
use Rattle.report.proofs.Counting.{length-with, with_none, with-with, first-right, rest-right, first-held}
use Rattle.report.proofs.count_all.Goals as goal

pub loop-t-init : goal.loop-t-init
loop-t-init c = (c.requires.0, c.requires.1, refl)

pub count_one-requires : goal.count_one-requires
unfolding told_of
count_one-requires c = let told = c.args.told.now in
    let t = told_of (get_or told c.loop-t.t-index []) in
    let list : told_by (drop c.loop-t.t-index told) ≡ t ∷ told_by (drop (c.loop-t.t-index + 1) told) = next told c.loop-t.t-index (omega arith) in
    let right : every hour_right (t ∷ told_by (drop (c.loop-t.t-index + 1) told)) ≡ true = rw list at c.loop-t.invariant.1 in
    let all : held (with c.loop-t.report (t ∷ told_by (drop (c.loop-t.t-index + 1) told))) ≡ true =
    rw (← list, c.loop-t.invariant.2) c.requires.2 in
    (c.loop-t.invariant.0, first-right t _ right, first-held c.loop-t.report t _ right all)

pub loop-t-preserved : goal.loop-t-preserved
loop-t-preserved c = let told = c.args.told.now in
    let t = told_of (get_or told c.loop-t.t-index []) in
    let rest = told_by (drop (c.loop-t.t-index + 1) told) in
    let list : told_by (drop c.loop-t.t-index told) ≡ t ∷ rest = next told c.loop-t.t-index (omega arith) in
    let right : every hour_right (t ∷ rest) ≡ true = rw list at c.loop-t.invariant.1 in
    let now-is : c.count_one.new.report ≡ with c.loop-t.report (t ∷ []) = c.count_one.ensures in
    let onward : with c.loop-t.report (t ∷ rest) ≡ with c.args.report.now (told_by told) = rw list at c.loop-t.invariant.2 in (
      ap length now-is ∙ length-with c.loop-t.report (t ∷ []),
      rest-right t rest right,
      ap (λ (r : List ℕ). with r rest) now-is ∙ with-with c.loop-t.report (t ∷ []) rest ∙ onward,
    )

pub returns : goal.returns
returns c = let told = c.args.told.now in
    let none : told_by (drop c.loop-t.t-index told) ≡ [] = none_left told c.loop-t.t-index (omega arith) in
    sym (with_none c.loop-t.report c.loop-t.invariant.0) ∙ rw none at c.loop-t.invariant.2
