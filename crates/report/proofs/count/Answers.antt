-- 29, then 30, then the list counted.
use mathlib.Core.Path.{◌≡◌, sym, ap, ◌∙◌}
use mathlib.Core.List.{List}
use borrow.Author.Rules.{rules}
use mathlib.Core.Bool.{true, false}
use Prim.Native.Nat.{ℕ}
use Rattle.octets.specs.Lists.{every}
use Rattle.report.specs.Code.{leaves, told_by}
use Rattle.report.specs.TheReport.{held, with, hour_right}
use Rattle.report.proofs.Leaving.{wrong-hour, passed-bits, counted-all}
use Rattle.report.proofs.count.Goals as goal

pub returns-then-not-hours_right : goal.returns-then-not-hours_right
returns-then-not-hours_right c = let a = c.args in
    let no : every hour_right (told_by a.told.now) ≡ false = sym c.hours_right.ensures ∙ c.if-not-hours_right.true in
    wrong-hour a.report.now (told_by a.told.now) no

pub holds_list-requires : goal.holds_list-requires
holds_list-requires c = let right : every hour_right (told_by c.args.told.now) ≡ true = sym c.hours_right.ensures ∙ c.if-not-hours_right.false in
    (search rules, right)

pub returns-then-not-holds_list : goal.returns-then-not-holds_list
returns-then-not-holds_list c = let a = c.args in
    let right : every hour_right (told_by a.told.now) ≡ true =
    sym c.hours_right.ensures ∙ c.if-not-hours_right.false in
    let no : held (with a.report.now (told_by a.told.now)) ≡ false = sym c.holds_list.ensures ∙ c.if-not-holds_list.true in
    passed-bits a.report.now (told_by a.told.now) right no

pub count_all-requires : goal.count_all-requires
count_all-requires c = let right : every hour_right (told_by c.args.told.now) ≡ true =
    sym c.hours_right.ensures ∙ c.if-not-hours_right.false in
    let yes : held (with c.args.report.now (told_by c.args.told.now)) ≡ true =
    sym c.holds_list.ensures ∙ c.if-not-holds_list.false in
    (search rules, right, yes)

pub returns : goal.returns
returns c = let a = c.args in
    let right : every hour_right (told_by a.told.now) ≡ true = sym c.hours_right.ensures ∙ c.if-not-hours_right.false in
    let yes : held (with a.report.now (told_by a.told.now)) ≡ true = sym c.holds_list.ensures ∙ c.if-not-holds_list.false in
    ap (λ (r : List ℕ). leaves 0 r) c.count_all.ensures ∙ counted-all a.report.now (told_by a.told.now) right yes
