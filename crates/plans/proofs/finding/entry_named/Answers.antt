-- One entry after another, and the search goes on behind it.
use mathlib.Core.Bool.{true, false}
use Rattle.table.specs.TheTable.{read_row}
use Rattle.table.specs.Soundness.{same_label}
use Rattle.rules.specs.Deciding.{entry_named, entry_at, no_entry}
use Rattle.plans.specs.Plans.{found}
use Rattle.plans.proofs.Entries.{name-over, name-hit, name-on}
use Rattle.plans.proofs.Search.{found-some, found-none}
use mathlib.Core.Path.{◌≡◌, refl, sym, ap, ◌∙◌}
use Prim.Native.Nat.{◌+◌, ◌-◌, ◌≤◌}
use native.Mathlib.Omega.{arith}
use lib.ListN.{length, get_or}
use borrow.Author.Rules.{rules}
use Rattle.plans.proofs.finding.entry_named.Goals as goal

pub loop-n-init : goal.loop-n-init
unfolding entry_named
loop-n-init c = refl

pub loop-n-preserved : goal.loop-n-preserved
unfolding entry_at
loop-n-preserved c =
    let a = c.args in
    let es = (read_row a.row.now).entries in
    let n = c.loop-n.n in
    let le : n ≤ length es = omega (arith, c.loop-n-test.true, c.entry_count-n-end.ensures.0) in
    let test : same_label a.label.now (get_or es (n - 1) no_entry).label ≡ false = sym c.has_label.ensures ∙ c.if-has_label.false in
    sym (name-on a.label.now es n (omega arith) le test) ∙ c.loop-n.invariant

pub returns-then-has_label : goal.returns-then-has_label
unfolding entry_at
returns-then-has_label c =
    let a = c.args in
    let es = (read_row a.row.now).entries in
    let n = c.loop-n.n in
    let le : n ≤ length es = omega (arith, c.loop-n-test.true, c.entry_count-n-end.ensures.0) in
    let test : same_label a.label.now (get_or es (n - 1) no_entry).label ≡ true = sym c.has_label.ensures ∙ c.if-has_label.true in
    let one : 1 ≤ n = omega arith in
    (found-some n (λ z. omega (arith, one, z)) ∙ ap found (sym (name-hit a.label.now es n one le test) ∙ c.loop-n.invariant), (one, le))

pub returns : goal.returns
returns c =
    let a = c.args in
    let es = (read_row a.row.now).entries in
    let one : 1 ≤ c.loop-n.n = omega arith in
    (found-none _ (sym c.loop-n.invariant ∙ name-over a.label.now es c.loop-n.n one (omega (arith, c.loop-n-test.false, c.entry_count-n-end.ensures.0))), search rules)

pub returns-else-has_label : goal.returns-else-has_label
unfolding entry_at
returns-else-has_label c =
    let a = c.args in
    let es = (read_row a.row.now).entries in
    let n = c.loop-n.n in
    let one : 1 ≤ n = omega arith in
    let le : n ≤ length es = omega (arith, c.loop-n-test.true, c.entry_count-n-end.ensures.0) in
    let test : same_label a.label.now (get_or es (n - 1) no_entry).label ≡ false = sym c.has_label.ensures ∙ c.if-has_label.false in
    (found-none _ (sym c.loop-n.invariant ∙ name-on a.label.now es n one le test ∙ name-over a.label.now es (n + 1) (omega arith) (omega (arith, c.entry_count-n-end.ensures.0))), search rules)
