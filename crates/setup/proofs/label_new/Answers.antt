use mathlib.Core.Bool.{not}
use mathlib.Core.Path.{sym, ap, ◌∙◌}
use mathlib.Core.List.{List, []}
use Prim.Native.Nat.{ℕ}
use native.Mathlib.Omega.{arith}
use Rattle.table.specs.Soundness.{labels, same_label}
use Rattle.table.specs.TheTable.{read_entries}
use Rattle.table.proofs.Tests.{every-end, every-on-true, every-out}
use Rattle.table.proofs.Entries.{label-size, labels_at, length-labels}
use Rattle.setup.proofs.label_new.Goals as goal

pub label-requires : goal.label-requires
label-requires c =
    let pre-was = c.requires in
    let given = c.args in
    let loop-was = c.loop-i in
    (pre-was.0, omega arith, label-size given.n loop-was.i given.room.now (omega arith) pre-was.2)

pub returns-then-same_label : goal.returns-then-same_label
returns-then-same_label c =
    let given = c.args in
    let same-label-was = c.same_label in
    let label-was = c.label in
    let loop-was = c.loop-i in
    let test1 = c.if-same_label in
    let all : List (List ℕ) = labels (read_entries given.n given.room.now) in
    let said = same-label-was.ensures ∙ ap (λ (l : List ℕ). same_label l given.label.now) (label-was.ensures ∙ sym (labels_at given.n loop-was.i given.room.now (omega arith))) in
    sym (every-out [] (λ l. not (same_label l given.label.now)) all loop-was.i (omega (arith, length-labels given.n given.room.now)) (ap not (sym said ∙ test1.true))) ∙ loop-was.invariant.1

pub loop-i-preserved : goal.loop-i-preserved
loop-i-preserved c =
    let given = c.args in
    let same-label-was = c.same_label in
    let label-was = c.label in
    let loop-was = c.loop-i in
    let test1 = c.if-same_label in
    let all : List (List ℕ) = labels (read_entries given.n given.room.now) in
    let said = same-label-was.ensures ∙ ap (λ (l : List ℕ). same_label l given.label.now) (label-was.ensures ∙ sym (labels_at given.n loop-was.i given.room.now (omega arith))) in
    (omega arith, every-on-true [] (λ l. not (same_label l given.label.now)) all loop-was.i (omega (arith, length-labels given.n given.room.now)) (ap not (sym said ∙ test1.false)) ∙ loop-was.invariant.1)

pub returns : goal.returns
returns c =
    let given = c.args in
    let loop-was = c.loop-i in
    let all : List (List ℕ) = labels (read_entries given.n given.room.now) in
    sym (every-end [] (λ l. not (same_label l given.label.now)) all loop-was.i (omega (arith, length-labels given.n given.room.now))) ∙ loop-was.invariant.1
