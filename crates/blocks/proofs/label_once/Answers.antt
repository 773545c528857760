use mathlib.Core.Path.{◌∙◌, ◌≡◌, ap, sym}
use mathlib.Core.Bool.{not}
use mathlib.Core.List.{List, []}
use Prim.Native.Nat.{ℕ}
use native.Mathlib.Omega.{arith}
use lib.ListN.{get_or}
use Rattle.table.specs.Soundness.{labels, same_label}
use Rattle.table.specs.TheTable.{read_entries}
use Rattle.table.proofs.Tests.{every-end, every-on-true, every-out}
use Rattle.table.proofs.Entries.{label-size, labels_at, length-labels}
use Rattle.blocks.proofs.label_once.Goals as goal

pub label-this-requires : goal.label-this-requires
label-this-requires c =
    let pre-was = c.requires in
    let given = c.args in
    (pre-was.0, omega arith, label-size given.n given.i given.room.now pre-was.2 pre-was.3)

pub label-requires : goal.label-requires
label-requires c =
    let pre-was = c.requires in
    let given = c.args in
    let loop-was = c.loop-j in
    (pre-was.0, omega arith, label-size given.n loop-was.j given.room.now (omega arith) pre-was.3)

pub returns-then-same_label : goal.returns-then-same_label
returns-then-same_label c =
    let given = c.args in
    let same-label-was = c.same_label in
    let loop-was = c.loop-j in
    let label2-was = c.label in
    let label-was = c.label-this in
    let pre-was = c.requires in
    let test1 = c.if-same_label in
    let all : List (List ℕ) = labels (read_entries given.n given.room.now) in
    let said : same-label-was.result ≡ same_label (get_or all given.i []) (get_or all loop-was.j []) =
    same-label-was.ensures ∙ ap (λ (t : List ℕ). same_label t label2-was.result.now) (label-was.ensures ∙ sym (labels_at given.n given.i given.room.now pre-was.2))
    ∙ ap (same_label (get_or all given.i [])) (label2-was.ensures ∙ sym (labels_at given.n loop-was.j given.room.now (omega arith))) in
    sym (every-out [] (λ y. not (same_label (get_or all given.i []) y)) all loop-was.j (omega (arith, length-labels given.n given.room.now)) (ap not (sym said ∙ test1.true))) ∙ loop-was.invariant

pub loop-j-preserved : goal.loop-j-preserved
loop-j-preserved c =
    let given = c.args in
    let same-label-was = c.same_label in
    let loop-was = c.loop-j in
    let label2-was = c.label in
    let label-was = c.label-this in
    let pre-was = c.requires in
    let test1 = c.if-same_label in
    let all : List (List ℕ) = labels (read_entries given.n given.room.now) in
    let said : same-label-was.result ≡ same_label (get_or all given.i []) (get_or all loop-was.j []) =
    same-label-was.ensures ∙ ap (λ (t : List ℕ). same_label t label2-was.result.now) (label-was.ensures ∙ sym (labels_at given.n given.i given.room.now pre-was.2))
    ∙ ap (same_label (get_or all given.i [])) (label2-was.ensures ∙ sym (labels_at given.n loop-was.j given.room.now (omega arith))) in
    (every-on-true [] (λ y. not (same_label (get_or all given.i []) y)) all loop-was.j (omega (arith, length-labels given.n given.room.now)) (ap not (sym said ∙ test1.false)) ∙ loop-was.invariant)

pub returns : goal.returns
returns c =
    let given = c.args in
    let loop-was = c.loop-j in
    let all : List (List ℕ) = labels (read_entries given.n given.room.now) in
    sym (every-end [] (λ y. not (same_label (get_or all given.i []) y)) all loop-was.j (omega (arith, length-labels given.n given.room.now))) ∙ loop-was.invariant
