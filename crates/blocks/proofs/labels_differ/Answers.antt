use mathlib.Core.Path.{◌∙◌, ◌≡◌, sym}
use mathlib.Core.Bool.{false, not, true}
use mathlib.Core.List.{List, []}
use Prim.Native.Nat.{◌+◌, ℕ}
use native.Mathlib.Omega.{arith}
use lib.ListN.{drop, get_or}
use Rattle.octets.specs.Lists.{every}
use Rattle.table.specs.Soundness.{labels, same_label}
use Rattle.table.specs.TheTable.{read_entries}
use Rattle.table.proofs.Tests.{distinct-end, distinct-turn, fails, passes_on}
use Rattle.table.proofs.Entries.{length-labels}
use Rattle.blocks.proofs.labels_differ.Goals as goal

-- the way on comes before the way out, so that what is passed wrongly is refused here
pub loop-i-preserved : goal.loop-i-preserved
loop-i-preserved c =
    let given = c.args in
    let loop-was = c.loop-i in
    let label-once-was = c.label_once in
    let test1 = c.if-not-label_once in
    let all : List (List ℕ) = labels (read_entries given.n given.room.now) in
    let said : every (λ y. not (same_label (get_or all loop-was.i []) y)) (drop (loop-was.i + 1) all) ≡ true = passes_on label-once-was.ensures test1.false in
    (sym (distinct-turn [] same_label all loop-was.i (omega (arith, length-labels given.n given.room.now)) ∙ rw said) ∙ loop-was.invariant)

pub returns-then-not-label_once : goal.returns-then-not-label_once
returns-then-not-label_once c =
    let given = c.args in
    let loop-was = c.loop-i in
    let label-once-was = c.label_once in
    let test1 = c.if-not-label_once in
    let all : List (List ℕ) = labels (read_entries given.n given.room.now) in
    let said : every (λ y. not (same_label (get_or all loop-was.i []) y)) (drop (loop-was.i + 1) all) ≡ false = fails label-once-was.ensures test1.true in
    sym (distinct-turn [] same_label all loop-was.i (omega (arith, length-labels given.n given.room.now)) ∙ rw said) ∙ loop-was.invariant

pub returns : goal.returns
returns c =
    let given = c.args in
    let loop-was = c.loop-i in
    let all : List (List ℕ) = labels (read_entries given.n given.room.now) in
    sym (distinct-end [] same_label all loop-was.i (omega (arith, length-labels given.n given.room.now))) ∙ loop-was.invariant
