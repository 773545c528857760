-- One law of Laws for each way out: `breaks-1` to `breaks-4`, and `form-kept`.
use mathlib.Core.Path.{◌∙◌, ap}
use Prim.Native.Nat.{ℕ}
use native.Mathlib.Omega.{arith}
use lib.ListN.{length}
use Rattle.table.specs.Soundness.{entries_form, head_form}
use Rattle.table.specs.TheTable.{entries_room}
use Rattle.table.proofs.Tests.{fails, passes_on}
use Rattle.row.proofs.Entries.{head-size, length-room, row-least}
use Rattle.soundness.proofs.Tested.{head-count}
use Rattle.clauses.specs.Clauses.{clause_number}
use Rattle.clauses.proofs.Laws.{breaks-1, breaks-2, breaks-3, breaks-4, form-kept}
use Rattle.clauses.proofs.broken_form.Goals as goal

pub head-requires : goal.head-requires
head-requires c =
    let given = c.args in
    let pre-was = c.requires in
    row-least given.r.now pre-was

pub head_form-requires : goal.head_form-requires
head_form-requires c =
    let head-was = c.head in
    let given = c.args in
    let pre-was = c.requires in
    ap length head-was.ensures ∙ head-size given.r.now (row-least given.r.now pre-was)

pub returns-then-not-head_form : goal.returns-then-not-head_form
unfolding clause_number
returns-then-not-head_form c =
    let given = c.args in
    let pre-was = c.requires in
    let head-form-was = c.head_form in
    let head-was = c.head in
    let test1 = c.if-not-head_form in
    breaks-1 given.r.now pre-was (fails (head-form-was.ensures ∙ ap head_form head-was.ensures) test1.true)

pub entries_room-requires : goal.entries_room-requires
entries_room-requires c =
    let given = c.args in
    let pre-was = c.requires in
    row-least given.r.now pre-was

pub entry_count-requires : goal.entry_count-requires
entry_count-requires c =
    let given = c.args in
    let pre-was = c.requires in
    row-least given.r.now pre-was

pub entries_form-requires : goal.entries_form-requires
entries_form-requires c =
    let entries-room-was = c.entries_room in
    let given = c.args in
    let pre-was = c.requires in
    let head-form-was = c.head_form in
    let head-was = c.head in
    let test1 = c.if-not-head_form in
    let long-was = c.from in
    let entry-count-was = c.entry_count in
    (ap length entries-room-was.ensures ∙ length-room given.r.now (row-least given.r.now pre-was), omega (arith, head-count given.r.now (passes_on (head-form-was.ensures ∙ ap head_form head-was.ensures) test1.false), long-was.ensures ∙ entry-count-was.ensures))

pub returns-then-not-entries_form : goal.returns-then-not-entries_form
unfolding clause_number
returns-then-not-entries_form c =
    let given = c.args in
    let pre-was = c.requires in
    let head-form-was = c.head_form in
    let head-was = c.head in
    let test1 = c.if-not-head_form in
    let entries-form-was = c.entries_form in
    let long-was = c.from in
    let entries-room-was = c.entries_room in
    let entry-count-was = c.entry_count in
    let test2 = c.if-not-entries_form in
    breaks-2 given.r.now pre-was (passes_on (head-form-was.ensures ∙ ap head_form head-was.ensures) test1.false) (fails (entries-form-was.ensures ∙ ap (entries_form long-was.result) entries-room-was.ensures ∙ ap (λ (n : ℕ). entries_form n (entries_room given.r.now)) (long-was.ensures ∙ entry-count-was.ensures)) test2.true)

pub returns-then-not-places_form : goal.returns-then-not-places_form
unfolding clause_number
returns-then-not-places_form c =
    let given = c.args in
    let pre-was = c.requires in
    let head-form-was = c.head_form in
    let head-was = c.head in
    let test1 = c.if-not-head_form in
    let entries-form-was = c.entries_form in
    let long-was = c.from in
    let entries-room-was = c.entries_room in
    let entry-count-was = c.entry_count in
    let test2 = c.if-not-entries_form in
    let places-form-was = c.places_form in
    let test3 = c.if-not-places_form in
    breaks-3 given.r.now pre-was (passes_on (head-form-was.ensures ∙ ap head_form head-was.ensures) test1.false) (passes_on (entries-form-was.ensures ∙ ap (entries_form long-was.result) entries-room-was.ensures ∙ ap (λ (n : ℕ). entries_form n (entries_room given.r.now)) (long-was.ensures ∙ entry-count-was.ensures)) test2.false) (fails places-form-was.ensures test3.true)

pub returns-then-not-sums_agree : goal.returns-then-not-sums_agree
unfolding clause_number
returns-then-not-sums_agree c =
    let given = c.args in
    let pre-was = c.requires in
    let head-form-was = c.head_form in
    let head-was = c.head in
    let test1 = c.if-not-head_form in
    let entries-form-was = c.entries_form in
    let long-was = c.from in
    let entries-room-was = c.entries_room in
    let entry-count-was = c.entry_count in
    let test2 = c.if-not-entries_form in
    let places-form-was = c.places_form in
    let test3 = c.if-not-places_form in
    let sums-agree-was = c.sums_agree in
    let test4 = c.if-not-sums_agree in
    breaks-4 given.r.now pre-was (passes_on (head-form-was.ensures ∙ ap head_form head-was.ensures) test1.false) (passes_on (entries-form-was.ensures ∙ ap (entries_form long-was.result) entries-room-was.ensures ∙ ap (λ (n : ℕ). entries_form n (entries_room given.r.now)) (long-was.ensures ∙ entry-count-was.ensures)) test2.false) (passes_on places-form-was.ensures test3.false) (fails sums-agree-was.ensures test4.true)

pub returns : goal.returns
unfolding clause_number
returns c =
    let given = c.args in
    let pre-was = c.requires in
    let head-form-was = c.head_form in
    let head-was = c.head in
    let test1 = c.if-not-head_form in
    let entries-form-was = c.entries_form in
    let long-was = c.from in
    let entries-room-was = c.entries_room in
    let entry-count-was = c.entry_count in
    let test2 = c.if-not-entries_form in
    let places-form-was = c.places_form in
    let test3 = c.if-not-places_form in
    let sums-agree-was = c.sums_agree in
    let test4 = c.if-not-sums_agree in
    form-kept given.r.now pre-was (passes_on (head-form-was.ensures ∙ ap head_form head-was.ensures) test1.false) (passes_on (entries-form-was.ensures ∙ ap (entries_form long-was.result) entries-room-was.ensures ∙ ap (λ (n : ℕ). entries_form n (entries_room given.r.now)) (long-was.ensures ∙ entry-count-was.ensures)) test2.false) (passes_on places-form-was.ensures test3.false) (passes_on sums-agree-was.ensures test4.false)
