-- The clauses of block 0 in order: `head-sound-is` of Tested.
use mathlib.Core.Path.{◌∙◌, ap, refl}
use mathlib.Core.List.{List}
use Prim.Native.Nat.{ℕ}
use native.Mathlib.Omega.{arith}
use lib.Dec.{leb}
use lib.ListN.{get_or, length}
use Rattle.octets.specs.Lists.{distinct, sum_of}
use Rattle.row.proofs.Entries.{head-size, length-room}
use Rattle.table.specs.Soundness.{entries_form, head_form, labels, limits, same_label}
use Rattle.table.specs.TheTable.{head, read_entries}
use Rattle.table.proofs.Tests.{fails, passes_on}
use Rattle.soundness.proofs.Tested.{head-count, head-sound-is}
use Rattle.soundness.proofs.head_sound.Goals as goal

pub head_form-requires : goal.head_form-requires
head_form-requires c =
    let head-was = c.head in
    let given = c.args in
    let pre-was = c.requires in
    ap length head-was.ensures ∙ head-size given.r.now pre-was

pub returns-then-not-head_form : goal.returns-then-not-head_form
returns-then-not-head_form c =
    let given = c.args in
    let head-form-was = c.head_form in
    let head-was = c.head in
    let test1 = c.if-not-head_form in
    rw (head-sound-is given.r.now (get_or (head given.r.now) 18 0) refl, fails (head-form-was.ensures ∙ ap head_form head-was.ensures) test1.true)

pub entries_form-requires : goal.entries_form-requires
entries_form-requires c =
    let entries-room-was = c.entries_room-entries in
    let given = c.args in
    let pre-was = c.requires in
    let head-form-was = c.head_form in
    let head-was = c.head in
    let test1 = c.if-not-head_form in
    let from-was = c.from-n in
    let entry-count-was = c.entry_count in
    (ap length entries-room-was.ensures ∙ length-room given.r.now pre-was, omega (arith, head-count given.r.now (passes_on (head-form-was.ensures ∙ ap head_form head-was.ensures) test1.false), from-was.ensures ∙ entry-count-was.ensures))

pub returns-then-not-entries_form : goal.returns-then-not-entries_form
returns-then-not-entries_form c =
    let given = c.args in
    let from-was = c.from-n in
    let entry-count-was = c.entry_count in
    let head-form-was = c.head_form in
    let head-was = c.head in
    let test1 = c.if-not-head_form in
    let entries-form-was = c.entries_form in
    let entries-room-was = c.entries_room-entries in
    let test2 = c.if-not-entries_form in
    rw (head-sound-is given.r.now from-was.result (from-was.ensures ∙ entry-count-was.ensures), passes_on (head-form-was.ensures ∙ ap head_form head-was.ensures) test1.false, fails (entries-form-was.ensures ∙ ap (entries_form from-was.result) entries-room-was.ensures) test2.true)

pub labels_differ-requires : goal.labels_differ-requires
labels_differ-requires c =
    let entries-room-was = c.entries_room-entries in
    let given = c.args in
    let pre-was = c.requires in
    let head-form-was = c.head_form in
    let head-was = c.head in
    let test1 = c.if-not-head_form in
    let from-was = c.from-n in
    let entry-count-was = c.entry_count in
    let entries-form-was = c.entries_form in
    let test2 = c.if-not-entries_form in
    (ap length entries-room-was.ensures ∙ length-room given.r.now pre-was, omega (arith, head-count given.r.now (passes_on (head-form-was.ensures ∙ ap head_form head-was.ensures) test1.false), from-was.ensures ∙ entry-count-was.ensures), passes_on entries-form-was.ensures test2.false)

pub returns-then-not-labels_differ : goal.returns-then-not-labels_differ
returns-then-not-labels_differ c =
    let given = c.args in
    let from-was = c.from-n in
    let entry-count-was = c.entry_count in
    let head-form-was = c.head_form in
    let head-was = c.head in
    let test1 = c.if-not-head_form in
    let entries-form-was = c.entries_form in
    let entries-room-was = c.entries_room-entries in
    let test2 = c.if-not-entries_form in
    let labels-differ-was = c.labels_differ in
    let test3 = c.if-not-labels_differ in
    rw (head-sound-is given.r.now from-was.result (from-was.ensures ∙ entry-count-was.ensures), passes_on (head-form-was.ensures ∙ ap head_form head-was.ensures) test1.false, passes_on (entries-form-was.ensures ∙ ap (entries_form from-was.result) entries-room-was.ensures) test2.false, fails (labels-differ-was.ensures ∙ ap (λ (t : List ℕ). distinct same_label (labels (read_entries from-was.result t))) entries-room-was.ensures) test3.true)

pub limits_sum-requires : goal.limits_sum-requires
limits_sum-requires c =
    let entries-room-was = c.entries_room-entries in
    let given = c.args in
    let pre-was = c.requires in
    let head-form-was = c.head_form in
    let head-was = c.head in
    let test1 = c.if-not-head_form in
    let from-was = c.from-n in
    let entry-count-was = c.entry_count in
    (ap length entries-room-was.ensures ∙ length-room given.r.now pre-was, omega (arith, head-count given.r.now (passes_on (head-form-was.ensures ∙ ap head_form head-was.ensures) test1.false), from-was.ensures ∙ entry-count-was.ensures))

pub returns : goal.returns
returns c =
    let given = c.args in
    let from-was = c.from-n in
    let entry-count-was = c.entry_count in
    let head-form-was = c.head_form in
    let head-was = c.head in
    let test1 = c.if-not-head_form in
    let entries-form-was = c.entries_form in
    let entries-room-was = c.entries_room-entries in
    let test2 = c.if-not-entries_form in
    let labels-differ-was = c.labels_differ in
    let test3 = c.if-not-labels_differ in
    let limits-sum-was = c.limits_sum in
    rw (head-sound-is given.r.now from-was.result (from-was.ensures ∙ entry-count-was.ensures), passes_on (head-form-was.ensures ∙ ap head_form head-was.ensures) test1.false, passes_on (entries-form-was.ensures ∙ ap (entries_form from-was.result) entries-room-was.ensures) test2.false, passes_on (labels-differ-was.ensures ∙ ap (λ (t : List ℕ). distinct same_label (labels (read_entries from-was.result t))) entries-room-was.ensures) test3.false)
    (ap (λ (k : ℕ). leb k 8) (limits-sum-was.ensures.0 ∙ ap (λ (t : List ℕ). sum_of (limits (read_entries from-was.result t))) entries-room-was.ensures))
