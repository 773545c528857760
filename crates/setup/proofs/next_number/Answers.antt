-- One law of SetUps for each number: `entry-14` to `entry-17`, and `entry-0`.
use mathlib.Core.Path.{ap, ◌∙◌}
use native.Mathlib.Omega.{arith}
use lib.ListN.{length}
use Rattle.table.specs.TheTable.{Entry}
use Rattle.table.proofs.Tests.{fails, passes_on}
use Rattle.row.proofs.Entries.{count-is, least-of, length-room, most-four}
use Rattle.setup.proofs.SetUps.{entry-0, entry-14, entry-15, entry-16, entry-17, form-said, label-said, sum_said}
use Rattle.setup.proofs.next_number.Goals as goal

pub returns-then-not-entry_given : goal.returns-then-not-entry_given
returns-then-not-entry_given c =
    let given = c.args in
    let pre-was = c.requires in
    let entry-given-was = c.entry_given in
    let test1 = c.if-not-entry_given in
    let e : Entry = record { label = given.label.now; flags = given.flags; limit = given.limit } in
    entry-14 given.row.now e pre-was (fails entry-given-was.ensures test1.true)

pub entry_count-requires : goal.entry_count-requires
entry_count-requires c =
    let given = c.args in
    let pre-was = c.requires in
    least-of given.row.now pre-was

pub entries_room-entries-requires : goal.entries_room-entries-requires
entries_room-entries-requires c =
    let given = c.args in
    let pre-was = c.requires in
    least-of given.row.now pre-was

pub label_new-requires : goal.label_new-requires
label_new-requires c =
    let entries-room-was = c.entries_room-entries in
    let given = c.args in
    let pre-was = c.requires in
    let long-was = c.long-n in
    let entry-count-was = c.entry_count in
    (ap length entries-room-was.ensures ∙ length-room given.row.now (least-of given.row.now pre-was), omega (arith, most-four given.row.now pre-was, count-is given.row.now, long-was.ensures.0 ∙ entry-count-was.ensures), form-said given.row.now long-was.result entries-room-was.result.now (long-was.ensures.0 ∙ entry-count-was.ensures) entries-room-was.ensures pre-was)

pub returns-then-not-label_new : goal.returns-then-not-label_new
returns-then-not-label_new c =
    let given = c.args in
    let pre-was = c.requires in
    let entry-given-was = c.entry_given in
    let test1 = c.if-not-entry_given in
    let long-was = c.long-n in
    let entries-room-was = c.entries_room-entries in
    let entry-count-was = c.entry_count in
    let label-new-was = c.label_new in
    let test2 = c.if-not-label_new in
    let e : Entry = record { label = given.label.now; flags = given.flags; limit = given.limit } in
    entry-15 given.row.now e pre-was (passes_on entry-given-was.ensures test1.false) (fails (label-said given.row.now long-was.result entries-room-was.result.now (long-was.ensures.0 ∙ entry-count-was.ensures) entries-room-was.ensures e label-new-was.ensures) test2.true)

pub returns-then-n-ge-ENTRIES_MOST : goal.returns-then-n-ge-ENTRIES_MOST
returns-then-n-ge-ENTRIES_MOST c =
    let given = c.args in
    let pre-was = c.requires in
    let entry-given-was = c.entry_given in
    let test1 = c.if-not-entry_given in
    let long-was = c.long-n in
    let entries-room-was = c.entries_room-entries in
    let entry-count-was = c.entry_count in
    let label-new-was = c.label_new in
    let test2 = c.if-not-label_new in
    let test3 = c.if-n-ge-ENTRIES_MOST in
    let e : Entry = record { label = given.label.now; flags = given.flags; limit = given.limit } in
    entry-16 given.row.now e pre-was (passes_on entry-given-was.ensures test1.false) (passes_on (label-said given.row.now long-was.result entries-room-was.result.now (long-was.ensures.0 ∙ entry-count-was.ensures) entries-room-was.ensures e label-new-was.ensures) test2.false) (omega (arith, count-is given.row.now, long-was.ensures.0 ∙ entry-count-was.ensures, test3.true))

pub limits_sum-requires : goal.limits_sum-requires
limits_sum-requires c =
    let entries-room-was = c.entries_room-entries in
    let given = c.args in
    let pre-was = c.requires in
    let long-was = c.long-n in
    let entry-count-was = c.entry_count in
    (ap length entries-room-was.ensures ∙ length-room given.row.now (least-of given.row.now pre-was), omega (arith, most-four given.row.now pre-was, count-is given.row.now, long-was.ensures.0 ∙ entry-count-was.ensures))

pub returns-then-limits_sum-wide-gt8 : goal.returns-then-limits_sum-wide-gt8
returns-then-limits_sum-wide-gt8 c =
    let given = c.args in
    let pre-was = c.requires in
    let entry-given-was = c.entry_given in
    let test1 = c.if-not-entry_given in
    let long-was = c.long-n in
    let entries-room-was = c.entries_room-entries in
    let entry-count-was = c.entry_count in
    let label-new-was = c.label_new in
    let test2 = c.if-not-label_new in
    let test3 = c.if-n-ge-ENTRIES_MOST in
    let limits-sum-was = c.limits_sum in
    let wide-was = c.wide in
    let test4 = c.if-limits_sum-wide-gt8 in
    let e : Entry = record { label = given.label.now; flags = given.flags; limit = given.limit } in
    entry-17 given.row.now e pre-was (passes_on entry-given-was.ensures test1.false) (passes_on (label-said given.row.now long-was.result entries-room-was.result.now (long-was.ensures.0 ∙ entry-count-was.ensures) entries-room-was.ensures e label-new-was.ensures) test2.false) (omega (arith, count-is given.row.now, long-was.ensures.0 ∙ entry-count-was.ensures, test3.false))
    (omega (arith, sum_said given.row.now long-was.result entries-room-was.result.now (long-was.ensures.0 ∙ entry-count-was.ensures) entries-room-was.ensures limits-sum-was.ensures.0, wide-was.ensures.0, test4.true))

pub returns : goal.returns
returns c =
    let given = c.args in
    let pre-was = c.requires in
    let entry-given-was = c.entry_given in
    let test1 = c.if-not-entry_given in
    let long-was = c.long-n in
    let entries-room-was = c.entries_room-entries in
    let entry-count-was = c.entry_count in
    let label-new-was = c.label_new in
    let test2 = c.if-not-label_new in
    let test3 = c.if-n-ge-ENTRIES_MOST in
    let limits-sum-was = c.limits_sum in
    let wide-was = c.wide in
    let test4 = c.if-limits_sum-wide-gt8 in
    let e : Entry = record { label = given.label.now; flags = given.flags; limit = given.limit } in
    entry-0 given.row.now e pre-was (passes_on entry-given-was.ensures test1.false) (passes_on (label-said given.row.now long-was.result entries-room-was.result.now (long-was.ensures.0 ∙ entry-count-was.ensures) entries-room-was.ensures e label-new-was.ensures) test2.false) (omega (arith, count-is given.row.now, long-was.ensures.0 ∙ entry-count-was.ensures, test3.false))
    (omega (arith, sum_said given.row.now long-was.result entries-room-was.result.now (long-was.ensures.0 ∙ entry-count-was.ensures) entries-room-was.ensures limits-sum-was.ensures.0, wide-was.ensures.0, test4.false))
