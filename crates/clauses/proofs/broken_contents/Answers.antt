-- One law of Laws for each way out: `breaks-5` to `breaks-12`, and `contents-kept`.
use mathlib.Core.Path.{◌∙◌, ap}
use native.Mathlib.Omega.{arith}
use lib.ListN.{length}
use Rattle.table.proofs.Tests.{fails, passes_on}
use Rattle.row.proofs.Entries.{length-room, row-least}
use Rattle.soundness.proofs.Tested.{head-count}
use Rattle.clauses.specs.Clauses.{clause_number}
use Rattle.clauses.proofs.Laws.{breaks-10, breaks-11, breaks-12, breaks-5, breaks-6, breaks-7, breaks-8, breaks-9, contents-kept, entries-form-said, form-holds, labels-are, limits-fit, limits-over}
use Rattle.clauses.proofs.broken_contents.Goals as goal

pub line_exact-requires : goal.line_exact-requires
line_exact-requires c =
    let given = c.args in
    let pre-was = c.requires in
    row-least given.r.now pre-was.0

pub returns-then-not-line_exact : goal.returns-then-not-line_exact
unfolding clause_number
returns-then-not-line_exact c =
    let given = c.args in
    let line-exact-was = c.line_exact in
    let test1 = c.if-not-line_exact in
    breaks-5 given.r.now (fails line-exact-was.ensures test1.true)

pub entry_count-requires : goal.entry_count-requires
entry_count-requires c =
    let given = c.args in
    let pre-was = c.requires in
    row-least given.r.now pre-was.0

pub entries_room-entries-requires : goal.entries_room-entries-requires
entries_room-entries-requires c =
    let given = c.args in
    let pre-was = c.requires in
    row-least given.r.now pre-was.0

pub labels_differ-requires : goal.labels_differ-requires
labels_differ-requires c =
    let entries-room-was = c.entries_room-entries in
    let given = c.args in
    let pre-was = c.requires in
    let long-was = c.from-n in
    let entry-count-was = c.entry_count in
    (ap length entries-room-was.ensures ∙ length-room given.r.now (row-least given.r.now pre-was.0), omega (arith, head-count given.r.now (form-holds given.r.now pre-was.1).0, long-was.ensures ∙ entry-count-was.ensures), entries-form-said given.r.now long-was.result entries-room-was.result.now (long-was.ensures ∙ entry-count-was.ensures) entries-room-was.ensures (form-holds given.r.now pre-was.1).1)

pub returns-then-not-labels_differ : goal.returns-then-not-labels_differ
unfolding clause_number
returns-then-not-labels_differ c =
    let given = c.args in
    let line-exact-was = c.line_exact in
    let test1 = c.if-not-line_exact in
    let long-was = c.from-n in
    let entries-room-was = c.entries_room-entries in
    let entry-count-was = c.entry_count in
    let labels-differ-was = c.labels_differ in
    let test2 = c.if-not-labels_differ in
    breaks-6 given.r.now (passes_on line-exact-was.ensures test1.false) (labels-are given.r.now long-was.result entries-room-was.result.now (long-was.ensures ∙ entry-count-was.ensures) entries-room-was.ensures ∙ fails labels-differ-was.ensures test2.true)

pub limits_sum-requires : goal.limits_sum-requires
limits_sum-requires c =
    let entries-room-was = c.entries_room-entries in
    let given = c.args in
    let pre-was = c.requires in
    let long-was = c.from-n in
    let entry-count-was = c.entry_count in
    (ap length entries-room-was.ensures ∙ length-room given.r.now (row-least given.r.now pre-was.0), omega (arith, head-count given.r.now (form-holds given.r.now pre-was.1).0, long-was.ensures ∙ entry-count-was.ensures))

pub returns-then-limits_sum-gt8 : goal.returns-then-limits_sum-gt8
unfolding clause_number
returns-then-limits_sum-gt8 c =
    let given = c.args in
    let line-exact-was = c.line_exact in
    let test1 = c.if-not-line_exact in
    let long-was = c.from-n in
    let entries-room-was = c.entries_room-entries in
    let entry-count-was = c.entry_count in
    let labels-differ-was = c.labels_differ in
    let test2 = c.if-not-labels_differ in
    let limits-sum-was = c.limits_sum in
    let test3 = c.if-limits_sum-gt8 in
    breaks-7 given.r.now (passes_on line-exact-was.ensures test1.false) (labels-are given.r.now long-was.result entries-room-was.result.now (long-was.ensures ∙ entry-count-was.ensures) entries-room-was.ensures ∙ passes_on labels-differ-was.ensures test2.false) (limits-over given.r.now long-was.result entries-room-was.result.now (long-was.ensures ∙ entry-count-was.ensures) entries-room-was.ensures (omega (arith, limits-sum-was.ensures.0, test3.true)))

pub sessions_differ-requires : goal.sessions_differ-requires
sessions_differ-requires c =
    let pre-was = c.requires in
    let line-exact-was = c.line_exact in
    let test1 = c.if-not-line_exact in
    (pre-was.0, (passes_on line-exact-was.ensures test1.false))

pub returns-then-not-sessions_differ : goal.returns-then-not-sessions_differ
unfolding clause_number
returns-then-not-sessions_differ c =
    let given = c.args in
    let line-exact-was = c.line_exact in
    let test1 = c.if-not-line_exact in
    let long-was = c.from-n in
    let entries-room-was = c.entries_room-entries in
    let entry-count-was = c.entry_count in
    let labels-differ-was = c.labels_differ in
    let test2 = c.if-not-labels_differ in
    let limits-sum-was = c.limits_sum in
    let test3 = c.if-limits_sum-gt8 in
    let sessions-differ-was = c.sessions_differ in
    let test4 = c.if-not-sessions_differ in
    breaks-8 given.r.now (passes_on line-exact-was.ensures test1.false) (labels-are given.r.now long-was.result entries-room-was.result.now (long-was.ensures ∙ entry-count-was.ensures) entries-room-was.ensures ∙ passes_on labels-differ-was.ensures test2.false) (limits-fit given.r.now long-was.result entries-room-was.result.now (long-was.ensures ∙ entry-count-was.ensures) entries-room-was.ensures (omega (arith, limits-sum-was.ensures.0, test3.false))) (fails sessions-differ-was.ensures test4.true)

pub entries_exist-requires : goal.entries_exist-requires
entries_exist-requires c =
    let pre-was = c.requires in
    let line-exact-was = c.line_exact in
    let test1 = c.if-not-line_exact in
    (pre-was.0, (passes_on line-exact-was.ensures test1.false))

pub returns-then-not-entries_exist : goal.returns-then-not-entries_exist
unfolding clause_number
returns-then-not-entries_exist c =
    let given = c.args in
    let line-exact-was = c.line_exact in
    let test1 = c.if-not-line_exact in
    let long-was = c.from-n in
    let entries-room-was = c.entries_room-entries in
    let entry-count-was = c.entry_count in
    let labels-differ-was = c.labels_differ in
    let test2 = c.if-not-labels_differ in
    let limits-sum-was = c.limits_sum in
    let test3 = c.if-limits_sum-gt8 in
    let sessions-differ-was = c.sessions_differ in
    let test4 = c.if-not-sessions_differ in
    let entries-exist-was = c.entries_exist in
    let test5 = c.if-not-entries_exist in
    breaks-9 given.r.now (passes_on line-exact-was.ensures test1.false) (labels-are given.r.now long-was.result entries-room-was.result.now (long-was.ensures ∙ entry-count-was.ensures) entries-room-was.ensures ∙ passes_on labels-differ-was.ensures test2.false) (limits-fit given.r.now long-was.result entries-room-was.result.now (long-was.ensures ∙ entry-count-was.ensures) entries-room-was.ensures (omega (arith, limits-sum-was.ensures.0, test3.false))) (passes_on sessions-differ-was.ensures test4.false) (fails entries-exist-was.ensures test5.true)

pub under_limits-requires : goal.under_limits-requires
under_limits-requires c =
    let pre-was = c.requires in
    let line-exact-was = c.line_exact in
    let test1 = c.if-not-line_exact in
    let long-was = c.from-n in
    let entry-count-was = c.entry_count in
    let given = c.args in
    (pre-was.0, (passes_on line-exact-was.ensures test1.false), long-was.ensures ∙ entry-count-was.ensures, omega (arith, head-count given.r.now (form-holds given.r.now pre-was.1).0, long-was.ensures ∙ entry-count-was.ensures))

pub returns-then-not-under_limits : goal.returns-then-not-under_limits
unfolding clause_number
returns-then-not-under_limits c =
    let given = c.args in
    let line-exact-was = c.line_exact in
    let test1 = c.if-not-line_exact in
    let long-was = c.from-n in
    let entries-room-was = c.entries_room-entries in
    let entry-count-was = c.entry_count in
    let labels-differ-was = c.labels_differ in
    let test2 = c.if-not-labels_differ in
    let limits-sum-was = c.limits_sum in
    let test3 = c.if-limits_sum-gt8 in
    let sessions-differ-was = c.sessions_differ in
    let test4 = c.if-not-sessions_differ in
    let entries-exist-was = c.entries_exist in
    let test5 = c.if-not-entries_exist in
    let under-limits-was = c.under_limits in
    let test6 = c.if-not-under_limits in
    breaks-10 given.r.now (passes_on line-exact-was.ensures test1.false) (labels-are given.r.now long-was.result entries-room-was.result.now (long-was.ensures ∙ entry-count-was.ensures) entries-room-was.ensures ∙ passes_on labels-differ-was.ensures test2.false) (limits-fit given.r.now long-was.result entries-room-was.result.now (long-was.ensures ∙ entry-count-was.ensures) entries-room-was.ensures (omega (arith, limits-sum-was.ensures.0, test3.false))) (passes_on sessions-differ-was.ensures test4.false) (passes_on entries-exist-was.ensures test5.false) (fails under-limits-was.ensures test6.true)

pub policies_marked-requires : goal.policies_marked-requires
policies_marked-requires c =
    let pre-was = c.requires in
    let line-exact-was = c.line_exact in
    let test1 = c.if-not-line_exact in
    (pre-was.0, (passes_on line-exact-was.ensures test1.false))

pub returns-then-not-policies_marked : goal.returns-then-not-policies_marked
unfolding clause_number
returns-then-not-policies_marked c =
    let given = c.args in
    let line-exact-was = c.line_exact in
    let test1 = c.if-not-line_exact in
    let long-was = c.from-n in
    let entries-room-was = c.entries_room-entries in
    let entry-count-was = c.entry_count in
    let labels-differ-was = c.labels_differ in
    let test2 = c.if-not-labels_differ in
    let limits-sum-was = c.limits_sum in
    let test3 = c.if-limits_sum-gt8 in
    let sessions-differ-was = c.sessions_differ in
    let test4 = c.if-not-sessions_differ in
    let entries-exist-was = c.entries_exist in
    let test5 = c.if-not-entries_exist in
    let under-limits-was = c.under_limits in
    let test6 = c.if-not-under_limits in
    let policies-marked-was = c.policies_marked in
    let test7 = c.if-not-policies_marked in
    breaks-11 given.r.now (passes_on line-exact-was.ensures test1.false) (labels-are given.r.now long-was.result entries-room-was.result.now (long-was.ensures ∙ entry-count-was.ensures) entries-room-was.ensures ∙ passes_on labels-differ-was.ensures test2.false) (limits-fit given.r.now long-was.result entries-room-was.result.now (long-was.ensures ∙ entry-count-was.ensures) entries-room-was.ensures (omega (arith, limits-sum-was.ensures.0, test3.false))) (passes_on sessions-differ-was.ensures test4.false) (passes_on entries-exist-was.ensures test5.false) (passes_on under-limits-was.ensures test6.false) (fails policies-marked-was.ensures test7.true)

pub policies_ordered-requires : goal.policies_ordered-requires
policies_ordered-requires c =
    let pre-was = c.requires in
    let line-exact-was = c.line_exact in
    let test1 = c.if-not-line_exact in
    (pre-was.0, passes_on line-exact-was.ensures test1.false)

pub returns-then-not-policies_ordered : goal.returns-then-not-policies_ordered
unfolding clause_number
returns-then-not-policies_ordered c =
    let given = c.args in
    let line-exact-was = c.line_exact in
    let test1 = c.if-not-line_exact in
    let long-was = c.from-n in
    let entries-room-was = c.entries_room-entries in
    let entry-count-was = c.entry_count in
    let labels-differ-was = c.labels_differ in
    let test2 = c.if-not-labels_differ in
    let limits-sum-was = c.limits_sum in
    let test3 = c.if-limits_sum-gt8 in
    let sessions-differ-was = c.sessions_differ in
    let test4 = c.if-not-sessions_differ in
    let entries-exist-was = c.entries_exist in
    let test5 = c.if-not-entries_exist in
    let under-limits-was = c.under_limits in
    let test6 = c.if-not-under_limits in
    let policies-marked-was = c.policies_marked in
    let test7 = c.if-not-policies_marked in
    let policies-ordered-was = c.policies_ordered in
    let test8 = c.if-not-policies_ordered in
    breaks-12 given.r.now (passes_on line-exact-was.ensures test1.false) (labels-are given.r.now long-was.result entries-room-was.result.now (long-was.ensures ∙ entry-count-was.ensures) entries-room-was.ensures ∙ passes_on labels-differ-was.ensures test2.false) (limits-fit given.r.now long-was.result entries-room-was.result.now (long-was.ensures ∙ entry-count-was.ensures) entries-room-was.ensures (omega (arith, limits-sum-was.ensures.0, test3.false))) (passes_on sessions-differ-was.ensures test4.false) (passes_on entries-exist-was.ensures test5.false) (passes_on under-limits-was.ensures test6.false) (passes_on policies-marked-was.ensures test7.false) (fails policies-ordered-was.ensures test8.true)

pub returns : goal.returns
unfolding clause_number
returns c =
    let given = c.args in
    let line-exact-was = c.line_exact in
    let test1 = c.if-not-line_exact in
    let long-was = c.from-n in
    let entries-room-was = c.entries_room-entries in
    let entry-count-was = c.entry_count in
    let labels-differ-was = c.labels_differ in
    let test2 = c.if-not-labels_differ in
    let limits-sum-was = c.limits_sum in
    let test3 = c.if-limits_sum-gt8 in
    let sessions-differ-was = c.sessions_differ in
    let test4 = c.if-not-sessions_differ in
    let entries-exist-was = c.entries_exist in
    let test5 = c.if-not-entries_exist in
    let under-limits-was = c.under_limits in
    let test6 = c.if-not-under_limits in
    let policies-marked-was = c.policies_marked in
    let test7 = c.if-not-policies_marked in
    let policies-ordered-was = c.policies_ordered in
    let test8 = c.if-not-policies_ordered in
    contents-kept given.r.now (passes_on line-exact-was.ensures test1.false) (labels-are given.r.now long-was.result entries-room-was.result.now (long-was.ensures ∙ entry-count-was.ensures) entries-room-was.ensures ∙ passes_on labels-differ-was.ensures test2.false) (limits-fit given.r.now long-was.result entries-room-was.result.now (long-was.ensures ∙ entry-count-was.ensures) entries-room-was.ensures (omega (arith, limits-sum-was.ensures.0, test3.false))) (passes_on sessions-differ-was.ensures test4.false) (passes_on entries-exist-was.ensures test5.false) (passes_on under-limits-was.ensures test6.false) (passes_on policies-marked-was.ensures test7.false) (passes_on policies-ordered-was.ensures test8.false)
