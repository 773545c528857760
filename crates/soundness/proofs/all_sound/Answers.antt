-- The tests in the code's order are the paper's clauses: `sound-by` of Tested. Each way out is the first that fails.
use mathlib.Core.Path.{◌∙◌, ap}
use Prim.Native.Nat.{ℕ}
use native.Mathlib.Omega.{arith}
use lib.ListN.{length}
use Rattle.octets.specs.Lists.{every}
use Rattle.blocks.specs.RowTests.{place_sound}
use Rattle.table.specs.Soundness.{sums_agree}
use Rattle.table.specs.TheTable.{places}
use Rattle.row.proofs.Entries.{head-size, row-least}
use Rattle.table.proofs.Tests.{fails, passes_on}
use Rattle.soundness.proofs.Tested.{few-entries, sound-by, tested}
use Rattle.soundness.proofs.all_sound.Goals as goal

pub head_sound-requires : goal.head_sound-requires
head_sound-requires c =
    let given = c.args in
    let pre-was = c.requires in
    row-least given.r.now pre-was

pub returns-then-not-head_sound : goal.returns-then-not-head_sound
unfolding tested
returns-then-not-head_sound c =
    let given = c.args in
    let pre-was = c.requires in
    let head-sound-was = c.head_sound in
    let test1 = c.if-not-head_sound in
    rw (sound-by given.r.now pre-was, fails head-sound-was.ensures test1.true)

pub line_exact-requires : goal.line_exact-requires
line_exact-requires c =
    let given = c.args in
    let pre-was = c.requires in
    row-least given.r.now pre-was

pub returns-then-not-line_exact : goal.returns-then-not-line_exact
unfolding tested
returns-then-not-line_exact c =
    let given = c.args in
    let pre-was = c.requires in
    let head-sound-was = c.head_sound in
    let test1 = c.if-not-head_sound in
    let line-exact-was = c.line_exact in
    let test2 = c.if-not-line_exact in
    rw (sound-by given.r.now pre-was, passes_on head-sound-was.ensures test1.false, fails line-exact-was.ensures test2.true)

pub entry_count-n-requires : goal.entry_count-n-requires
entry_count-n-requires c =
    let given = c.args in
    let pre-was = c.requires in
    row-least given.r.now pre-was

pub returns-then-not-places_sound : goal.returns-then-not-places_sound
unfolding tested
returns-then-not-places_sound c =
    let given = c.args in
    let pre-was = c.requires in
    let head-sound-was = c.head_sound in
    let test1 = c.if-not-head_sound in
    let line-exact-was = c.line_exact in
    let test2 = c.if-not-line_exact in
    let places-sound-was = c.places_sound in
    let entry-count-was = c.entry_count-n in
    let test3 = c.if-not-places_sound in
    rw (sound-by given.r.now pre-was, passes_on head-sound-was.ensures test1.false, passes_on line-exact-was.ensures test2.false, fails (places-sound-was.ensures ∙ ap (λ (n : ℕ). every (place_sound n given.r.now) places) entry-count-was.ensures) test3.true)

pub sessions_differ-requires : goal.sessions_differ-requires
sessions_differ-requires c =
    let pre-was = c.requires in
    let line-exact-was = c.line_exact in
    let test2 = c.if-not-line_exact in
    (pre-was, passes_on line-exact-was.ensures test2.false)

pub returns-then-not-sessions_differ : goal.returns-then-not-sessions_differ
unfolding tested
returns-then-not-sessions_differ c =
    let given = c.args in
    let pre-was = c.requires in
    let head-sound-was = c.head_sound in
    let test1 = c.if-not-head_sound in
    let line-exact-was = c.line_exact in
    let test2 = c.if-not-line_exact in
    let places-sound-was = c.places_sound in
    let entry-count-was = c.entry_count-n in
    let test3 = c.if-not-places_sound in
    let sessions-differ-was = c.sessions_differ in
    let test4 = c.if-not-sessions_differ in
    rw (sound-by given.r.now pre-was, passes_on head-sound-was.ensures test1.false, passes_on line-exact-was.ensures test2.false, passes_on (places-sound-was.ensures ∙ ap (λ (n : ℕ). every (place_sound n given.r.now) places) entry-count-was.ensures) test3.false, fails sessions-differ-was.ensures test4.true)

pub under_limits-requires : goal.under_limits-requires
under_limits-requires c =
    let pre-was = c.requires in
    let line-exact-was = c.line_exact in
    let test2 = c.if-not-line_exact in
    let from-was = c.from in
    let entry-count-was = c.entry_count-n in
    let given = c.args in
    let head-sound-was = c.head_sound in
    let test1 = c.if-not-head_sound in
    (pre-was, passes_on line-exact-was.ensures test2.false, from-was.ensures ∙ entry-count-was.ensures, omega (arith, few-entries given.r.now (passes_on head-sound-was.ensures test1.false), from-was.ensures ∙ entry-count-was.ensures))

pub returns-then-not-under_limits : goal.returns-then-not-under_limits
unfolding tested
returns-then-not-under_limits c =
    let given = c.args in
    let pre-was = c.requires in
    let head-sound-was = c.head_sound in
    let test1 = c.if-not-head_sound in
    let line-exact-was = c.line_exact in
    let test2 = c.if-not-line_exact in
    let places-sound-was = c.places_sound in
    let entry-count-was = c.entry_count-n in
    let test3 = c.if-not-places_sound in
    let sessions-differ-was = c.sessions_differ in
    let test4 = c.if-not-sessions_differ in
    let under-limits-was = c.under_limits in
    let test5 = c.if-not-under_limits in
    rw (sound-by given.r.now pre-was, passes_on head-sound-was.ensures test1.false, passes_on line-exact-was.ensures test2.false, passes_on (places-sound-was.ensures ∙ ap (λ (n : ℕ). every (place_sound n given.r.now) places) entry-count-was.ensures) test3.false, passes_on sessions-differ-was.ensures test4.false, fails under-limits-was.ensures test5.true)

pub head-requires : goal.head-requires
head-requires c =
    let given = c.args in
    let pre-was = c.requires in
    row-least given.r.now pre-was

pub block_sums_agree-requires : goal.block_sums_agree-requires
block_sums_agree-requires c =
    let head-was = c.head in
    let given = c.args in
    let pre-was = c.requires in
    ap length head-was.ensures ∙ head-size given.r.now (row-least given.r.now pre-was)

pub returns : goal.returns
unfolding tested
returns c =
    let given = c.args in
    let pre-was = c.requires in
    let head-sound-was = c.head_sound in
    let test1 = c.if-not-head_sound in
    let line-exact-was = c.line_exact in
    let test2 = c.if-not-line_exact in
    let places-sound-was = c.places_sound in
    let entry-count-was = c.entry_count-n in
    let test3 = c.if-not-places_sound in
    let sessions-differ-was = c.sessions_differ in
    let test4 = c.if-not-sessions_differ in
    let under-limits-was = c.under_limits in
    let test5 = c.if-not-under_limits in
    let block-sums-agree-was = c.block_sums_agree in
    let head-was = c.head in
    rw (sound-by given.r.now pre-was, passes_on head-sound-was.ensures test1.false, passes_on line-exact-was.ensures test2.false, passes_on (places-sound-was.ensures ∙ ap (λ (n : ℕ). every (place_sound n given.r.now) places) entry-count-was.ensures) test3.false, passes_on sessions-differ-was.ensures test4.false, passes_on under-limits-was.ensures test5.false)
    (block-sums-agree-was.ensures ∙ ap sums_agree head-was.ensures)
