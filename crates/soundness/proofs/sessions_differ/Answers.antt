use mathlib.Core.Path.{◌∙◌, ◌≡◌, sym}
use mathlib.Core.Bool.{false, not, true}
use mathlib.Core.List.{List, []}
use Prim.Native.Nat.{◌+◌, ℕ}
use native.Mathlib.Omega.{arith}
use lib.ListN.{drop, get_or}
use Rattle.row.proofs.Entries.{row-least}
use Rattle.octets.specs.Lists.{every}
use Rattle.octets.specs.Texts.{same}
use Rattle.table.specs.Soundness.{sessions}
use Rattle.table.specs.TheTable.{read_row}
use Rattle.table.proofs.Tests.{distinct-end, distinct-turn, fails, passes_on}
use Rattle.soundness.proofs.Accesses.{length-sessions}
use Rattle.soundness.proofs.sessions_differ.Goals as goal

pub accesses_in_use-n-requires : goal.accesses_in_use-n-requires
accesses_in_use-n-requires c =
    let given = c.args in
    let pre-was = c.requires in
    (row-least given.r.now pre-was.0, pre-was.1)

pub session_once-requires : goal.session_once-requires
session_once-requires c =
    let pre-was = c.requires in
    let accesses-in-use-was = c.accesses_in_use-n in
    (pre-was.0, pre-was.1, accesses-in-use-was.ensures.0, omega arith)

-- the way on comes before the way out, so that what is passed wrongly is refused here
pub loop-i-preserved : goal.loop-i-preserved
loop-i-preserved c =
    let given = c.args in
    let loop-was = c.loop-i in
    let session-once-was = c.session_once in
    let test1 = c.if-not-session_once in
    let accesses-in-use-was = c.accesses_in_use-n in
    let all : List (List ℕ) = sessions (read_row given.r.now).accesses in
    let said : every (λ y. not (same (get_or all loop-was.i []) y)) (drop (loop-was.i + 1) all) ≡ true = passes_on session-once-was.ensures test1.false in
    (sym (distinct-turn [] same all loop-was.i (omega (arith, length-sessions given.r.now, accesses-in-use-was.ensures.0)) ∙ rw said) ∙ loop-was.invariant)

pub returns-then-not-session_once : goal.returns-then-not-session_once
returns-then-not-session_once c =
    let given = c.args in
    let loop-was = c.loop-i in
    let session-once-was = c.session_once in
    let test1 = c.if-not-session_once in
    let accesses-in-use-was = c.accesses_in_use-n in
    let all : List (List ℕ) = sessions (read_row given.r.now).accesses in
    let said : every (λ y. not (same (get_or all loop-was.i []) y)) (drop (loop-was.i + 1) all) ≡ false = fails session-once-was.ensures test1.true in
    sym (distinct-turn [] same all loop-was.i (omega (arith, length-sessions given.r.now, accesses-in-use-was.ensures.0)) ∙ rw said) ∙ loop-was.invariant

pub returns : goal.returns
returns c =
    let given = c.args in
    let loop-was = c.loop-i in
    let accesses-in-use-was = c.accesses_in_use-n in
    let all : List (List ℕ) = sessions (read_row given.r.now).accesses in
    sym (distinct-end [] same all loop-was.i (omega (arith, length-sessions given.r.now, accesses-in-use-was.ensures.0))) ∙ loop-was.invariant
