use mathlib.Core.Path.{◌∙◌, ◌≡◌, ap, sym}
use mathlib.Core.Bool.{not}
use mathlib.Core.List.{List, []}
use Prim.Native.Nat.{ℕ}
use native.Mathlib.Omega.{arith}
use lib.ListN.{get_or}
use Rattle.octets.specs.Texts.{same}
use Rattle.table.specs.Soundness.{sessions}
use Rattle.table.specs.TheTable.{read_row}
use Rattle.table.proofs.Tests.{every-end, every-on-true, every-out}
use Rattle.soundness.proofs.Line.{line_low, line-most, place-high}
use Rattle.soundness.proofs.Accesses.{length-sessions, session-at}
use Rattle.row.proofs.Entries.{row-least}
use Rattle.soundness.proofs.session_once.Goals as goal

pub line_place-requires : goal.line_place-requires
line_place-requires c =
    let pre-was = c.requires in
    let given = c.args in
    (row-least given.r.now pre-was.0, omega (arith, line-most given.r.now))

pub session-this-requires : goal.session-this-requires
session-this-requires c =
    let pre-was = c.requires in
    let given = c.args in
    let line-place-was = c.line_place in
    (pre-was.0, omega (arith, line_low given.r.now given.i (omega arith), line-place-was.ensures.0), omega (arith, place-high given.r.now given.i pre-was.1 (omega arith), line-place-was.ensures.0))

pub line_place-requires-in-loop-j : goal.line_place-requires-in-loop-j
line_place-requires-in-loop-j c =
    let pre-was = c.requires in
    let given = c.args in
    (row-least given.r.now pre-was.0, omega (arith, line-most given.r.now))

pub session-other-requires : goal.session-other-requires
session-other-requires c =
    let pre-was = c.requires in
    let given = c.args in
    let loop-was = c.loop-j in
    let line-place2-was = c.line_place-in-loop-j in
    (pre-was.0, omega (arith, line_low given.r.now loop-was.j (omega arith), line-place2-was.ensures.0), omega (arith, place-high given.r.now loop-was.j pre-was.1 (omega arith), line-place2-was.ensures.0))

pub returns-then-same_bytes : goal.returns-then-same_bytes
returns-then-same_bytes c =
    let given = c.args in
    let same-bytes-was = c.same_bytes in
    let loop-was = c.loop-j in
    let session2-was = c.session-other in
    let session-was = c.session-this in
    let line-place-was = c.line_place in
    let line-place2-was = c.line_place-in-loop-j in
    let test1 = c.if-same_bytes in
    let all : List (List ℕ) = sessions (read_row given.r.now).accesses in
    let said : same-bytes-was.result ≡ same (get_or all given.i []) (get_or all loop-was.j []) =
    same-bytes-was.ensures ∙ ap (λ (t : List ℕ). same t session2-was.result.now) (session-was.ensures ∙ session-at given.r.now given.i line-place-was.result (omega arith) line-place-was.ensures.0)
    ∙ ap (same (get_or all given.i [])) (session2-was.ensures ∙ session-at given.r.now loop-was.j line-place2-was.result (omega arith) line-place2-was.ensures.0) in
    sym (every-out [] (λ y. not (same (get_or all given.i []) y)) all loop-was.j (omega (arith, length-sessions given.r.now)) (ap not (sym said ∙ test1.true))) ∙ loop-was.invariant

pub loop-j-preserved : goal.loop-j-preserved
loop-j-preserved c =
    let given = c.args in
    let same-bytes-was = c.same_bytes in
    let loop-was = c.loop-j in
    let session2-was = c.session-other in
    let session-was = c.session-this in
    let line-place-was = c.line_place in
    let line-place2-was = c.line_place-in-loop-j in
    let test1 = c.if-same_bytes in
    let all : List (List ℕ) = sessions (read_row given.r.now).accesses in
    let said : same-bytes-was.result ≡ same (get_or all given.i []) (get_or all loop-was.j []) =
    same-bytes-was.ensures ∙ ap (λ (t : List ℕ). same t session2-was.result.now) (session-was.ensures ∙ session-at given.r.now given.i line-place-was.result (omega arith) line-place-was.ensures.0)
    ∙ ap (same (get_or all given.i [])) (session2-was.ensures ∙ session-at given.r.now loop-was.j line-place2-was.result (omega arith) line-place2-was.ensures.0) in
    (every-on-true [] (λ y. not (same (get_or all given.i []) y)) all loop-was.j (omega (arith, length-sessions given.r.now)) (ap not (sym said ∙ test1.false)) ∙ loop-was.invariant)

pub returns : goal.returns
returns c =
    let given = c.args in
    let loop-was = c.loop-j in
    let all : List (List ℕ) = sessions (read_row given.r.now).accesses in
    sym (every-end [] (λ y. not (same (get_or all given.i []) y)) all loop-was.j (omega (arith, length-sessions given.r.now))) ∙ loop-was.invariant
