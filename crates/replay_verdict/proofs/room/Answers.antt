-- The room is too short, differs from the text, or its rest decides.
use mathlib.Core.Path.{sym, ◌∙◌}
use Prim.Native.Nat.{◌-◌}
use native.Mathlib.Omega.{arith}
use lib.ListN.{length}
use Rattle.replay_verdict.specs.Verdicts.{agreed}
use Rattle.replay_verdict.proofs.Laws.{room-short, room-differs, room-rest}
use Rattle.replay_verdict.proofs.room.Goals as goal

pub returns-then-room-n : goal.returns-then-room-n
unfolding agreed
returns-then-room-n c =
    let a = c.args in
    sym (room-short a.seed a.room.now a.text.now (omega arith))

pub returns-then-i-n : goal.returns-then-i-n
unfolding agreed
returns-then-i-n c =
    let a = c.args in
    let u = c.first_unlike-i in
    sym (room-differs a.seed a.room.now a.text.now (length a.text.now - 0) u.result (omega arith) (omega arith) u.ensures.0 (omega arith))

pub returns-then-is_filled : goal.returns-then-is_filled
unfolding agreed
returns-then-is_filled c =
    let a = c.args in
    let u = c.first_unlike-i in
    sym (room-rest a.seed a.room.now a.text.now (length a.text.now - 0) u.result (omega arith) (omega arith) u.ensures.0 (omega arith)
    ∙ (sym c.is_filled.ensures ∙ c.if-is_filled.true))

pub returns : goal.returns
unfolding agreed
returns c =
    let a = c.args in
    let u = c.first_unlike-i in
    sym (room-rest a.seed a.room.now a.text.now (length a.text.now - 0) u.result (omega arith) (omega arith) u.ensures.0 (omega arith)
    ∙ (sym c.is_filled.ensures ∙ c.if-is_filled.false))
