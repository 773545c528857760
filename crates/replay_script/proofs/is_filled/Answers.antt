use Rattle.replay_script.specs.TheScript.{room_byte}
use Rattle.replay_script.proofs.Steps.{filled-step, filled-differ, filled-end}
use mathlib.Core.Path.{◌≡◌, sym, ◌∙◌}
use native.Mathlib.Omega.{arith}
use lib.ListN.{get_or}
use Rattle.replay_script.proofs.is_filled.Goals as goal

pub returns-then-room-i : goal.returns-then-room-i
returns-then-room-i c =
    let room = c.args.room.now in
    let seed = c.args.seed in
    let e : get_or room c.loop-i.i 0 ≡ room_byte seed c.loop-i.i → ⊥ = rw c.room_byte.ensures at c.if-room-i.true in
    sym (filled-differ seed room c.loop-i.i (omega arith) e) ∙ c.loop-i.invariant.1

pub loop-i-preserved : goal.loop-i-preserved
loop-i-preserved c =
    let room = c.args.room.now in
    let seed = c.args.seed in
    (omega arith, filled-step seed room c.loop-i.i (omega arith) (c.if-room-i.false ∙ c.room_byte.ensures) ∙ c.loop-i.invariant.1)

pub returns : goal.returns
returns c =
    let room = c.args.room.now in
    sym (filled-end c.args.seed room c.loop-i.i (omega arith)) ∙ c.loop-i.invariant.1
