use mathlib.Core.Path.{◌∙◌, sym}
use native.Mathlib.Omega.{arith}
use Rattle.soundness.specs.Blocks.{other_sound}
use Rattle.table.proofs.Tests.{fails, passes_on}
use Rattle.soundness.proofs.Line.{places-all, places-end, places-turn}
use Rattle.soundness.proofs.seconds_sound.Goals as goal

pub loop-k-init : goal.loop-k-init
loop-k-init c =
    let given = c.args in
    (places-all (other_sound given.r.now))

pub returns-then-not-second_sound : goal.returns-then-not-second_sound
returns-then-not-second_sound c =
    let given = c.args in
    let loop-was = c.loop-k in
    let second-sound-was = c.second_sound in
    let test1 = c.if-not-second_sound in
    sym (places-turn (other_sound given.r.now) loop-was.k (omega arith) ∙ rw (fails second-sound-was.ensures test1.true)) ∙ loop-was.invariant

pub loop-k-preserved : goal.loop-k-preserved
loop-k-preserved c =
    let given = c.args in
    let loop-was = c.loop-k in
    let second-sound-was = c.second_sound in
    let test1 = c.if-not-second_sound in
    (sym (places-turn (other_sound given.r.now) loop-was.k (omega arith) ∙ rw (passes_on second-sound-was.ensures test1.false)) ∙ loop-was.invariant)

pub returns : goal.returns
returns c =
    let given = c.args in
    let loop-was = c.loop-k in
    sym (places-end (other_sound given.r.now) loop-was.k (omega arith)) ∙ loop-was.invariant
